use Rattle.std.proofs.Common.{arith}
use Rattle.flash_session.proofs.Runs.{same_stays}
use Rattle.flash_session.proofs.InMemory.{refused, beside}
use Rattle.flash_session.proofs.stops.StopFlashFlash.sync.Goals as goal

pub returns-then-not-passes-clause-serves : goal.returns-then-not-passes-clause-serves
returns-then-not-passes-clause-serves c = rw (← c.self.view_is) (refused same_stays (omega (arith, c.passes.ensures.later)) (omega (arith, c.if-not-passes.ensures.risen)))

pub returns-clause-serves : goal.returns-clause-serves
returns-clause-serves c = rw (← c.self.view_is) (beside c.if-not-passes.ensures.kept c.sync.ensures.serves)
