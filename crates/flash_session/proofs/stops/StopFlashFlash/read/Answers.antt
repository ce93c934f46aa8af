use Rattle.std.proofs.Common.{arith}
use Rattle.flash_session.proofs.Runs.{same_stays}
use Rattle.flash_session.proofs.Still.{same_self}
use Rattle.flash_session.proofs.InMemory.{refused, beside}
use Rattle.flash_session.proofs.stops.StopFlashFlash.read.Goals as goal

pub returns-then-not-passes-clause-reads : goal.returns-then-not-passes-clause-reads
returns-then-not-passes-clause-reads c = rw (← c.self.view_is) (record {
  told = tt;
  stays = same_self _;
  serves = refused same_stays (omega (arith, c.passes.ensures.later)) (omega (arith, c.if-not-passes.ensures.risen));
})

pub returns-clause-reads : goal.returns-clause-reads
returns-clause-reads c = rw (← c.self.view_is) (record {
  told = c.read.ensures.reads.told;
  stays = c.read.ensures.reads.stays;
  serves = beside c.if-not-passes.ensures.kept c.read.ensures.reads.serves;
})
