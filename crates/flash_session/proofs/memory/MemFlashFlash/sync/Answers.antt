use Rattle.flash_session.proofs.Runs.{same_stays}
use Rattle.flash_session.proofs.InMemory.{refused, synced}
use Rattle.flash_session.proofs.memory.MemFlashFlash.sync.Goals as goal

pub returns-then-fails_now-clause-serves : goal.returns-then-fails_now-clause-serves
returns-then-fails_now-clause-serves c = rw (← c.self.view_is) (refused same_stays c.fails_now.ensures.kept c.if-fails_now.ensures.risen)

pub returns-clause-serves : goal.returns-clause-serves
returns-clause-serves c = rw (← c.self.view_is) (synced c.fails_now.ensures.kept (c.note_sync.ensures.stops _))
