use Rattle.std.proofs.Common.{arith, rules}
use Rattle.std.proofs.lemmas.Grind.{common_steps}
use Rattle.flash_session.proofs.Runs.{same_stays}
use Rattle.flash_session.proofs.Still.{same_self}
use Rattle.flash_session.proofs.InMemory.{refused, read_on}
use Rattle.flash_session.proofs.memory.MemFlashFlash.read.Goals as goal

pub returns-then-fails_now-clause-reads : goal.returns-then-fails_now-clause-reads
returns-then-fails_now-clause-reads c = rw (← c.self.view_is) (record {
  told = tt;
  stays = same_self _;
  serves = refused same_stays c.fails_now.ensures.kept c.if-fails_now.ensures.risen;
})

pub returns-clause-reads : goal.returns-clause-reads
returns-clause-reads c = rw (← c.self.view_is) (record {
  told = record { bytes = λ b now i lt. rw now (first_of (search rules, cc, grind (arith, common_steps))) };
  stays = same_self _;
  serves = read_on c.fails_now.ensures.kept;
})
