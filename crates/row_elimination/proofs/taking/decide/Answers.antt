use Rattle.std.proofs.Common.{refl, arith}
use Rattle.row_elimination.specs.HeldTaking.{DecidedAs}
use Rattle.row_elimination.proofs.Counting.{gained-le}
use Rattle.row_elimination.proofs.taking.decide.Goals as goal

pub returns-then-missing-eq0 : goal.returns-then-missing-eq0
unfolding DecidedAs
returns-then-missing-eq0 g c = (
  c.finish.ensures.places,
  c.finish.ensures.room,
  omega (arith, gained-le c.args.table.now.places, c.requires.held.sized),
  c.finish.ensures.parts,
)

pub returns-else-missing-eq0 : goal.returns-else-missing-eq0
unfolding DecidedAs
returns-else-missing-eq0 g c = (refl, omega (arith, gained-le c.args.table.now.places, c.requires.held.sized))
