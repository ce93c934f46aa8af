use Rattle.std.proofs.Common.{arith}
use Rattle.row_elimination.proofs.taking.first_set.Goals as goal

pub overflow_cast-result : goal.overflow_cast-result
overflow_cast-result c = record { fits = omega (arith, c.in-Some.ensures.0, c.requires) }
