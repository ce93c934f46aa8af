use Rattle.std.proofs.Common.{length}
use Rattle.row_arena.proofs.Picking.{Summed}
use Rattle.row_arena.proofs.pieces.sum_short.Given as goal

abbrev pub invariant-loop-n : goal.invariant-loop-n
invariant-loop-n l = Summed 16 (length l.part) l.n l.area l.part l.picks l.sum
