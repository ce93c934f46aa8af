use Rattle.std.proofs.Common.{length}
use Rattle.row_arena.proofs.Picking.{Stripe}
use Rattle.row_arena.proofs.pieces.two_stripes.Given as goal

abbrev pub invariant-loop-n : goal.invariant-loop-n
invariant-loop-n l =
    Stripe 16 (length l.part) l.at l.n l.area l.part l.picks l.sum
    × Stripe 16 (length l.part) l.other l.n l.area l.part l.picks l.more
