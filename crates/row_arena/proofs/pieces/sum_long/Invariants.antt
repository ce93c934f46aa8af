use Rattle.std.proofs.Common.{◌≡◌, ℕ, ◌*◌, ◌<◌, length, get_or}
use Rattle.row_arena.specs.Sums.{after_pieces}
use Rattle.row_arena.proofs.pieces.sum_long.Given as goal

abbrev pub invariant-loop-s : goal.invariant-loop-s
invariant-loop-s l = (i : ℕ) → i < l.s * 64 → get_or l.rest i 0 ≡ after_pieces (length l.part) l.area i (get_or l.part i 0) l.picks
