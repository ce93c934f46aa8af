use Rattle.std.proofs.Common.{◌≡◌, ℕ, ◌<◌, ◌≤◌, length, get_or}
use Rattle.sample_nor_flash.specs.Cells.{turned}
use Rattle.sample_nor_flash.proofs.bytes.turn.Given as goal

abbrev pub invariant-loop-i : goal.invariant-loop-i
invariant-loop-i l = (length l.bytes ≡ length l.initial.bytes)
    × ((j : ℕ) → j < l.i → get_or l.bytes j 0 ≡ turned (get_or l.initial.bytes j 0))
    × ((j : ℕ) → l.i ≤ j → get_or l.bytes j 0 ≡ get_or l.initial.bytes j 0)
