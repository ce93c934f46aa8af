use Rattle.std.proofs.Common.{◌≡◌, ℕ, ◌<◌, get_or, bit_and}
use Rattle.sample_nor_flash.proofs.bytes.falls.Given as goal

abbrev pub invariant-loop-i : goal.invariant-loop-i
invariant-loop-i l = (j : ℕ) → j < l.i → bit_and (get_or l.old j 0) (get_or l.new j 0) ≡ get_or l.new j 0
