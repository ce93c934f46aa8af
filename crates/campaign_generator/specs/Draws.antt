-- Numbers that are drawn from a state. (This project's profile.)
use Rattle.std.specs.Prelude.{ℕ, zero, suc, ◌+◌, ◌*◌, ◌/◌, ◌%◌, ◌^◌}

-- the state after a draw
unfoldable pub stepped : ℕ → ℕ
stepped g = (1664525 * g + 1013904223) % 2 ^ 32

-- the number that the draw from a state gives
unfoldable pub drawn : ℕ → ℕ
drawn g = stepped g / 65536

-- the state after so many draws
unfoldable pub after_draws : (g left : ℕ) → ℕ
after_draws g zero = g
after_draws g (suc left) = after_draws (stepped g) left
