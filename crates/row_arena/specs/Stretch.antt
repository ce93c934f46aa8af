-- Stretches of equal size, one after another in a list.
use Rattle.std.specs.Prelude.{ℕ, ◌*◌, List, take, drop}

-- the k-th stretch of this size
unfoldable pub stretch : {A : Type 0} → ℕ → ℕ → List A → List A
stretch k size xs = take size (drop (k * size) xs)
