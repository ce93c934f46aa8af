-- Lists whose items are numbered from 1 (this project's profile).
use Rattle.std.specs.Prelude.{ℕ, ◌-◌, ◌==◌, if◌then◌else◌, List, slice_get, Option, None}

-- the item with a number, counted from 1
abbrev pub numbered : {A : Type 0} → List A → (n : ℕ) → Option A
numbered items n = if n == 0 then None else slice_get items (n - 1)
