-- What the steps of adding one list to another ask of each other.
use Rattle.std.specs.Prelude.{◌≡◌, ℕ, ◌<◌, ◌≤◌, List, length, get_or, bit_xor}

-- the first n places were added
pub record AddedTo (n : ℕ) (old from new : List ℕ) : Type 0 where
  pub sized : length new ≡ length old
  pub done : (k : ℕ) → k < n → get_or new k 0 ≡ bit_xor (get_or old k 0) (get_or from k 0)
  pub left : (k : ℕ) → n ≤ k → get_or new k 0 ≡ get_or old k 0

-- the places from one on were added too, whatever was added before
abbrev pub AddsRest : (at : ℕ) → (from into into_now : List ℕ) → Type 0
AddsRest at from into into_now = (old : List ℕ) → AddedTo at old from into → AddedTo (length from) old from into_now
