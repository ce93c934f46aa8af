-- Bytes that are written into C's memory.
use Rattle.std.specs.Prelude.{◌≡◌, ◌≤◌, ◌<◌, ◌-◌, ◌++◌, ℕ, List, length, take, drop, min}

-- bytes are at the front of what was written over, and the rest of it stays
abbrev pub IsPut : (bytes old new : List ℕ) → Type 0
IsPut bytes old new = new ≡ bytes ++ drop (length bytes) old

-- bytes go to the front where they have room, and else nothing is written; n is their count
pub record Whole (bytes old new : List ℕ) (n : ℕ) : Type 0 where
  pub fits : length bytes ≤ length old → (n ≡ length bytes) × IsPut bytes old new
  pub over : length old < length bytes → (n ≡ 0) × (new ≡ old)

-- n bytes, those from the offset on, as many as there are and have room, are at the front of what was written over
pub record Copied (file : List ℕ) (offset : ℕ) (old new : List ℕ) (n : ℕ) : Type 0 where
  pub count : n ≡ min (length file - offset) (length old)
  pub bytes : new ≡ take n (drop offset file) ++ drop n old
