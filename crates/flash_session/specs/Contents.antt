-- The bytes of a flash, by place, and what a call does to them.
use Rattle.std.specs.Prelude.{◌≡◌, ℕ, ◌+◌, ◌-◌, ◌^◌, ◌<◌, ◌≤◌, min, List, length, get_or, Result, OnErr}

-- the byte at a place, 0 outside
abbrev pub byte_at : List ℕ → ℕ → ℕ
byte_at content i = get_or content i 0

-- two contents have the same bytes at all places but the n from this one on
pub record SameOutside (at n : ℕ) (old new : List ℕ) : Type 0 where
  pub below : (i : ℕ) → i < at → byte_at new i ≡ byte_at old i
  pub above : (i : ℕ) → at + n ≤ i → byte_at new i ≡ byte_at old i

-- they have the same bytes at the n places from this one on
pub record SameWithin (at n : ℕ) (old new : List ℕ) : Type 0 where
  pub within : (i : ℕ) → i < n → byte_at new (at + i) ≡ byte_at old (at + i)

-- they have the same bytes everywhere
pub record Same (old new : List ℕ) : Type 0 where
  pub all : (i : ℕ) → byte_at new i ≡ byte_at old i

-- new is old with the piece from this place on
pub record Put (at : ℕ) (piece old new : List ℕ) : Type 0 where
  pub outside : SameOutside at (length piece) old new
  pub inside : (i : ℕ) → i < length piece → byte_at new (at + i) ≡ get_or piece i 0

-- each content that holds afterwards is one that held before, after a step
pub record Follows (step : List ℕ → List ℕ → Type 0) (old new : List ℕ → Type 0) : Type 0 where
  pub from : (c : List ℕ) → new c → (d : List ℕ) × old d × step d c

-- a count that has risen, or stands at its type's end
abbrev pub HasRisen : ℕ → ℕ → Type 0
HasRisen before now = min (before + 1) (2 ^ 64 - 1) ≤ now

-- a failure comes only where the count of faults rose in this call; the count never falls
pub record HasCause {T E : Type 0} (before now : ℕ) (result : Result T E) : Type 0 where
  pub later : before ≤ now
  pub failed : OnErr result (HasRisen before now)

-- what a read gives: the bytes from this place on of each content that is held
pub record Gives (holds : List ℕ → Type 0) (at : ℕ) (buf : List ℕ) : Type 0 where
  pub bytes : (b : List ℕ) → holds b → (i : ℕ) → i < length buf → get_or buf i 0 ≡ byte_at b (at + i)
