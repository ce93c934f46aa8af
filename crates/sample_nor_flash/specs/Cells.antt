-- The bytes of a part of NOR flash, and how they are inverted.
use Rattle.std.specs.Prelude.{◌≡◌, ◌≢◌, ℕ, ◌+◌, ◌-◌, ◌<◌, List, length, get_or}
use Rattle.std.specs.Int.Bits.{bit_and}
use Rattle.flash_session.specs.Contents.{byte_at, SameOutside}

-- a byte with each of its bits inverted
abbrev pub turned : ℕ → ℕ
turned byte = 255 - byte

-- what a read gives of each content that is held, inverted
pub record GivesTurned (holds : List ℕ → Type 0) (at : ℕ) (buf : List ℕ) : Type 0 where
  pub bytes : (c : List ℕ) → holds c → (i : ℕ) → i < length buf → get_or buf i 0 ≡ turned (byte_at c (at + i))

-- no bit has to be set to write the piece there
pub record OnlyFalls (cells : List ℕ) (at : ℕ) (piece : List ℕ) : Type 0 where
  pub falls : (i : ℕ) → i < length piece → bit_and (byte_at cells (at + i)) (get_or piece i 0) ≡ get_or piece i 0

-- the second of two lists of bytes has no bit that the first lacks
pub record Falls (old new : List ℕ) : Type 0 where
  pub falls : (i : ℕ) → i < length new → bit_and (get_or old i 0) (get_or new i 0) ≡ get_or new i 0

-- the second list is the first one inverted
pub record Turns (old new : List ℕ) : Type 0 where
  pub sized : length new ≡ length old
  pub bytes : (i : ℕ) → i < length old → get_or new i 0 ≡ turned (get_or old i 0)

-- new is old with the piece from this place on, inverted
pub record PutTurned (at : ℕ) (piece old new : List ℕ) : Type 0 where
  pub outside : SameOutside at (length piece) old new
  pub inside : (i : ℕ) → i < length piece → byte_at new (at + i) ≡ turned (get_or piece i 0)

-- a byte of the journal is set: it reads as another than 0
pub record IsSet (holds : List ℕ → Type 0) (at : ℕ) : Type 0 where
  pub set : (c : List ℕ) → holds c → byte_at c at ≢ 255
