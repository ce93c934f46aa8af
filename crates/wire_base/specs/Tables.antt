-- What a table of commands says: which are valid, which bytes of a payload spell one, and why a place is refused.
-- It is said once for every table, by three things: each command's row, what a command's fields must be together, and the ports
-- that the table is for.
use Rattle.std.specs.Prelude.{◌≡◌, ℕ, ◌<◌, ◌≤◌, List, length}
use Rattle.wire_base.specs.declared.refusal.Direction.{Direction}
use Rattle.wire_base.specs.declared.refusal.Refusal.{Refusal}
use Rattle.wire_base.specs.declared.refusal.Why.{Why}
use Rattle.wire_base.specs.declared.refusal.Why.TheVariants.{Port, UnknownCommand, Short, TooLong}
use Rattle.wire_base.specs.Numbers.{number_at}
use Rattle.wire_base.specs.Payload.{max_payload}
use Rattle.wire_base.specs.Rows.{Row, IsListed, Lies, PartsFit}

-- a valid command: each field fits the bits that the table gives it, and they fit together
pub record IsValid {C : Type 0} (row : C → Row) (IsWhole : C → Type 0) (c : C) : Type 0 where
  pub fields : PartsFit (row c).parts
  pub whole : IsWhole c

-- in a payload of that port and direction the bytes from a place to the next spell the command; reserved bits are free
pub record Spells {C : Type 0} (row : C → Row) (IsWhole : C → Type 0) (c : C) (port : ℕ) (direction : Direction)
    (bytes : List ℕ) (at next : ℕ) : Type 0 where
  pub listed : IsListed (row c) port direction
  pub lies : Lies (row c) bytes at next
  pub whole : IsWhole c

-- some command of the table for that port and direction has this identifier
pub record IsKnown {C : Type 0} (row : C → Row) (port : ℕ) (direction : Direction) (cid : ℕ) : Type 0 where
  pub command : C
  pub listed : IsListed (row command) port direction
  pub cid_is : (row command).cid ≡ cid

-- a payload on one of the table's ports that isn't too long
abbrev pub IsRead : (ℕ → Type 0) → ℕ → List ℕ → Type 0
IsRead IsPort port bytes = IsPort port × (length bytes ≤ max_payload)

-- when a place where no command is spelled is refused for a reason
abbrev pub IsRefused : {C : Type 0} → (C → Row) → (ℕ → Type 0) → ℕ → Direction → List ℕ → (at : ℕ) → Why → Type 0
IsRefused row IsPort port direction bytes at Port = ¬ IsPort port
IsRefused row IsPort port direction bytes at TooLong = IsPort port × (max_payload < length bytes)
IsRefused row IsPort port direction bytes at UnknownCommand =
    IsRead IsPort port bytes × ¬ IsKnown row port direction (number_at bytes at 1)
IsRefused row IsPort port direction bytes at Short =
    IsRead IsPort port bytes × IsKnown row port direction (number_at bytes at 1)

-- the place that a refusal names
abbrev pub place_of : List ℕ → (at : ℕ) → Why → ℕ
place_of bytes at Port = 0
place_of bytes at TooLong = max_payload
place_of bytes at UnknownCommand = at
place_of bytes at Short = length bytes

-- the refusal names its reason and its place
pub record IsRefusal {C : Type 0} (row : C → Row) (IsPort : ℕ → Type 0) (port : ℕ) (direction : Direction)
    (bytes : List ℕ) (at : ℕ) (refusal : Refusal) : Type 0 where
  pub why : IsRefused row IsPort port direction bytes at refusal.why
  pub place : refusal.at ≡ place_of bytes at refusal.why
