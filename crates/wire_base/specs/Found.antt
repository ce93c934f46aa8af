-- Between a table and the code: the command that a place's identifier names, and its end.
-- The tables alone say what commands are. The reading of a payload computes with these functions, and a law holds it to the
-- tables.
use Rattle.std.specs.Prelude.{ℕ, ◌+◌, Bool, nat_le, if◌then◌else◌, List, length, Option, Some, None}
use Rattle.wire_base.specs.Numbers.{number_at, bits_of, has_bit}

-- a command and the place after it, or none
abbrev pub Found : Type 0 → Type 0
Found C = Option (C × ℕ)

-- the command and the place after it, where so many bytes are there; else none
abbrev pub within : {C : Type 0} → List ℕ → (at len : ℕ) → C → Found C
within bytes at len c = if nat_le (at + len) (length bytes) then Some (c, at + len) else None

-- some bits of the number in so many bytes, and one bit of a byte
abbrev pub field : List ℕ → (at width low count : ℕ) → ℕ
field bytes at width low count = bits_of (number_at bytes at width) low count

abbrev pub is_set : List ℕ → (at bit : ℕ) → Bool
is_set bytes at bit = has_bit (number_at bytes at 1) bit
