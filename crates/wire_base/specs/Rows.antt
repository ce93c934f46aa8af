-- Rows of a command table: where a command is in a payload, how it is written, and which values its fields have.
use Rattle.std.specs.Prelude.{◌≡◌, ℕ, ◌+◌, ◌-◌, ◌*◌, ◌^◌, ◌<◌, ◌≤◌, Bool, true, false, ◌&&◌, nat_le, List, [], ◌∷◌, ◌++◌, length, drop, slice_index, ◌⊎◌}
use Rattle.wire_base.specs.declared.refusal.Direction.{Direction}
use Rattle.wire_base.specs.declared.refusal.Direction.TheVariants.{Down, Up}
use Rattle.wire_base.specs.Numbers.{number_at, number_bytes, bits_of, flag_value}

-- a field that takes only some bits of a number, from its lowest bit on
pub record Bits : Type 0 where
  pub low : ℕ
  pub count : ℕ
  pub value : ℕ

-- bits high:low, as the standard writes them
abbrev pub bits : (high low value : ℕ) → Bits
bits high low value = record { low = low; count = high + 1 - low; value = value }

-- one bit that says yes or no
abbrev pub flag : ℕ → Bool → Bits
flag bit set = bits bit bit (flag_value set 1)

-- a part of a command's body
pub data Part : Type 0 where
  -- a number of so many bytes
  number : (width value : ℕ) → Part
  -- a number of so many bytes, shared by fields that take some of its bits; its other bits are reserved
  packed : (width : ℕ) → List Bits → Part
  -- bytes as they are
  block : List ℕ → Part
  -- all bytes that are left in the payload
  rest : List ℕ → Part

-- a row of the table: where the command is sent, its identifier, and the parts of its body
pub record Row : Type 0 where
  pub ports : List ℕ
  pub direction : Direction
  pub cid : ℕ
  pub parts : List Part

-- a row of a command from the server, and of one from a device
abbrev pub down : (ports : List ℕ) (cid : ℕ) → List Part → Row
down ports cid parts = record { ports = ports; direction = Down; cid = cid; parts = parts }

abbrev pub up : (ports : List ℕ) (cid : ℕ) → List Part → Row
up ports cid parts = record { ports = ports; direction = Up; cid = cid; parts = parts }

-- how many bytes a part takes
abbrev pub size : Part → ℕ
size (number width value) = width
size (packed width fields) = width
size (block bytes) = length bytes
size (rest bytes) = length bytes

-- each field stands in its bits of the number n; the other bits are free
abbrev pub BitsLie : ℕ → List Bits → Type 0
BitsLie n [] = Unit {0}
BitsLie n (b ∷ bs) = (bits_of n b.low b.count ≡ b.value) × BitsLie n bs

-- the part is in the bytes from a place on
abbrev pub PartLies : List ℕ → ℕ → Part → Type 0
PartLies bytes at (number width value) = number_at bytes at width ≡ value
PartLies bytes at (packed width fields) = BitsLie (number_at bytes at width) fields
PartLies bytes at (block block_bytes) =
    (k : ℕ) → k < length block_bytes → slice_index bytes (at + k) ≡ slice_index block_bytes k
PartLies bytes at (rest rest_bytes) = drop at bytes ≡ rest_bytes

-- the parts follow one another, the first skip bytes after a place, and the last ends at next
abbrev pub PartsLie : List ℕ → (at skip : ℕ) → List Part → ℕ → Type 0
PartsLie bytes at skip [] next = (next ≡ at + skip) × (next ≤ length bytes)
PartsLie bytes at skip (p ∷ ps) next = PartLies bytes (at + skip) p × PartsLie bytes at (skip + size p) ps next

-- the port is one of these
abbrev pub IsOneOf : List ℕ → ℕ → Type 0
IsOneOf [] port = ⊥
IsOneOf (p ∷ []) port = port ≡ p
IsOneOf (p ∷ q ∷ ps) port = (port ≡ p) ⊎ IsOneOf (q ∷ ps) port

-- the row is in the table for that port and direction
pub record IsListed (row : Row) (port : ℕ) (direction : Direction) : Type 0 where
  pub port_is : IsOneOf row.ports port
  pub direction_is : direction ≡ row.direction

-- the command is in the bytes from a place to the next
pub record Lies (row : Row) (bytes : List ℕ) (at next : ℕ) : Type 0 where
  pub cid_is : number_at bytes at 1 ≡ row.cid
  pub parts_lie : PartsLie bytes at 1 row.parts next

-- the number that the fields make together, with reserved bits 0
abbrev pub packed_number : List Bits → ℕ
packed_number [] = 0
packed_number (b ∷ bs) = b.value * 2 ^ b.low + packed_number bs

-- the bytes that are written for a part
abbrev pub part_bytes : Part → List ℕ
part_bytes (number width value) = number_bytes width value
part_bytes (packed width fields) = number_bytes width (packed_number fields)
part_bytes (block bytes) = bytes
part_bytes (rest bytes) = bytes

-- the bytes that are written for the parts, one after another
abbrev pub parts_bytes : List Part → List ℕ
parts_bytes [] = []
parts_bytes (p ∷ ps) = part_bytes p ++ parts_bytes ps

-- the canonical spelling: the identifier, and the parts with reserved bits 0
abbrev pub spelling : Row → List ℕ
spelling row = row.cid ∷ parts_bytes row.parts

-- each field fits the bits that it has
abbrev pub BitsFit : List Bits → Type 0
BitsFit [] = Unit {0}
BitsFit (b ∷ bs) = (b.value < 2 ^ b.count) × BitsFit bs

abbrev pub PartFits : Part → Type 0
PartFits (number width value) = value < 2 ^ (8 * width)
PartFits (packed width fields) = BitsFit fields
PartFits (block bytes) = Unit {0}
PartFits (rest bytes) = Unit {0}

-- each field of the parts fits the bits that the row gives it
abbrev pub PartsFit : List Part → Type 0
PartsFit [] = Unit {0}
PartsFit (p ∷ ps) = PartFits p × PartsFit ps

-- the fields are named from the highest bits down, apart from one another and below a limit
abbrev pub are_apart : (limit : ℕ) → List Bits → Bool
are_apart limit [] = true
are_apart limit (b ∷ bs) = nat_le (b.low + b.count) limit && are_apart b.low bs

-- some part takes all bytes that are left
abbrev pub takes_rest : List Part → Bool
takes_rest [] = false
takes_rest (number width value ∷ ps) = takes_rest ps
takes_rest (packed width fields ∷ ps) = takes_rest ps
takes_rest (block bytes ∷ ps) = takes_rest ps
takes_rest (rest bytes ∷ ps) = true

-- the fields of each number are apart within it, and nothing stands after the part that takes the rest
abbrev pub is_well_formed : List Part → Bool
is_well_formed [] = true
is_well_formed (number width value ∷ ps) = is_well_formed ps
is_well_formed (packed width fields ∷ ps) = are_apart (8 * width) fields && is_well_formed ps
is_well_formed (block bytes ∷ ps) = is_well_formed ps
is_well_formed (rest bytes ∷ []) = true
is_well_formed (rest bytes ∷ p ∷ ps) = false
