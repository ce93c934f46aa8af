-- The facts on rows and commands as tests: each is true exactly where its fact holds. They let a reading compute.
use Rattle.std.specs.Prelude.{ℕ, ◌+◌, Bool, true, false, ◌&&◌, ◌||◌, ◌==◌, nat_le, if◌then◌else◌, List, [], ◌∷◌, length, drop, slice_index, Some, None}
use Rattle.std.specs.Str.{bytes_eq}
use Rattle.wire_base.specs.declared.refusal.Direction.{Direction}
use Rattle.wire_base.specs.declared.refusal.Direction.TheVariants.{Down, Up}
use Rattle.wire_base.specs.Numbers.{number_at, bits_of}
use Rattle.wire_base.specs.Rows.{Bits, Part, number, packed, block, rest, Row, size}
use Rattle.wire_base.specs.Found.{Found}

-- ---- rows

abbrev pub bits_lie : ℕ → List Bits → Bool
bits_lie n [] = true
bits_lie n (b ∷ bs) = bits_of n b.low b.count == b.value && bits_lie n bs

abbrev pub block_lies : List ℕ → ℕ → List ℕ → Bool
block_lies bytes at [] = true
block_lies bytes at (b ∷ bs) = slice_index bytes at == b && block_lies bytes (at + 1) bs

abbrev pub part_lies : List ℕ → ℕ → Part → Bool
part_lies bytes at (number width value) = number_at bytes at width == value
part_lies bytes at (packed width fields) = bits_lie (number_at bytes at width) fields
part_lies bytes at (block block_bytes) = block_lies bytes at block_bytes
part_lies bytes at (rest rest_bytes) = bytes_eq (drop at bytes) rest_bytes

abbrev pub parts_lie : List ℕ → (at skip : ℕ) → List Part → ℕ → Bool
parts_lie bytes at skip [] next = next == at + skip && nat_le next (length bytes)
parts_lie bytes at skip (p ∷ ps) next = part_lies bytes (at + skip) p && parts_lie bytes at (skip + size p) ps next

abbrev pub is_one_of : List ℕ → ℕ → Bool
is_one_of [] port = false
is_one_of (p ∷ []) port = port == p
is_one_of (p ∷ q ∷ ps) port = port == p || is_one_of (q ∷ ps) port

abbrev pub same_direction : Direction → Direction → Bool
same_direction Down Down = true
same_direction Up Up = true
same_direction one other = false

abbrev pub is_listed : Row → ℕ → Direction → Bool
is_listed row port direction = is_one_of row.ports port && same_direction direction row.direction

abbrev pub lies : Row → List ℕ → (at next : ℕ) → Bool
lies row bytes at next = number_at bytes at 1 == row.cid && parts_lie bytes at 1 row.parts next

-- ---- commands of any table

-- the bytes from a place to the next spell the command
abbrev pub is_spelled : {C : Type 0} → (C → Row) → (C → Bool) → C → ℕ → Direction → List ℕ → (at next : ℕ) → Bool
is_spelled row is_whole c port direction bytes at next =
    is_listed (row c) port direction && (lies (row c) bytes at next && is_whole c)

-- what was found, where it is spelled there
abbrev pub where_spelled : {C : Type 0} → (C → Row) → (C → Bool) → ℕ → Direction → List ℕ → (at : ℕ) → Found C → Found C
where_spelled row is_whole port direction bytes at None = None
where_spelled row is_whole port direction bytes at (Some (c, next)) =
    if is_spelled row is_whole c port direction bytes at next then Some (c, next) else None

-- one of the commands is listed for that port and direction under this identifier
abbrev pub has_cid : {C : Type 0} → (C → Row) → ℕ → Direction → (cid : ℕ) → List C → Bool
has_cid row port direction cid [] = false
has_cid row port direction cid (c ∷ cs) =
    (is_listed (row c) port direction && (row c).cid == cid) || has_cid row port direction cid cs
