-- Where the parts of a session are in its range, counted from the range's first byte, and how a record is spelled.
use Rattle.std.specs.Prelude.{ℕ, ◌+◌, List, ◌++◌}
use Rattle.std.specs.Int.{to_le_bytes, w16, w64}
use Rattle.frag_model.specs.Fragments.{Fragment}

-- ---- numbers of this project's profile

-- an open gate; any other byte is a closed one
abbrev pub open_gate : ℕ
open_gate = 0xa5

-- the header's gate is the first byte, and the setup's body comes after it
abbrev pub body_place : ℕ
body_place = 1

abbrev pub body_size : ℕ
body_size = 10

-- a gate for each record, of which a session of the most pieces has 2 M + 1
abbrev pub gates_place : ℕ
gates_place = 64

-- twice the most pieces, and one
abbrev pub most_records : ℕ
most_records = 8193

-- a gate for each fragment that is only counted
abbrev pub tallies_place : ℕ
tallies_place = 8257

-- the most that a status answer tells
abbrev pub most_tallies : ℕ
most_tallies = 16383

-- both kinds of gates
abbrev pub gates_size : ℕ
gates_size = 24576

-- the records
abbrev pub records_place : ℕ
records_place = 24640

-- ---- where they are in a flash

abbrev pub body_at : ℕ → ℕ
body_at base = base + body_place

-- the gate of record 0
abbrev pub gates_at : ℕ → ℕ
gates_at base = base + gates_place

abbrev pub tallies_at : ℕ → ℕ
tallies_at base = base + tallies_place

abbrev pub records_at : ℕ → ℕ
records_at base = base + records_place

-- a record: the number in two bytes, the mark in eight, and the data
unfoldable pub spelled : Fragment → List ℕ
spelled f = to_le_bytes w16 f.number ++ to_le_bytes w64 f.mark ++ f.part
