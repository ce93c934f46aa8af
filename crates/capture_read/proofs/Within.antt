-- The payload of an entry fits a frame.
use Rattle.std.proofs.Common.{◌≡◌, ℕ, ℤ, pos, negsuc, ◌≤◌, Bool, true, false, nat_lt, if◌then◌else◌, List, length, Option, Some, None, Result, Ok, Err, refl, subst}
use Rattle.std.proofs.lemmas.Bool.{ltb-false}
use Rattle.serde_json.specs.Data.{Data}
use Rattle.wire_base.specs.Payload.{max_payload}
use Rattle.wire_base.specs.declared.refusal.Direction.{Direction}
use Rattle.capture_read.specs.declared.answers.Entry.{Entry}
use Rattle.capture_read.specs.declared.answers.EntryFault.{EntryFault}
use Rattle.capture_read.specs.declared.answers.EntryFault.TheVariants as fault
use Rattle.capture_read.specs.Entries.{json_of, port_of, dir_of, hex_of, ranged, entry_by, entry_in, entry_of}

by_port : (in_range : Bool) (payload : List ℕ) (long : Bool) (port : ℕ) (dir : Direction) (e : Entry) → nat_lt max_payload (length payload) ≡ long
    → Path (Result Entry EntryFault) (if in_range then if long then Err fault.Limit else Ok (record { port = port; dir = dir; payload = payload }) else Err fault.Range) (Ok e)
    → length e.payload ≤ max_payload
by_port false payload long port dir e is said = cc
by_port true payload true port dir e is said = cc
by_port true payload false port dir e is said =
    let short : length payload ≤ max_payload = ltb-false _ _ is in
    let same : Path Entry (record { port = port; dir = dir; payload = payload }) e = cc in
    subst (λ (x : Entry). length x.payload ≤ max_payload) same short

ranged_within : (port : ℤ) (dir : Direction) (payload : List ℕ) (e : Entry) → ranged port dir payload ≡ Ok e → length e.payload ≤ max_payload
ranged_within (pos n) dir payload e said = by_port (nat_lt n 256) payload (nat_lt max_payload (length payload)) n dir e refl said
ranged_within (negsuc n) dir payload e said = cc

by_within : (port : Option ℤ) (dir : Option Direction) (payload : Option (List ℕ)) (e : Entry) → entry_by port dir payload ≡ Ok e → length e.payload ≤ max_payload
by_within (Some port) (Some dir) (Some payload) e said = ranged_within port dir payload e said
by_within (Some port) (Some dir) None e said = cc
by_within (Some port) None payload e said = cc
by_within None dir payload e said = cc

in_within : (value : Option Data) (e : Entry) → entry_in value ≡ Ok e → length e.payload ≤ max_payload
in_within None e said = cc
in_within (Some value) e said = by_within (port_of value) (dir_of value) (hex_of value) e said

pub entry_within : (line : List ℕ) (e : Entry) → entry_of line ≡ Ok e → length e.payload ≤ max_payload
unfolding entry_of
entry_within line e said = in_within (json_of line) e said
