-- The laws of spellings, over the definitions.
use Rattle.std.proofs.Common.{◌≡◌, ℕ, ◌+◌, ◌<◌, true, false, List, [], ◌∷◌, ◌++◌, length, Option, Some, None, refl, arith}
use Rattle.wire_base.specs.declared.refusal.Direction.{Direction}
use Rattle.wire_base.specs.Rows.{IsListed, takes_rest, is_well_formed}
use Rattle.wire_base.proofs.RowLaws.{row_written}
use Rattle.wire_base.proofs.Spelled as spelled
use Rattle.cast_wire.specs.declared.cmd.Cmd.{Cmd}
use Rattle.cast_wire.specs.declared.cmd.Cmd.TheVariants.{McGroupStatusAns, McClassCSessionAns, McClassBSessionAns}
use Rattle.cast_wire.specs.declared.group_list.GroupAddress.{GroupAddress}
use Rattle.cast_wire.specs.Table.{row, group_parts, start_parts, IsWhole, Spells, IsValid, canonical}
use Rattle.cast_wire.specs.Reading.{reading}
use Rattle.cast_wire.proofs.Only.{only}

groups_formed : (groups : List GroupAddress) → is_well_formed (group_parts groups) ≡ true
groups_formed [] = refl
groups_formed (group ∷ groups) = groups_formed groups

start_formed : (start : Option ℕ) → is_well_formed (start_parts start) ≡ true
start_formed None = refl
start_formed (Some start) = refl

-- the fields of each row are apart, and its identifier is a byte
pub row_formed : (c : Cmd) → (is_well_formed (row c).parts ≡ true) × ((row c).cid < 256)
row_formed (McGroupStatusAns total mask groups) = (groups_formed groups, omega arith)
row_formed (McClassCSessionAns id undefined freq_error dr_error start) = (start_formed start, omega arith)
row_formed (McClassBSessionAns id undefined freq_error dr_error start) = (start_formed start, omega arith)
row_formed _ = (refl, omega arith)

pub written : (c : Cmd) (port : ℕ) (dir : Direction) (before after : List ℕ) → IsValid c → IsListed (row c) port dir → (takes_rest (row c).parts ≡ true → after ≡ [])
    → Spells c port dir (before ++ (canonical c ++ after)) (length before) (length before + length (canonical c))
written c port dir before after valid listed alone =
    let formed = row_formed c in
    record { listed = listed; lies = row_written (row c) before after formed.0 valid.fields formed.1 alone; whole = valid.whole }

pub one : (c d : Cmd) (port : ℕ) (dir : Direction) (bytes : List ℕ) (at next end : ℕ) → Spells c port dir bytes at next → Spells d port dir bytes at end → (c ≡ d) × (next ≡ end)
one = spelled.one row IsWhole reading only

pub none_begins : (c d : Cmd) (port : ℕ) (dir : Direction) (bytes more : List ℕ) → takes_rest (row c).parts ≡ false
    → Spells c port dir bytes 0 (length bytes) → Spells d port dir (bytes ++ more) 0 (length (bytes ++ more)) → more ≡ []
none_begins = spelled.none_begins row IsWhole reading only
