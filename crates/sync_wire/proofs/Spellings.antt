-- The laws of spellings, over the definitions.
use Rattle.std.proofs.Common.{◌≡◌, ℕ, ◌+◌, ◌<◌, true, false, List, [], ◌++◌, length, Some, None, refl, arith}
use Rattle.wire_base.specs.declared.refusal.Direction.{Direction}
use Rattle.wire_base.specs.Rows.{IsListed, takes_rest, is_well_formed}
use Rattle.wire_base.proofs.RowLaws.{row_written}
use Rattle.wire_base.proofs.Spelled as spelled
use Rattle.sync_wire.specs.declared.cmd.Cmd.{Cmd}
use Rattle.sync_wire.specs.declared.cmd.Cmd.TheVariants.{DevUpgradeImageAns}
use Rattle.sync_wire.specs.Table.{row, IsWhole, Spells, IsValid, canonical}
use Rattle.sync_wire.specs.Reading.{reading}
use Rattle.sync_wire.proofs.Only.{only}

-- the fields of each row are apart, its identifier is a byte, and no part takes the rest
record IsFormed (c : Cmd) : Type 0 where
  formed : is_well_formed (row c).parts ≡ true
  cid_small : (row c).cid < 256
  closed : takes_rest (row c).parts ≡ false

row_formed : (c : Cmd) → IsFormed c
row_formed (DevUpgradeImageAns status None) = record { formed = refl; cid_small = omega arith; closed = refl }
row_formed (DevUpgradeImageAns status (Some next)) = record { formed = refl; cid_small = omega arith; closed = refl }
row_formed _ = record { formed = refl; cid_small = omega arith; closed = refl }

pub written : (c : Cmd) (port : ℕ) (dir : Direction) (before after : List ℕ) → IsValid c → IsListed (row c) port dir
    → Spells c port dir (before ++ (canonical c ++ after)) (length before) (length before + length (canonical c))
written c port dir before after valid listed =
    let row_is = row_formed c in
    let open_ended : takes_rest (row c).parts ≡ true → after ≡ [] = λ takes. let never = row_is.closed in absurd cc in
    record { listed = listed; lies = row_written (row c) before after row_is.formed valid.fields row_is.cid_small open_ended; whole = valid.whole }

pub one : (c d : Cmd) (port : ℕ) (dir : Direction) (bytes : List ℕ) (at next end : ℕ) → Spells c port dir bytes at next → Spells d port dir bytes at end → (c ≡ d) × (next ≡ end)
one = spelled.one row IsWhole reading only

pub none_begins : (c d : Cmd) (port : ℕ) (dir : Direction) (bytes more : List ℕ)
    → Spells c port dir bytes 0 (length bytes) → Spells d port dir (bytes ++ more) 0 (length (bytes ++ more)) → more ≡ []
none_begins c d port dir bytes more = spelled.none_begins row IsWhole reading only c d port dir bytes more (row_formed c).closed
