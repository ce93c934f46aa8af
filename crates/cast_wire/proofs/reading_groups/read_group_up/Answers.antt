use Rattle.std.proofs.Common.{sym, ◌∙◌, arith}
use Rattle.std.specs.Int.Count.{ones-le}
use Rattle.std.proofs.lemmas.Nat.{and_le_r}
use Rattle.cast_wire.proofs.GroupLists.{status_spelled}
use Rattle.cast_wire.proofs.reading_groups.read_group_up.Goals as goal

pub groups_at-groups-requires-clause-few : goal.groups_at-groups-requires-clause-few
groups_at-groups-requires-clause-few c = ones-le 4 _ (omega (arith, and_le_r c.u8_at-fields.result 15))

pub returns-else-end-at-clause-found : goal.returns-else-end-at-clause-found
returns-else-end-at-clause-found c =
    status_spelled c.args.bytes.now c.args.at c.u8_at-fields.result c.groups_at-groups.result (sym c.u8_at.ensures ∙ c.in-1.is) c.u8_at-fields.ensures c.groups_at-groups.ensures c.if-end-at.false
