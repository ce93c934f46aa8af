use Rattle.std.proofs.Common.{◌↔◌, drop}
use Rattle.wire_base.specs.Rows.{PartsFit}
use Rattle.cast_wire.specs.Table.{group_parts}
use Rattle.cast_wire.proofs.validity.ids_fit.Given as goal

abbrev pub invariant-loop-id : goal.invariant-loop-id
invariant-loop-id l = PartsFit (group_parts (drop l.id-index l.groups)) ↔ PartsFit (group_parts l.groups)
