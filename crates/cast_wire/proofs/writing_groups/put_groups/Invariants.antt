use Rattle.std.proofs.Common.{take, Ok}
use Rattle.wire_base.specs.Payload.{Appends}
use Rattle.wire_base.specs.Rows.{parts_bytes}
use Rattle.cast_wire.specs.Table.{group_parts}
use Rattle.cast_wire.proofs.writing_groups.put_groups.Given as goal

abbrev pub invariant-loop-group : goal.invariant-loop-group
invariant-loop-group l = Appends l.initial.out l.out (parts_bytes (group_parts (take l.group-index l.groups))) (Ok tt)
