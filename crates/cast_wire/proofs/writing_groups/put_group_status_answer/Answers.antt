use Rattle.std.proofs.Common.{List, length, ap, arith}
use Rattle.wire_base.specs.Rows.{parts_bytes}
use Rattle.wire_base.proofs.Putting.{puts_same, refused}
use Rattle.cast_wire.specs.declared.group_list.GroupAddress.{GroupAddress}
use Rattle.cast_wire.specs.Table.{group_parts}
use Rattle.cast_wire.proofs.Writes.{then_last, status_answer_spelled, length-group_bytes}
use Rattle.cast_wire.proofs.writing_groups.put_group_status_answer.Goals as goal

pub returns-then-room-groups : goal.returns-then-room-groups
returns-then-room-groups c = refused (omega (arith, length-group_bytes c.args.groups.now, ap length c.as_slice-groups.ensures.value))

pub returns : goal.returns
returns c =
    let groups_put = puts_same (ap (λ (l : List GroupAddress). parts_bytes (group_parts l)) c.as_slice-groups.ensures.value) c.put_groups.ensures in
    puts_same (status_answer_spelled c.requires) (then_last c.in_ok-append.ensures groups_put (omega (arith, length-group_bytes c.args.groups.now, ap length c.as_slice-groups.ensures.value)))
