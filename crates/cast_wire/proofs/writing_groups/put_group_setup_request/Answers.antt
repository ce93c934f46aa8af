use Rattle.std.proofs.Common.{arith}
use Rattle.wire_base.proofs.Putting.{then, puts_same}
use Rattle.cast_wire.proofs.Writes.{then_last, group_setup_request_spelled}
use Rattle.cast_wire.proofs.writing_groups.put_group_setup_request.Goals as goal

pub returns : goal.returns
returns c =
    let head = then c.in_ok-append.ensures c.in_ok-append-2.ensures in
    puts_same (group_setup_request_spelled c.to_le_bytes.ensures c.to_le_bytes-2.ensures c.to_le_bytes-3.ensures c.requires) (then_last head c.append-3.ensures (omega arith))
