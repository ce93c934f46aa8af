use Rattle.wire_base.proofs.Putting.{puts_same}
use Rattle.cast_wire.proofs.Writes.{class_c_request_spelled}
use Rattle.cast_wire.proofs.writing_groups.put_class_c_request.Goals as goal

pub returns : goal.returns
returns c = puts_same (class_c_request_spelled c.to_le_bytes.ensures c.to_le_bytes-2.ensures c.requires) c.append.ensures
