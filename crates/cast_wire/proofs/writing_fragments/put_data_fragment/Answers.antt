use Rattle.std.proofs.Common.{arith}
use Rattle.wire_base.proofs.Putting.{puts_same}
use Rattle.cast_wire.proofs.Writes.{then_last, fragment_spelled}
use Rattle.cast_wire.proofs.writing_fragments.put_data_fragment.Goals as goal

pub returns : goal.returns
returns c = puts_same (fragment_spelled c.from.ensures c.to_le_bytes.ensures c.requires) (then_last c.in_ok-append.ensures c.append-2.ensures (omega arith))
