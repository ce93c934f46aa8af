use Rattle.std.proofs.Common.{arith}
use Rattle.cast_wire.proofs.Writes.{ids_more}
use Rattle.cast_wire.proofs.validity.ids_fit.Goals as goal

pub loop-id-preserved : goal.loop-id-preserved
loop-id-preserved c = ids_more c.args.groups.now c.loop-id.id-index _ c.loop-id-test.true c.if-id-ge4.false (omega arith) c.loop-id.invariant
