use Rattle.std.proofs.Common.{◌*◌}
use Rattle.row_arena.specs.Steps.{AddedTo}
use Rattle.row_arena.proofs.lanes.in_lanes.Given as goal

abbrev pub invariant-loop-k : goal.invariant-loop-k
invariant-loop-k l = AddedTo (l.k * 32) l.fn.into l.from l.into
