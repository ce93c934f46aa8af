use Rattle.std.proofs.Common.{ℕ, List}
use Rattle.row_arena.specs.Steps.{AddedTo}
use Rattle.row_arena.proofs.lanes.rest_plain.Given as goal

abbrev pub invariant-loop-i : goal.invariant-loop-i
invariant-loop-i l = (old : List ℕ) → AddedTo l.fn.at old l.from l.fn.into → AddedTo l.i old l.from l.into
