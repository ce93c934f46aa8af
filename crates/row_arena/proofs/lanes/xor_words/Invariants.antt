use Rattle.std.proofs.Common.{◌*◌}
use Rattle.row_arena.specs.Steps.{AddedTo}
use Rattle.row_arena.proofs.Bits.{AreWords}
use Rattle.row_arena.proofs.lanes.xor_words.Given as goal

abbrev pub invariant-loop-k : goal.invariant-loop-k
invariant-loop-k l = record { added : AddedTo (l.k * 4) l.fn.into l.from l.into; small : AreWords l.fn.into }

abbrev pub invariant-loop-i : goal.invariant-loop-i
invariant-loop-i l = record { added : AddedTo l.i l.fn.into l.from l.into; small : AreWords l.fn.into }
