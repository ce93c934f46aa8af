use Rattle.cast_wire.proofs.GroupLists.{IsRead}
use Rattle.cast_wire.proofs.reading_groups.groups_at.Given as goal

abbrev pub invariant-loop-i : goal.invariant-loop-i
invariant-loop-i l = IsRead l.bytes l.at l.count l.groups l.i
