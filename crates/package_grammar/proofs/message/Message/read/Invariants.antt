use Rattle.std.proofs.Common.{length, ◌-◌}
use Rattle.package_grammar.proofs.Cursor.{IsReadTo}
use Rattle.package_grammar.proofs.message.Message.read.Given as goal

abbrev pub invariant-loop-at : goal.invariant-loop-at
invariant-loop-at l = IsReadTo l.port l.direction l.bytes l.at

abbrev pub decreases-loop-at : goal.decreases-loop-at
decreases-loop-at l = length l.bytes - l.at
