use Rattle.std.proofs.Common.{◌≡◌, ◌+◌, length}
use Rattle.package_grammar.proofs.message.Message.count.Given as goal

abbrev pub invariant-loop-command : goal.invariant-loop-command
invariant-loop-command l = l.count + length l.self.commands ≡ length l.fn.self.commands

abbrev pub decreases-loop-command : goal.decreases-loop-command
decreases-loop-command l = length l.self.commands
