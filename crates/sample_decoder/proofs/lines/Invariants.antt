use Rattle.std.proofs.Common.{◌≡◌, ◌++◌, length}
use Rattle.sample_decoder.specs.Lines.{lines_of}
use Rattle.sample_decoder.proofs.lines.Given as goal

-- the text so far, with the lines of the commands that are left, is all
abbrev pub invariant-loop-command : goal.invariant-loop-command
invariant-loop-command l = l.text.items ++ lines_of l.message.commands ≡ lines_of l.fn.message.commands

abbrev pub decreases-loop-command : goal.decreases-loop-command
decreases-loop-command l = length l.message.commands
