use Rattle.std.proofs.Common.{◌≡◌, ◌++◌, length}
use Rattle.payload_replay.specs.Decode.{commands_text}
use Rattle.payload_replay.proofs.decoding.show_commands.Given as goal

-- what is written so far, with the text of the commands that are left, is the text of all
abbrev pub invariant-loop-text : goal.invariant-loop-text
invariant-loop-text l =
    l.text.items ++ commands_text l.message.commands ≡ l.fn.text.items ++ commands_text l.fn.message.commands

abbrev pub decreases-loop-text : goal.decreases-loop-text
decreases-loop-text l = length l.message.commands
