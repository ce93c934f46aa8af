use Rattle.std.proofs.Common.{◌≡◌, length}
use Rattle.campaign_server.specs.Time.{time_answer}
use Rattle.campaign_server.proofs.time.time_answer.Given as goal

abbrev pub invariant-loop-command : goal.invariant-loop-command
invariant-loop-command l = time_answer l.t l.message.commands ≡ time_answer l.t l.fn.message.commands

abbrev pub decreases-loop-command : goal.decreases-loop-command
decreases-loop-command l = length l.message.commands
