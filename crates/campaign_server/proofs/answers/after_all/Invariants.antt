use Rattle.std.proofs.Common.{◌≡◌, length}
use Rattle.campaign_server.specs.Answers.{stage_after_all}
use Rattle.campaign_server.specs.Statuses.{status_after_all}
use Rattle.campaign_server.proofs.answers.after_all.Given as goal

abbrev pub invariant-loop-command : goal.invariant-loop-command
invariant-loop-command l = record {
  stages : stage_after_all l.plan l.image l.stage l.message.commands
      ≡ stage_after_all l.plan l.image l.fn.standing.stage l.fn.message.commands;
  statuses : status_after_all l.plan l.status l.message.commands
      ≡ status_after_all l.plan l.fn.standing.status l.fn.message.commands;
}

abbrev pub decreases-loop-command : goal.decreases-loop-command
decreases-loop-command l = length l.message.commands
