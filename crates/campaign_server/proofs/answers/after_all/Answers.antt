use Rattle.std.proofs.Common.{List, ap, ◌∙◌, sym}
use Rattle.package_grammar.specs.declared.command.Command.{Command}
use Rattle.package_grammar.specs.HeldMessage.{HeldMessage}
use Rattle.campaign_server.specs.Answers.{stage_after_all}
use Rattle.campaign_server.specs.Statuses.{status_after_all}
use Rattle.campaign_server.proofs.answers.after_all.Goals as goal

pub loop-command-preserved : goal.loop-command-preserved
unfolding stage_after_all status_after_all
loop-command-preserved c = record {
  stages = rw c.stage_after-stage.ensures
      (sym (ap (λ (m : HeldMessage). stage_after_all c.args.plan.now c.args.image.now c.loop-command.stage m.commands) c.in-Some.ensures.takes)
      ∙ c.loop-command.invariant.stages);
  statuses = rw c.status_after-status.ensures
      (sym (ap (λ (m : HeldMessage). status_after_all c.args.plan.now c.loop-command.status m.commands) c.in-Some.ensures.takes)
      ∙ c.loop-command.invariant.statuses);
}

pub returns-clause-stage : goal.returns-clause-stage
unfolding stage_after_all
returns-clause-stage c =
    sym (ap (λ (cs : List Command). stage_after_all c.args.plan.now c.args.image.now c.loop-command.stage cs) c.in_default.ensures.takes.0)
    ∙ c.loop-command.invariant.stages

pub returns-clause-status : goal.returns-clause-status
unfolding status_after_all
returns-clause-status c =
    sym (ap (λ (cs : List Command). status_after_all c.args.plan.now c.loop-command.status cs) c.in_default.ensures.takes.0)
    ∙ c.loop-command.invariant.statuses
