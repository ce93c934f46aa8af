use Rattle.fuota_run.proofs.BehindScript.{report_behind, recovery_behind}
use Rattle.fuota_run.proofs.campaign_answers.world_answer.Goals as goal

pub returns-in-Ok : goal.returns-in-Ok
returns-in-Ok c = λ so_far is.
    report_behind c.args.world.now c.args.what c.in-Ok.text.items so_far c.in-Campaign.is c.in-Ok.ensures.report (λ e kept. let s = c.in-Ok.ensures.same e kept in cc) is

pub returns-in-Ok-ended : goal.returns-in-Ok-ended
returns-in-Ok-ended c = λ so_far is.
    recovery_behind c.args.world.now c.args.what c.in-Recover.device _ so_far c.in-Recover.is c.in-Ok-ended.ensures.ended (λ e kept. let s = c.in-Ok-ended.ensures.same e kept in cc) c.recovery.ensures is
