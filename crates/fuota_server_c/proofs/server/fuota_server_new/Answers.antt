use Rattle.std.proofs.Common.{rules, ap, subst, Err}
use Rattle.campaign_server.specs.Plan.{Plan}
use Rattle.fuota_server_c.specs.Plan.{IsNewServer}
use Rattle.fuota_server_c.proofs.NoServer.{wrong_field, whole_plan, new_none}
use Rattle.fuota_server_c.proofs.server.fuota_server_new.Goals as goal

pub returns-in-Err-BadPlan : goal.returns-in-Err-BadPlan
returns-in-Err-BadPlan c = new_none _ _ _ _ _ _ (search rules)
    (wrong_field _ c.args.plan.now c.args.devices.now _ c.in-Err-BadPlan.wrong _ _ c.in-Ok.ensures (search rules)
    ((c.in-Err-BadPlan.ensures.bad_plan c.in-Err-BadPlan.wrong).0 (ap Err c.in-Err-BadPlan.field-0-is)) (search rules))

pub returns : goal.returns
returns c = subst (λ (p : Plan). IsNewServer c.args.image.now p c.replace.new.self.held c.args.field.now c.args.field.now 0)
    (whole_plan c.args.image.now c.args.plan.now c.args.devices.now _ c.in-Ok.ensures c.in-Ok-new.ensures.fine) (search rules)
