use Rattle.std.proofs.Common.{rules, refl, ap, subst, inl, inr, Err}
use Rattle.campaign_server.specs.Plan.{Plan}
use Rattle.fuota_server_c.specs.Saving.{IsServerBack}
use Rattle.fuota_server_c.proofs.NoServer.{wrong_field, whole_plan, corrupt_bytes, back_none}
use Rattle.fuota_server_c.proofs.saving.fuota_server_restore.Goals as goal

pub returns-in-Err-BadPlan : goal.returns-in-Err-BadPlan
returns-in-Err-BadPlan c = back_none _ _ _ _ _ _ _ (search rules)
    (inl (wrong_field _ c.args.plan.now c.args.devices.now _ c.in-Err-BadPlan.wrong _ _ c.in-Ok.ensures (search rules)
    ((c.in-Err-BadPlan.ensures.bad_plan c.in-Err-BadPlan.wrong).0 (ap Err c.in-Err-BadPlan.field-0-is)) (search rules)))

pub returns-in-Err-Corrupt : goal.returns-in-Err-Corrupt
returns-in-Err-Corrupt c = back_none _ _ _ _ _ _ _ (search rules) (inr (
  refl,
  search rules,
  corrupt_bytes _ c.args.plan.now c.args.devices.now _ _ _ c.in-Ok.ensures (ap Err c.in-Err-Corrupt.field-0-is)
      (λ field is. (c.in-Err-Corrupt.ensures.bad_plan field).1 is) (λ x back. c.in-Err-Corrupt.ensures.restored x back.0 back.1),
  refl,
))

pub returns : goal.returns
returns c = subst (λ (p : Plan). IsServerBack c.args.image.now p c.args.saved.now c.replace.new.self.held c.args.field.now c.args.field.now 0)
    (whole_plan c.args.image.now c.args.plan.now c.args.devices.now _ c.in-Ok.ensures c.in-Ok-restore.ensures.ok.0.fine) (search rules)
