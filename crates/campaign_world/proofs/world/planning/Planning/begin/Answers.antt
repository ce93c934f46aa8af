use Rattle.std.proofs.Common.{Err, ap}
use Rattle.campaign_world.proofs.FormCauses.{begins_well}
use Rattle.campaign_world.proofs.world.planning.Planning.begin.Goals as goal

pub unreachable-requires : goal.unreachable-requires
unreachable-requires c =
    let bad = (c.in-Err-BadPlan.ensures.bad_plan c.in-Err-BadPlan.field-0-0).0 (ap Err c.in-Err-BadPlan.field-0-is) in
    begins_well _ _ _ c.in-Err-BadPlan.field-0-0 c.requires (rw (← c.deref.ensures.value, ← c.in_ok-plan.ensures) bad)
