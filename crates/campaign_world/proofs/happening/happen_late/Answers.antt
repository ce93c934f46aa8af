use Rattle.std.proofs.Common.{refl}
use Rattle.campaign_world.proofs.Lateness.{first_happens}
use Rattle.campaign_world.proofs.happening.happen_late.Goals as goal

pub returns-clause-happens : goal.returns-clause-happens
returns-clause-happens c = rw (← c.late.view_is) (first_happens _ _ c.deref_mut-2.result.now c.happen_at-2.new.device _ c.args.id _ _
    (rw (c.in_default.is) refl) refl (rw (c.deref_mut-2.ensures.value) c.in_ok-device.ensures) c.happen_at-2.ensures)
