use Rattle.std.proofs.Common.{Some, refl}
use Rattle.device_core.specs.Events.{Wakes}
use Rattle.campaign_world.proofs.world.events.Campaign.wake.Goals as goal

pub returns-clause-taken : goal.returns-clause-taken
returns-clause-taken c = λ lines. c.happen.ensures.taken lines (λ w. Some (Wakes w.time)) (λ here kept devices. rw (← c.self.view_is) refl)
