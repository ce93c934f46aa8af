use Rattle.campaign_world.proofs.Steps.{kept_after_status, stays_campaign}
use Rattle.campaign_world.proofs.world.events.Campaign.status.Goals as goal

pub invariant_of-self-2 : goal.invariant_of-self-2
invariant_of-self-2 c = rw (c.send_status.ensures.moved) (stays_campaign _ _ _ _ _ (kept_after_status _) c.self.invariant)
