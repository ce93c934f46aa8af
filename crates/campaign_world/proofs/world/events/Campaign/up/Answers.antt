use Rattle.campaign_world.proofs.Steps.{kept_after_uplink, stays_campaign}
use Rattle.campaign_world.proofs.world.events.Campaign.up.Goals as goal

pub invariant_of-self-2 : goal.invariant_of-self-2
invariant_of-self-2 c = rw (c.send_answer.ensures.moved) (stays_campaign _ _ _ _ _ (kept_after_uplink _ _ _ _ _) c.self.invariant)
