use Rattle.std.proofs.Common.{◌≤◌, length, sym, subst}
use Rattle.campaign_world.specs.HeldWorld.{HeldCampaign}
use Rattle.campaign_world.proofs.Steps.{event_plays, stays_reached}
use Rattle.campaign_world.proofs.world.events.Campaign.happen.Goals as goal

pub invariant_of-self : goal.invariant_of-self
invariant_of-self c = stays_reached _ _ _ _ _ _ c.args.device _ c.happen.result c.happen.ensures.happens c.happen.ensures.devices c.happen.ensures.uplinks
    (subst (λ (h : HeldCampaign). c.args.device ≤ length h.devices) (sym c.self.view_is) c.requires.last) c.self.invariant

pub returns-clause-taken : goal.returns-clause-taken
returns-clause-taken c = rw (← c.self.view_is) (event_plays _ _ _ c.args.device _ c.happen.result c.requires.first
    (subst (λ (h : HeldCampaign). c.args.device ≤ length h.devices) (sym c.self.view_is) c.requires.last) c.happen.ensures.happens)
