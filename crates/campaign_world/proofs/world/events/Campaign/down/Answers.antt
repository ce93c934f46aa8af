use Rattle.std.proofs.Common.{◌≤◌, ◌+◌, length, Some, refl, sym, ◌∙◌, subst}
use Rattle.wire_base.specs.Numbered.{numbered}
use Rattle.device_core.specs.Events.{Receives}
use Rattle.campaign_world.specs.Making.{reception}
use Rattle.campaign_world.specs.HeldWorld.{HeldCampaign}
use Rattle.campaign_world.proofs.Steps.{event_plays, stays_reached, reception_of}
use Rattle.campaign_world.proofs.world.events.Campaign.down.Goals as goal

pub invariant_of-self : goal.invariant_of-self
invariant_of-self c = stays_reached _ _ _ _ _ _ c.args.device _ c.happen.result c.happen.ensures.happens c.happen.ensures.devices c.happen.ensures.uplinks
    (subst (λ (h : HeldCampaign). c.args.device ≤ length h.devices) (sym c.self.view_is) c.requires.last) c.self.invariant

pub returns-clause-taken : goal.returns-clause-taken
returns-clause-taken c = rw (← c.self.view_is) (event_plays _ _ _ c.args.device
    (Some (Receives c.moment-moment.result.t c.moment-moment.result.word c.moment-moment.result.mark c.unwrap-sent.result.down)) c.happen.result c.requires.first
    (subst (λ (h : HeldCampaign). c.args.device ≤ length h.devices) (sym c.self.view_is) c.requires.last) c.happen.ensures.happens
    c.args.lines (λ w. reception w.time c.args.word (w.lines + 1) (numbered w.sent c.args.number))
    (λ here kept devices. reception_of _ _ _ _ c.unwrap-sent.result (sym c.number.ensures ∙ c.unwrap-sent.ensures)
    ∙ rw (c.moment-moment.ensures.value, ← c.self.view_is) refl))
