use Rattle.std.proofs.Common.{◌≡◌, List, ℕ, option_map, Some, ap, sym, ◌∙◌, subst}
use Rattle.wire_base.specs.Numbered.{numbered}
use Rattle.campaign_world.specs.Making.{sent_frame}
use Rattle.campaign_world.specs.HeldWorld.{HeldCampaign}
use Rattle.campaign_world.proofs.Steps.{frame_step}
use Rattle.campaign_world.proofs.world.events.Campaign.air.Goals as goal

pub returns-in-Some-clause-taken : goal.returns-in-Some-clause-taken
returns-in-Some-clause-taken c =
    let found : option_map (λ frame. frame.items) c.sent_frame.result
    ≡ sent_frame c.self.inside.server.plan.group (numbered c.self.inside.sent.items c.args.number) =
    c.sent_frame.ensures in
    let is : sent_frame c.self.inside.server.plan.group (numbered c.self.inside.sent.items c.args.number) ≡ Some c.deref.result.now =
    sym found ∙ ap (option_map (λ frame. frame.items)) c.in-Some.is ∙ ap (λ (bytes : List ℕ). Some bytes) (sym c.deref.ensures.0) in
    frame_step c.args.lines _ _ c.args.device c.args.number c.args.word c.deref.result.now c.hear.result
    (subst (λ (h : HeldCampaign). sent_frame h.server.plan.group (numbered h.sent c.args.number) ≡ Some c.deref.result.now)
    c.self.view_is is)
    c.hear.ensures.taken
