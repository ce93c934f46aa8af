use Rattle.std.proofs.Common.{length, ap, sym, ◌∙◌}
use Rattle.campaign_world.specs.declared.logs.MadeHead.{MadeHead}
use Rattle.campaign_world.specs.LogsInside.{made_with}
use Rattle.campaign_world.proofs.LoggedItems.{one_more}
use Rattle.campaign_world.proofs.logs.UplinkLog.push.Goals as goal

pub returns-clause-items : goal.returns-clause-items
returns-clause-items c = rw (← c.self.view_is, ← c.as_slice.ensures.value)
    (one_more (λ (h : MadeHead). h.at) (λ (h : MadeHead). h.len) made_with _ _ _ _ _ _ c.self.invariant c.put.ensures.items c.push_reserved.ensures.items
    (c.len-at.ensures ∙ c.self.inside.bytes.ok.0) (c.len.ensures.number ∙ ap length (sym c.as_slice.ensures.value)))
