use Rattle.std.proofs.Common.{length, ap, sym, ◌∙◌}
use Rattle.campaign_world.specs.declared.logs.SentHead.{SentHead}
use Rattle.campaign_world.specs.LogsInside.{sent_with}
use Rattle.campaign_world.proofs.LoggedItems.{one_more}
use Rattle.campaign_world.proofs.logs.SentLog.push.Goals as goal

pub returns : goal.returns
returns c = rw (← c.self.view_is, ← c.as_slice.ensures.value)
    (one_more (λ (h : SentHead). h.at) (λ (h : SentHead). h.len) sent_with _ _ _ _ _ _ c.self.invariant c.put.ensures.items c.push_reserved.ensures.items
    (c.len-at.ensures ∙ c.self.inside.bytes.ok.0) (c.len.ensures.number ∙ ap length (sym c.as_slice.ensures.value)))
