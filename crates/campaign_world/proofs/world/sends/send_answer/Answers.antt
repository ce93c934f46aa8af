use Rattle.std.proofs.Common.{Option, Some, ap, ◌∙◌, ◌++◌}
use Rattle.package_grammar.specs.declared.downlink.Downlink.{Downlink}
use Rattle.campaign_world.specs.HeldWorld.{sent_by}
use Rattle.campaign_world.proofs.Ends.{answer_sent}
use Rattle.campaign_world.proofs.world.sends.send_answer.Goals as goal

pub returns-clause-sent : goal.returns-clause-sent
returns-clause-sent c =
    rw (← c.port.ensures, ← c.bytes.ensures.value)
    (c.keep.ensures
    ∙ ap (λ (d : Option Downlink). c.args.sent.now.items ++ sent_by (Some c.args.made.now.device) d)
    (c.answered.ensures ∙ answer_sent c.uplink-heard.result _ c.uplink-heard.ensures.answer))
