use Rattle.std.proofs.Common.{Option, None, ap, ◌∙◌, ◌++◌}
use Rattle.package_grammar.specs.declared.downlink.Downlink.{Downlink}
use Rattle.campaign_world.specs.HeldWorld.{sent_by}
use Rattle.campaign_world.proofs.Ends.{fragment_sent}
use Rattle.campaign_world.proofs.world.sends.send_fragment.Goals as goal

pub returns-clause-sent : goal.returns-clause-sent
returns-clause-sent c = c.keep.ensures
    ∙ ap (λ (d : Option Downlink). c.args.sent.now.items ++ sent_by None d)
    (c.ok.ensures.value ∙ fragment_sent c.next_fragment.result _ c.next_fragment.ensures.sent)
