use Rattle.std.proofs.Common.{Option, Some, ap, ◌∙◌, ◌++◌}
use Rattle.package_grammar.specs.declared.downlink.Downlink.{Downlink}
use Rattle.campaign_world.specs.HeldWorld.{sent_by}
use Rattle.campaign_world.proofs.world.sends.send_request.Goals as goal

pub returns : goal.returns
returns c = c.keep.ensures
    ∙ ap (λ (d : Option Downlink). c.args.sent.now.items ++ sent_by (Some c.args.device) d) c.ask.ensures
