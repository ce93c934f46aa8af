use Rattle.std.proofs.Common.{Option, Some, sym, ap, ◌∙◌}
use Rattle.package_grammar.specs.declared.command.Command.{Command}
use Rattle.campaign_server.specs.Asking.{by_unicast}
use Rattle.campaign_server.specs.Server.{DownlinkCommand}
use Rattle.campaign_server.specs.Sent.{down_of}
use Rattle.campaign_server.proofs.Plans.{asked_of}
use Rattle.campaign_server.proofs.server.Server.ask.Goals as goal

pub returns-in_err-port : goal.returns-in_err-port
returns-in_err-port c =
    let stands = rw c.deref.ensures.value at c.numbered-stage.ensures in
    rw (← c.self.view_is)
    (c.from_residual.ensures ∙ ap (λ (o : Option Command). down_of (by_unicast o)) c.in_err-port.ensures.command ∙ ap (λ (d : Option DownlinkCommand). down_of d) (sym (asked_of _ c.args.dev c.device_of-device.result c.numbered-stage.result c.device_of-device.ensures stands)))

pub returns : goal.returns
returns c =
    let stands = rw c.deref.ensures.value at c.numbered-stage.ensures in
    rw (← c.self.view_is)
    (ap Some c.unicast.ensures ∙ ap (λ (o : Option Command). down_of (by_unicast o)) c.in_ok-port.ensures.command ∙ ap (λ (d : Option DownlinkCommand). down_of d) (sym (asked_of _ c.args.dev c.device_of-device.result c.numbered-stage.result c.device_of-device.ensures stands)))
