use Rattle.std.proofs.Common.{Option, Some, ap, sym, ◌∙◌}
use Rattle.package_grammar.specs.declared.downlink.Downlink.{Downlink}
use Rattle.campaign_world.specs.declared.numbered.SentPayload.{SentPayload}
use Rattle.campaign_world.specs.Making.{sent_frame}
use Rattle.campaign_world.proofs.world.sends.sent_frame.Goals as goal

pub returns-in-Some : goal.returns-in-Some
returns-in-Some c =
    c.frame_of.ensures c.in-Some.found.receiver
    ∙ ap (λ (d : Downlink). sent_frame c.args.server.now.plan.group (Some (record { receiver = c.in-Some.found.receiver; down = d }))) c.copied.ensures
    ∙ ap (λ (o : Option SentPayload). sent_frame c.args.server.now.plan.group o) (sym c.in-Some.is ∙ c.number.ensures)
