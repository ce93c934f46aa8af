use Rattle.std.proofs.Common.{ℕ, ◌+◌, List, Some, ap, ◌∙◌, subst}
use Rattle.package_grammar.specs.declared.downlink.Downlink.{Downlink}
use Rattle.device_core.specs.Events.{Receives}
use Rattle.campaign_world.specs.Making.{raw_down, with_event}
use Rattle.campaign_world.specs.HeldWorld.{Plays}
use Rattle.campaign_world.proofs.world.events.Campaign.raw_form.Goals as goal

pub returns-clause-taken : goal.returns-clause-taken
returns-clause-taken c =
    subst (λ (d : Downlink). Plays c.args.lines c.args.self.now c.raw.new.self c.raw.result
    (λ world. with_event world c.args.device (Some (Receives world.time c.args.word (world.lines + 1) d))))
    (c.new-down.ensures ∙ ap (λ (payload : List ℕ). raw_down c.args.port payload) (c.as_slice.ensures.value ∙ c.put.ensures)) c.raw.ensures.taken
