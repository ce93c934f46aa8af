use Rattle.std.proofs.Common.{◌≡◌, ◌∙◌, List, Ok, Err, IfOk, IfErr, Option, sym, ap, subst}
use Rattle.device_core.specs.Device.{DeviceState}
use Rattle.wire_base.specs.Numbered.{numbered}
use Rattle.campaign_world.specs.HeldLate.{Late, DeviceRests}
use Rattle.campaign_world.specs.PhaseInside.{held_of}
use Rattle.campaign_world.specs.Recovery.{recovery_by, recovery}
use Rattle.campaign_world.proofs.Steps.{some_now, none_now}
use Rattle.campaign_world.proofs.Zips.{numbered_found, numbered_missed}
use Rattle.campaign_world.proofs.world.World.recovered.Goals as goal

pub returns-in-Some-clause-file : goal.returns-in-Some-clause-file
unfolding recovery
returns-in-Some-clause-file c = rw (← c.self.view_is) (λ world stands.
    let one = numbered_found DeviceRests (held_of c.self.inside.phase).devices world.devices c.args.device c.in-Some.found.now stands.devices
    (some_now _ _ _ _ (c.numbered.ensures ∙ ap (λ (items : List Late). numbered items c.from.result) c.devices.ensures
    ∙ ap (numbered (held_of c.self.inside.phase).devices) c.from.ensures) c.in-Some.is) in
    subst (λ (o : Option DeviceState). IfOk c.recovered_by.result (λ file. recovery_by o ≡ Ok file.now)) (sym one.1)
    (c.recovered_by.ensures.file one.0 one.2))

pub returns-in-Some-clause-why : goal.returns-in-Some-clause-why
unfolding recovery
returns-in-Some-clause-why c = rw (← c.self.view_is) (λ world stands.
    let one = numbered_found DeviceRests (held_of c.self.inside.phase).devices world.devices c.args.device c.in-Some.found.now stands.devices
    (some_now _ _ _ _ (c.numbered.ensures ∙ ap (λ (items : List Late). numbered items c.from.result) c.devices.ensures
    ∙ ap (numbered (held_of c.self.inside.phase).devices) c.from.ensures) c.in-Some.is) in
    subst (λ (o : Option DeviceState). IfErr c.recovered_by.result (λ why. recovery_by o ≡ Err why)) (sym one.1)
    (c.recovered_by.ensures.why one.0 one.2))

pub returns-in-None-clause-why : goal.returns-in-None-clause-why
unfolding recovery
returns-in-None-clause-why c = rw (← c.self.view_is) (λ world stands.
    ap recovery_by (numbered_missed DeviceRests (held_of c.self.inside.phase).devices world.devices c.args.device stands.devices
    (none_now _ _ _ (c.numbered.ensures ∙ ap (λ (items : List Late). numbered items c.from.result) c.devices.ensures
    ∙ ap (numbered (held_of c.self.inside.phase).devices) c.from.ensures) c.in-None.is)))
