use Rattle.std.proofs.Common.{refl, sym, subst}
use Rattle.device_core.specs.Configuration.{at_least_size}
use Rattle.device_core.specs.Device.{first_device}
use Rattle.campaign_world.specs.HeldLate.{Late, DeviceRests}
use Rattle.campaign_world.proofs.Steps.{join_step}
use Rattle.campaign_world.proofs.world.planning.Planning.add_device.Goals as goal

pub returns-clause-taken : goal.returns-clause-taken
returns-clause-taken c = λ lines kept world stands. join_step lines _ kept _ _ _ _ _ _ _ c.args.id world _ c.new.result stands c.in_ok-join.ensures.plan c.in_ok-join.ensures.devices c.in_ok-add_flash.ensures
    (subst (λ (l : Late). DeviceRests l (first_device (at_least_size c.args.config))) (sym c.new.ensures) refl)
