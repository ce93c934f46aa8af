use Rattle.std.proofs.Common.{sym, ap, subst, ◌∙◌}
use Rattle.flash_session.specs.Flashes.{Cells}
use Rattle.device_core.specs.Configuration.{at_least_size}
use Rattle.device_core.specs.Device.{first_device}
use Rattle.device_core.specs.HeldDevice.{HeldDevice, Starts}
use Rattle.campaign_world.specs.HeldLate.{IsAtRest}
use Rattle.campaign_world.proofs.late.created.Goals as goal

pub returns-in-Ok-new : goal.returns-in-Ok-new
returns-in-Ok-new c =
    let config = at_least_size c.args.config in
    let starts = c.in-Ok.ensures.1 in
    subst (λ (d : HeldDevice Cells). IsAtRest d (first_device config)) (sym c.in-Ok-new.ensures.ok)
    (c.start.ensures config _ (subst (λ (f : Cells). Starts config f c.in-Ok.device) (sym starts.flash_is) starts)
    (ap (λ (f : Cells). f.bytes) starts.flash_is ∙ c.in_ok-flash.ensures))
