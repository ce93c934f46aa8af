use Rattle.std.proofs.Common.{refl}
use Rattle.device_core.specs.Firmware.{upgrade_step}
use Rattle.device_core.proofs.Sending.{step_of}
use Rattle.device_core.proofs.device.Device.upgrade.Goals as goal

pub returns : goal.returns
unfolding upgrade_step
returns g c =
    step_of c.args.self.now c.args.self.now c.send.new.self _ _ c.send.ensures refl refl
    (λ table. rw (c.upgrade_answer-answer.ensures.value, c.next.ensures, ← c.self.view_is) refl)
