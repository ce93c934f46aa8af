use Rattle.std.proofs.Common.{refl}
use Rattle.device_core.specs.Firmware.{version_step}
use Rattle.device_core.proofs.Sending.{step_of}
use Rattle.device_core.proofs.device.Device.version.Goals as goal

pub returns : goal.returns
unfolding version_step
returns g c =
    step_of c.args.self.now c.args.self.now c.send.new.self _ _ c.send.ensures refl refl
    (λ table. rw (c.version_answer-answer.ensures.value, c.running.ensures.version, ← c.self.view_is) refl)
