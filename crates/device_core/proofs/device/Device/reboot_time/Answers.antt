use Rattle.std.proofs.Common.{refl}
use Rattle.device_core.specs.Firmware.{reboot_time_step}
use Rattle.device_core.specs.Answers.{answer_at_once}
use Rattle.device_core.proofs.Sending.{step_of}
use Rattle.device_core.proofs.device.Device.reboot_time.Goals as goal

pub returns : goal.returns
unfolding reboot_time_step
returns g c =
    step_of c.args.self.now (record c.args.self.now { reboot = c.chosen_moment-self-inside.result }) c.send.new.self (answer_at_once c.args.here c.time_answer.result) _ (rw (← c.self.view_is) c.send.ensures) refl refl
    (λ table. rw (c.time_answer.ensures.value, c.chosen_moment-self-inside.ensures, c.now.ensures, ← c.self.view_is) refl)
