use Rattle.std.proofs.Common.{refl}
use Rattle.device_core.specs.Firmware.{delete_image_step}
use Rattle.device_core.specs.declared.uplink.Answer.{Answer}
use Rattle.device_core.specs.Answers.{answer_at_once}
use Rattle.device_core.proofs.Sending.{step_of}
use Rattle.device_core.proofs.device.Device.delete_image.Goals as goal

pub returns : goal.returns
unfolding delete_image_step
returns g c =
    let answer : Answer = answer_at_once c.args.here c.delete_answer.result in
    step_of c.args.self.now (record c.args.self.now { slots = c.delete-bits.new.self.slots }) c.send.new.self answer _
    (rw (← c.self.view_is) c.send.ensures) refl refl
    (λ table. rw (c.delete_answer.ensures.value, c.delete-bits.ensures.slots, c.delete-bits.ensures.bits, ← c.self.view_is) refl)
