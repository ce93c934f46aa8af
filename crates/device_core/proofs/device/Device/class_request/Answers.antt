use Rattle.std.proofs.Common.{refl}
use Rattle.device_core.specs.ClassSessions.{class_session_step}
use Rattle.device_core.specs.Answers.{answer_at_once}
use Rattle.device_core.proofs.Sending.{step_of}
use Rattle.device_core.proofs.device.Device.class_request.Goals as goal

pub returns : goal.returns
unfolding class_session_step
returns g c =
    step_of c.args.self.now (record c.args.self.now { class_session = c.class_session_after-self-inside.result }) c.send.new.self (answer_at_once c.args.here c.request_answer.result) _ (rw (← c.self.view_is) c.send.ensures) refl refl
    (λ table. rw (c.request_answer.ensures.value, c.class_session_after-self-inside.ensures.value, c.session_answer-bits.ensures.start, c.session_answer-bits.ensures.bits, c.start_of-start.ensures, c.now-now.ensures, c.is_some-there.ensures, c.get.ensures, ← c.self.view_is) refl)
