use Rattle.std.proofs.Common.{◌≡◌, ◌≤◌, true, false, leb, length, refl, arith}
use Rattle.std.proofs.lemmas.Bool.{le-leb, lt-leb}
use Rattle.device_core.specs.Groups.{group_setup_step}
use Rattle.device_core.specs.declared.uplink.Answer.{Answer}
use Rattle.device_core.specs.Answers.{answer_at_once}
use Rattle.device_core.proofs.Sending.{step_of}
use Rattle.device_core.proofs.device.Device.group_setup.Goals as goal

pub returns-in-IdError : goal.returns-in-IdError
unfolding group_setup_step
returns-in-IdError g c =
    let past : leb (length c.self.inside.groups) c.args.id ≡ true = le-leb _ _ (c.in-IdError.ensures.id_error.0 refl) in
    let answer : Answer = answer_at_once c.args.here c.setup_answer.result in
    step_of c.args.self.now (record c.args.self.now { groups = c.setup.new.self }) c.send.new.self answer _
    (rw (← c.self.view_is) c.send.ensures) refl refl
    (λ table. rw (c.setup_answer.ensures.value, c.in-IdError.ensures.refused refl, ← c.self.view_is, past) refl)

pub returns-in-Ok : goal.returns-in-Ok
unfolding group_setup_step
returns-in-Ok g c =
    let within : length c.self.inside.groups ≤ c.args.id → ⊥ = λ past. let other = c.in-Ok.ensures.id_error.1 past in cc in
    let before : leb (length c.self.inside.groups) c.args.id ≡ false = lt-leb _ _ (omega arith) in
    let answer : Answer = answer_at_once c.args.here c.setup_answer-in-Ok.result in
    step_of c.args.self.now (record c.args.self.now { groups = c.setup.new.self }) c.send-in-Ok.new.self answer _
    (rw (← c.self.view_is) c.send-in-Ok.ensures) refl refl
    (λ table. rw (c.setup_answer-in-Ok.ensures.value, c.in-Ok.ensures.ok refl, ← c.self.view_is, before) refl)
