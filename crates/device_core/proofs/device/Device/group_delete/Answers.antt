use Rattle.std.proofs.Common.{refl}
use Rattle.device_core.proofs.Heard.{some_there}
use Rattle.mc_group.specs.Groups.{group_at}
use Rattle.device_core.specs.Groups.{group_delete_step}
use Rattle.device_core.specs.declared.uplink.Answer.{Answer}
use Rattle.device_core.specs.Answers.{answer_at_once}
use Rattle.device_core.proofs.Sending.{step_of}
use Rattle.device_core.proofs.device.Device.group_delete.Goals as goal

pub returns-in-Undefined : goal.returns-in-Undefined
unfolding group_delete_step
returns-in-Undefined g c =
    let answer : Answer = answer_at_once c.args.here c.delete_answer.result in
    step_of c.args.self.now (record c.args.self.now { groups = c.delete.new.self }) c.send.new.self answer _
    (rw (← c.self.view_is) c.send.ensures) refl refl
    (λ table. rw (c.delete_answer.ensures.value, c.in-Undefined.ensures.refused refl, ← c.self.view_is, c.in-Undefined.ensures.undefined.0 refl) refl)

pub returns-in-Ok : goal.returns-in-Ok
unfolding group_delete_step
returns-in-Ok g c =
    let there = some_there (group_at c.self.inside.groups c.args.id) (λ none. let other = c.in-Ok.ensures.undefined.1 none in cc) in
    let answer : Answer = answer_at_once c.args.here c.delete_answer-in-Ok.result in
    step_of c.args.self.now (record c.args.self.now { groups = c.delete.new.self; class_session = c.without_group-self-inside.result }) c.send-in-Ok.new.self answer _
    (rw (← c.self.view_is) c.send-in-Ok.ensures) refl refl
    (λ table. rw (c.delete_answer-in-Ok.ensures.value, c.in-Ok.ensures.ok refl, c.without_group-self-inside.ensures, ← c.self.view_is, there) refl)
