use Rattle.std.proofs.Common.{refl}
use Rattle.package_grammar.specs.declared.command.Command.TheVariants.{Cast}
use Rattle.device_core.specs.Groups.{groups_step}
use Rattle.device_core.specs.declared.uplink.Answer.{Answer}
use Rattle.device_core.specs.Answers.{answer_at_once}
use Rattle.device_core.proofs.Sending.{step_of}
use Rattle.device_core.proofs.device.Device.groups.Goals as goal

pub returns : goal.returns
unfolding groups_step
returns g c =
    let answer : Answer = answer_at_once c.args.here (Cast c.status-answer.result) in
    step_of c.args.self.now c.args.self.now c.send.new.self answer _
    c.send.ensures refl refl
    (λ table. rw (c.status-answer.ensures.value, ← c.self.view_is) refl)
