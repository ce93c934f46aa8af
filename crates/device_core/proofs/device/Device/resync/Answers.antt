use Rattle.std.proofs.Common.{◌≡◌, ◌≤◌, ℕ, length, replicate, refl, arith, ap, ◌∙◌}
use Rattle.std.proofs.lemmas.List.{length-replicate}
use Rattle.package_grammar.specs.declared.command.Command.TheVariants.{Sync}
use Rattle.device_core.specs.Answers.{answer_at_once}
use Rattle.device_core.specs.Clock.{resync_step}
use Rattle.device_core.specs.HeldDevice.{held_with_answers}
use Rattle.device_core.proofs.Sending.{steps_of, sent_again, sent_none, outbox_length}
use Rattle.device_core.proofs.device.Device.resync.Goals as goal

pub requests-init : goal.requests-init
requests-init g c = sent_none _

pub send-requires-clause-room : goal.send-requires-clause-room
send-requires-clause-room g c = omega (arith, outbox_length _ _ _ _ c.requests.invariant)

pub requests-preserved : goal.requests-preserved
requests-preserved g c = sent_again _ _ _ _ _ c.requests.invariant c.send.ensures

pub returns : goal.returns
unfolding resync_step
returns g c =
    let request = answer_at_once c.args.here (Sync c.request-request.result) in
    let all : c.requests.counter ≡ c.args.count = omega arith in
    let few : length (replicate c.args.count request) ≤ c.args.count = omega (arith, length-replicate c.args.count request) in
    let is = c.requests.invariant ∙ ap (λ (n : ℕ). held_with_answers c.args.self.now (replicate n request)) all in
    steps_of c.args.self.now c.args.self.now c.requests.self _ (replicate c.args.count request) _ is few refl refl
    (λ table. rw (c.request-request.ensures.value, ← c.self.view_is) refl)
