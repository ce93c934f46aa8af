-- Answers that a device sends, one after another, and the steps that they make.
use Rattle.std.proofs.Common.{◌≡◌, ℕ, ◌+◌, ◌≤◌, List, [], ◌∷◌, ◌++◌, length, map, replicate, Option, Some, refl, sym, ap, subst, ◌∙◌, append_assoc, length-append, arith}
use Rattle.std.proofs.lemmas.List.{map-append, length-map, append-nil, replicate-append-replicate, length-replicate}
use Rattle.device_core.specs.declared.uplink.Answer.{Answer}
use Rattle.device_core.specs.SessionTable.{SessionTable}
use Rattle.device_core.specs.Device.{DeviceState}
use Rattle.device_core.specs.Answers.{DeviceStep, after_answers, uplink_of, due_after}
use Rattle.device_core.specs.Deliver.{Outcome}
use Rattle.device_core.specs.HeldSessions.{HeldStore, StateStands}
use Rattle.device_core.specs.HeldDevice.{HeldDevice, device_of, DeviceStands, Becomes, Makes, GoesAside, Steps, StepsAside, held_with_answers}

due_more : (last : Option ℕ) (some more : List Answer)
    → due_after (due_after last some) more ≡ due_after last (some ++ more)
due_more last [] more = refl
due_more last (a ∷ some) more = due_more (Some a.due) some more

-- what is sent after others is sent with them
pub sent_more : {F : Type 0} (held : HeldDevice F) (some more : List Answer)
    → held_with_answers (held_with_answers held some) more ≡ held_with_answers held (some ++ more)
sent_more held some more =
    rw (due_more held.last_due some more, append_assoc, ← map-append uplink_of some more) refl

pub sent_none : {F : Type 0} (held : HeldDevice F) → held ≡ held_with_answers held []
sent_none held = rw (append-nil held.outbox) refl

-- so many copies of an answer are sent, and one more
pub sent_again : {F : Type 0} (old now new : HeldDevice F) (n : ℕ) (answer : Answer)
    → now ≡ held_with_answers old (replicate n answer) → new ≡ held_with_answers now (answer ∷ [])
    → new ≡ held_with_answers old (replicate (n + 1) answer)
sent_again old now new n answer so_far one =
    rw (one, so_far, sent_more old (replicate n answer) (answer ∷ []), ← replicate-append-replicate n 1 answer) refl

pub outbox_length : {F : Type 0} (old now : HeldDevice F) (n : ℕ) (answer : Answer)
    → now ≡ held_with_answers old (replicate n answer) → length now.outbox ≡ length old.outbox + n
outbox_length old now n answer is =
    rw is (length-append old.outbox (map uplink_of (replicate n answer))
    ∙ ap (λ (k : ℕ). length old.outbox + k) (length-map (replicate n answer) uplink_of ∙ length-replicate n answer))

-- ---- what leaves the sessions

-- a device that stands for a record stands for what all but its sessions became
pub becomes_aside : {F : Type 0} (old new : HeldDevice F) (after : DeviceState → DeviceState) → GoesAside old new after → Becomes old new after
becomes_aside {F} old new after goes device stands =
    let is : device_of new device.sessions ≡ after device =
    goes.rest device.sessions ∙ ap after (sym stands.rest) in
    subst (λ (d : DeviceState). DeviceStands new d) is (record {
      sessions = subst (λ (s : HeldStore F). StateStands s.state device.sessions) (sym goes.untouched) stands.sessions;
      rest = refl;
    })

pub makes_aside : {F A : Type 0} (old new : HeldDevice F) (answer : A) (call : DeviceState → Outcome A) → GoesAside old new (λ d. (call d).device)
    → ((table : SessionTable) → answer ≡ (call (device_of old table)).answer) → Makes A old new answer call
makes_aside old new answer call goes answers = record {
  stands = becomes_aside old new (λ d. (call d).device) goes;
  answers = λ device stands. answers device.sessions ∙ ap (λ (d : DeviceState). (call d).answer) (sym stands.rest);
}

pub steps_aside : {F : Type 0} (old new : HeldDevice F) (weight : ℕ) (step : DeviceState → DeviceStep) → StepsAside old new weight step → Steps old new weight step
steps_aside old new weight step aside = record {
  stands = becomes_aside old new (λ d. after_answers (step d)) aside.goes;
  few = aside.few;
}

-- so its sessions are as they were
pub aside_sessions : {F : Type 0} (old new : HeldDevice F) (after : DeviceState → DeviceState) (device : DeviceState) → GoesAside old new after → DeviceStands old device
    → (after device).sessions ≡ device.sessions
aside_sessions old new after device goes stands =
    ap (λ (d : DeviceState). d.sessions) (ap after stands.rest ∙ sym (goes.rest device.sessions))

-- one thing after another
pub goes_on : {F : Type 0} (old mid new : HeldDevice F) (first second : DeviceState → DeviceState) → GoesAside old mid first → GoesAside mid new second
    → GoesAside old new (λ d. second (first d))
goes_on old mid new first second one two = record {
  untouched = two.untouched ∙ one.untouched;
  rest = λ table. two.rest table ∙ ap second (one.rest table);
}

-- a step that left the sessions, and whose answers were sent
pub steps_of : {F : Type 0} (old mid new : HeldDevice F) (weight : ℕ) (answers : List Answer) (step : DeviceState → DeviceStep)
    → new ≡ held_with_answers mid answers → length answers ≤ weight
    → mid.sessions ≡ old.sessions → mid.outbox ≡ old.outbox
    → ((table : SessionTable) → step (device_of old table) ≡ record { device = device_of mid table; answers = answers })
    → StepsAside old new weight step
unfolding after_answers
steps_of old mid new weight answers step is few sessions outbox steps = rw is (record {
  goes = record { untouched = sessions; rest = λ table. rw (steps table) refl };
  few = omega (arith, ap length outbox, length-append mid.outbox (map uplink_of answers), length-map answers uplink_of, few);
})

-- the same with one answer
pub step_of : {F : Type 0} (old mid new : HeldDevice F) (answer : Answer) (step : DeviceState → DeviceStep)
    → new ≡ held_with_answers mid (answer ∷ []) → mid.sessions ≡ old.sessions → mid.outbox ≡ old.outbox
    → ((table : SessionTable) → step (device_of old table) ≡ record { device = device_of mid table; answers = answer ∷ [] })
    → StepsAside old new 1 step
step_of old mid new answer step is sessions outbox steps =
    steps_of old mid new 1 (answer ∷ []) step is (omega arith) sessions outbox steps
