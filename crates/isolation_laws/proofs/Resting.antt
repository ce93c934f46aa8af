-- What a campaign's own server sends leaves no reboot to come.
use Rattle.std.proofs.Common.{◌≡◌, ◌⊎◌, inl, inr, ℕ, ◌+◌, ◌-◌, ◌^◌, ◌<◌, Bool, true, false, cond, List, [], ◌∷◌, length, nat_lt, None, Ok, Err, refl, sym, ◌∙◌, subst, arith}
use Rattle.std.specs.List.{AllByRecursion}
use Rattle.wire_base.specs.declared.refusal.Direction.TheVariants.{Down}
use Rattle.sync_wire.specs.declared.cmd.Cmd.TheVariants as s
use Rattle.package_grammar.specs.declared.command.Command.{Command}
use Rattle.package_grammar.specs.declared.command.Command.TheVariants.{Sync}
use Rattle.package_grammar.specs.declared.downlink.Downlink.{Downlink}
use Rattle.package_grammar.specs.Reading.{Reading, reading_of}
use Rattle.clock_sync.specs.Clock.{device_time}
use Rattle.device_core.specs.declared.arrival.Arrival.{Arrival}
use Rattle.device_core.specs.declared.delivered.Delivered.{Delivered}
use Rattle.device_core.specs.declared.delivered.Delivered.TheVariants.{Deaf, OutboxFull, Done}
use Rattle.device_core.specs.Device.{DeviceState, with_counts, after_deaf, after_full}
use Rattle.device_core.specs.Answers.{DeviceStep, no_answer, after_answers}
use Rattle.device_core.specs.Firmware.{countdown_step, after_due_reboot, after_migration, is_reached}
use Rattle.device_core.specs.Step.{command_step, acts, step, after_commands, weights}
use Rattle.device_core.specs.Deliver.{Outcome, message_delivery, read_delivery, arrival, heard_delivery, waking, delivery}
use Rattle.campaign_laws.proofs.Calm.{IsIdle, is_calm, commands_calm, reading_calm, due_calm, waking_calm}

-- no reboot will come
abbrev pub Rests : DeviceState → Type 0
Rests d = d.reboot ≡ None

idle : (d : DeviceState) → Rests d → IsIdle d.slots.version d
idle d k = record { reboot = k; version = refl }

-- ---- a countdown of 0 is over at once

now_reached : (now : ℕ) → now < 2 ^ 32 → is_reached now now ≡ true
now_reached now low =
    let whole : now + (2 ^ 32 - now) ≡ 2 ^ 32 = omega (arith, low) in
    rw whole refl

pub due_rests : (t : ℕ) (d : DeviceState) → Rests d → Rests (after_due_reboot t d)
due_rests t d k = (due_calm t d (idle d k)).reboot

counted_down : (at : Arrival) (d : DeviceState) → Rests d
    → Rests (after_due_reboot at.moment.t (after_commands at d (Sync (s.DevRebootCountdownReq 0) ∷ [])))
unfolding after_commands step command_step countdown_step after_answers after_due_reboot
counted_down at d k = by_way (acts at.via (Sync (s.DevRebootCountdownReq 0)))
  where
    by_way : (b : Bool) → Rests (after_due_reboot at.moment.t (after_answers (cond {A = DeviceStep} b
        (command_step at d (Sync (s.DevRebootCountdownReq 0))) (no_answer d))))
    by_way true = rw (now_reached (device_time d.clock at.moment.t) (omega arith)) refl
    by_way false = rw k refl

-- ---- a payload

-- its commands set no reboot, or one that is over at once
abbrev pub AreSoft : List Command → Type 0
AreSoft xs = AllByRecursion (λ x. is_calm x ≡ true) xs ⊎ (xs ≡ Sync (s.DevRebootCountdownReq 0) ∷ [])

-- so it is however it is read
abbrev pub IsSoft : Downlink → Type 0
IsSoft down = (xs : List Command) → reading_of down.port Down down.payload ≡ Ok xs → AreSoft xs

commands_due : (at : Arrival) (d : DeviceState) (xs : List Command) → AreSoft xs → Rests d
    → Rests (after_due_reboot at.moment.t (after_commands at d xs))
commands_due at d xs (inl calm) k = due_rests at.moment.t _ (commands_calm at d xs calm (idle d k)).reboot
commands_due at d xs (inr is) k =
    subst (λ (zs : List Command). Rests (after_due_reboot at.moment.t (after_commands at d zs))) (sym is) (counted_down at d k)

room_rests : (at : Arrival) (d : DeviceState) (xs : List Command) (b : Bool) → AreSoft xs → Rests d
    → Rests (after_due_reboot at.moment.t (cond {A = Outcome Delivered} b (record { device = with_counts after_full d; answer = OutboxFull (length d.outbox + weights xs) })
    (record { device = after_commands at d xs; answer = Done })).device)
room_rests at d xs true soft k = due_rests at.moment.t _ k
room_rests at d xs false soft k = commands_due at d xs soft k

read_rests : (at : Arrival) (d : DeviceState) (r : Reading) → ((xs : List Command) → r ≡ Ok xs → AreSoft xs) → Rests d
    → Rests (after_due_reboot at.moment.t (read_delivery at d r).device)
unfolding read_delivery message_delivery
read_rests at d (Ok xs) soft k = room_rests at d xs (nat_lt 8 (length d.outbox + weights xs)) (soft xs refl) k
read_rests at d (Err refusal) soft k = due_rests at.moment.t _ k

heard_by : (t word mark : ℕ) (down : Downlink) (d : DeviceState) (b : Bool) → IsSoft down → Rests d
    → Rests (after_due_reboot t (cond {A = Outcome Delivered} b (read_delivery (arrival t word mark down d) d (reading_of down.port Down down.payload))
    (record { device = with_counts after_deaf d; answer = Deaf })).device)
heard_by t word mark down d true soft k = read_rests (arrival t word mark down d) d (reading_of down.port Down down.payload) soft k
heard_by t word mark down d false soft k = due_rests t _ k

pub delivery_rests : (t word mark : ℕ) (down : Downlink) (d : DeviceState) → IsSoft down → Rests d → Rests (delivery t word mark down d).device
unfolding delivery heard_delivery
delivery_rests t word mark down d soft k = heard_by t word mark down (after_due_reboot t d) _ soft (due_rests t d k)

-- ---- it wakes, or learns a format

pub waking_rests : (t : ℕ) (d : DeviceState) → Rests d → Rests (waking t d).device
waking_rests t d k = (waking_calm t d (idle d k)).reboot

pub migration_rests : (d : DeviceState) → Rests d → Rests (after_migration d)
unfolding after_migration
migration_rests d k = k

-- ---- which payloads are

-- those of another port than that of firmware management
pub far_soft : (down : Downlink) → (down.port ≡ 203 → ⊥) → IsSoft down
far_soft down far xs is = inl (reading_calm down (inl far) xs is)

-- and those that are read as one soft command
pub one_soft : (down : Downlink) (x : Command) → reading_of down.port Down down.payload ≡ Ok (x ∷ []) → AreSoft (x ∷ []) → IsSoft down
one_soft down x read soft xs is =
    let e : Ok (x ∷ []) ≡ Ok xs = sym read ∙ is in
    let same : x ∷ [] ≡ xs = cc in
    subst AreSoft same soft
