-- An event at a device that rests leaves at most eight uplinks in its outbox.
use Rattle.std.proofs.Common.{◌≡◌, ℕ, ◌≤◌, ◌+◌, Bool, true, false, cond, nat_lt, nat_le, List, [], ◌∷◌, length, map, replicate, get_or, is_none, Option, Some, None, Result, Ok, Err, refl, ap, ◌∙◌, subst, arith}
use Rattle.std.proofs.lemmas.Bool.Decides.{nat_tests}
use Rattle.std.proofs.lemmas.List.{length-append, length-map, length-replicate}
use Rattle.package_grammar.specs.declared.command.Command.{Command}
use Rattle.package_grammar.specs.declared.command.Command.TheVariants.{Sync, Cast}
use Rattle.package_grammar.specs.declared.downlink.Downlink.{Downlink}
use Rattle.package_grammar.specs.Reading.{Reading}
use Rattle.sync_wire.specs.declared.cmd.Cmd.{Cmd as SyncCmd}
use Rattle.sync_wire.specs.declared.cmd.Cmd.TheVariants as s
use Rattle.cast_wire.specs.declared.cmd.Cmd.{Cmd as CastCmd}
use Rattle.cast_wire.specs.declared.cmd.Cmd.TheVariants as c
use Rattle.frag_session.specs.declared.answers.StatusAns.{StatusAns}
use Rattle.mc_frames.specs.declared.fault.FrameFault.{FrameFault}
use Rattle.device_core.specs.Device.{DeviceState}
use Rattle.device_core.specs.Radio.{brought, after_frame, radio}
use Rattle.device_core.specs.declared.uplink.Uplink.{Uplink}
use Rattle.device_core.specs.declared.uplink.Answer.{Answer}
use Rattle.device_core.specs.declared.arrival.Arrival.{Arrival}
use Rattle.device_core.specs.Answers.{DeviceStep, no_answer, uplink_of, after_answers}
use Rattle.device_core.specs.Clock.{answer_step, periodicity_step, resync_step}
use Rattle.device_core.specs.Fragments.{status_answers, status_step, setup_step, delete_step, heard_step, fragment_step}
use Rattle.device_core.specs.Groups.{groups_step, group_setup_step, group_delete_step}
use Rattle.device_core.specs.ClassSessions.{class_session_step}
use Rattle.device_core.specs.Firmware.{version_step, upgrade_step, delete_image_step, reboot_time_step, countdown_step, after_due_reboot}
use Rattle.device_core.specs.Step.{command_step, acts, step, after_commands, weight, weights}
use Rattle.flash_session.specs.Flashes.{Cells}
use Rattle.device_core.specs.HeldDevice.{HeldDevice, DeviceStands}
use Rattle.campaign_world.specs.declared.numbered.NumberedUplink.{NumberedUplink}
use Rattle.campaign_world.specs.HeldEvent.{numbered_after}
use Rattle.device_core.proofs.Outboxes.{outbox_is}
use Rattle.device_core.specs.Deliver.{Outcome, message_delivery, read_delivery, heard_delivery, time_asking, delivery, waking}

-- ---- a command

-- its answers are at most so many, and nothing else comes to the outbox
record IsLight (d : DeviceState) (most : ℕ) (e : DeviceState) (answers : List Answer) : Type 0 where
  kept : e.outbox ≡ d.outbox
  few : length answers ≤ most

abbrev IsLightStep : DeviceState → ℕ → DeviceStep → Type 0
IsLightStep d most made = IsLight d most made.device made.answers

light_by : (d : DeviceState) (most : ℕ) (b : Bool) (one other : DeviceStep) → IsLight d most one.device one.answers
    → IsLight d most other.device other.answers
    → IsLight d most (cond {A = DeviceStep} b one other).device (cond {A = DeviceStep} b one other).answers
light_by d most true one other k l = k
light_by d most false one other k l = l

outbox_by : (outbox : List Uplink) (b : Bool) (one other : DeviceState) → one.outbox ≡ outbox → other.outbox ≡ outbox
    → (cond {A = DeviceState} b one other).outbox ≡ outbox
outbox_by outbox true one other k l = k
outbox_by outbox false one other k l = l

status_few : (here : Arrival) (index : ℕ) (status : Option StatusAns) → length (status_answers here index status) ≤ 1
status_few here index None = omega arith
status_few here index (Some status) = omega arith

repeated_few : (count : ℕ) (answer : Answer) → length (replicate count answer) ≤ count
repeated_few count answer = omega (arith, length-replicate count answer)

sync_light : (here : Arrival) (d : DeviceState) (cmd : SyncCmd) → IsLightStep d (weight (Sync cmd)) (command_step here d (Sync cmd))
unfolding command_step answer_step periodicity_step resync_step version_step upgrade_step delete_image_step
    reboot_time_step countdown_step
sync_light here d s.PackageVersionReq = record { kept = refl; few = omega arith }
sync_light here d (s.AppTimeAns correction token) = record { kept = refl; few = omega arith }
sync_light here d (s.ForceDeviceResyncReq count) = record { kept = refl; few = repeated_few count _ }
sync_light here d cmd = record { kept = refl; few = omega arith }

cast_light : (here : Arrival) (d : DeviceState) (cmd : CastCmd) → IsLightStep d (weight (Cast cmd)) (command_step here d (Cast cmd))
unfolding command_step status_step setup_step delete_step fragment_step heard_step groups_step group_setup_step
    group_delete_step class_session_step
cast_light here d (c.FragSessionStatusReq index all) = record { kept = refl; few = status_few here index _ }
cast_light here d (c.DataFragment index n part) = record { kept = outbox_by d.outbox _ _ _ refl refl; few = omega arith }
cast_light here d (c.McGroupSetupReq id addr key min max) =
    light_by d 1 (nat_le (length d.groups) id) _ _ (record { kept = refl; few = omega arith }) (record { kept = refl; few = omega arith })
cast_light here d (c.McGroupDeleteReq id) =
    light_by d 1 (is_none (get_or d.groups id None)) _ _ (record { kept = refl; few = omega arith }) (record { kept = refl; few = omega arith })
cast_light here d cmd = record { kept = refl; few = omega arith }

command_light : (here : Arrival) (d : DeviceState) (x : Command) → IsLightStep d (weight x) (command_step here d x)
command_light here d (Sync cmd) = sync_light here d cmd
command_light here d (Cast cmd) = cast_light here d cmd

step_light : (here : Arrival) (d : DeviceState) (x : Command) → IsLightStep d (weight x) (step here d x)
unfolding step
step_light here d x =
    light_by d (weight x) (acts here.via x) (command_step here d x) (no_answer d) (command_light here d x)
    (record { kept = refl; few = omega arith })

answered_few : (d : DeviceState) (most : ℕ) (made : DeviceStep) → IsLightStep d most made
    → length (after_answers made).outbox ≤ length d.outbox + most
unfolding after_answers
answered_few d most made light =
    omega (
      arith,
      length-append made.device.outbox (map uplink_of made.answers),
      length-map made.answers uplink_of,
      ap length light.kept,
      light.few,
    )

commands_few : (here : Arrival) (d : DeviceState) (cs : List Command)
    → length (after_commands here d cs).outbox ≤ length d.outbox + weights cs
unfolding after_commands
commands_few here d [] = omega arith
commands_few here d (x ∷ cs) =
    omega (arith, commands_few here (after_answers (step here d x)) cs, answered_few d (weight x) (step here d x) (step_light here d x))

-- ---- a payload

reboot_outbox : (t : ℕ) (d : DeviceState) → (after_due_reboot t d).outbox ≡ d.outbox
unfolding after_due_reboot
reboot_outbox t d = outbox_by d.outbox _ _ _ refl refl

message_few : (here : Arrival) (d : DeviceState) (cs : List Command) → length d.outbox ≤ 8
    → length (message_delivery here d cs).device.outbox ≤ 8
unfolding message_delivery
message_few here d cs few = by_room (nat_lt 8 (length d.outbox + weights cs)) refl
  where
    by_room : (b : Bool) → nat_lt 8 (length d.outbox + weights cs) ≡ b → length (message_delivery here d cs).device.outbox ≤ 8
    by_room true is = rw (is) few
    by_room false is =
        let light : length d.outbox + weights cs ≤ 8 = grind (arith, nat_tests, is) in
        rw (is) (omega (arith, commands_few here d cs, light))

read_few : (here : Arrival) (d : DeviceState) (r : Reading) → length d.outbox ≤ 8
    → length (read_delivery here d r).device.outbox ≤ 8
unfolding read_delivery
read_few here d (Ok cs) few = message_few here d cs few
read_few here d (Err refusal) few = few

few_by : {A : Type 0} (b : Bool) (one other : Outcome A) → length one.device.outbox ≤ 8 → length other.device.outbox ≤ 8
    → length (cond {A = Outcome A} b one other).device.outbox ≤ 8
few_by true one other k l = k
few_by false one other k l = l

heard_few : (t word mark : ℕ) (down : Downlink) (d : DeviceState) → length d.outbox ≤ 8
    → length (heard_delivery t word mark down d).device.outbox ≤ 8
unfolding heard_delivery
heard_few t word mark down d few = few_by _ _ _ (read_few _ d _ few) few

-- a device that rests has at most eight uplinks after a payload
pub delivered_few : (t word mark : ℕ) (down : Downlink) (d : DeviceState) → d.outbox ≡ []
    → length (delivery t word mark down d).device.outbox ≤ 8
unfolding delivery
delivered_few t word mark down d empty =
    let few : length (after_due_reboot t d).outbox ≤ 8 = omega (arith, ap length (reboot_outbox t d), ap length empty) in
    omega (
      arith,
      ap length (reboot_outbox t (heard_delivery t word mark down (after_due_reboot t d)).device),
      heard_few t word mark down (after_due_reboot t d) few,
    )

-- or after bytes that its radio heard
frame_few : (t word mark : ℕ) (o : Result Downlink FrameFault) (d : DeviceState) → d.outbox ≡ []
    → length (after_frame t word mark o d).device.outbox ≤ 8
frame_few t word mark (Ok down) d empty = delivered_few t word mark down d empty
frame_few t word mark (Err fault) d empty = omega (arith, ap length (reboot_outbox t d), ap length empty)

pub aired_few : (t word mark : ℕ) (bytes : List ℕ) (d : DeviceState) → d.outbox ≡ []
    → length (radio t word mark bytes d).device.outbox ≤ 8
unfolding radio
aired_few t word mark bytes d empty = frame_few t word mark (brought d bytes) d empty

asked_few : (t : ℕ) (d : DeviceState) → d.outbox ≡ [] → length (time_asking t d).device.outbox ≤ 8
unfolding time_asking after_answers
asked_few t d empty = rw (empty) (omega arith)

-- and after its waking
pub woken_few : (t : ℕ) (d : DeviceState) → d.outbox ≡ [] → length (waking t d).device.outbox ≤ 8
unfolding waking
woken_few t d empty =
    omega (
      arith,
      ap length (reboot_outbox t (time_asking t (after_due_reboot t d)).device),
      asked_few t (after_due_reboot t d) (reboot_outbox t d ∙ empty),
    )

-- so few as they are, all of them were numbered
pub numbered_few : (held : HeldDevice Cells) (d : DeviceState) (id : ℕ) (old new : List NumberedUplink) → DeviceStands held d → length d.outbox ≤ 8
    → (length held.outbox ≤ 8 → new ≡ numbered_after old id held.outbox) → new ≡ numbered_after old id d.outbox
numbered_few held d id old new stands few numbered =
    rw (outbox_is held d stands) (numbered (subst (λ (us : List Uplink). length us ≤ 8) (outbox_is held d stands) few))
