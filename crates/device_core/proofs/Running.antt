-- A device runs nothing or an image for its hardware: what next says is kept true, and only a valid next comes to run.
use Rattle.std.proofs.Common.{◌≡◌, inl, ℕ, Bool, true, false, cond, List, [], ◌∷◌, Option, Some, None, Result, Ok, Err, refl, sym, ◌∙◌, subst}
use Rattle.frag_session.specs.Session.{view_of}
use Rattle.image_slots.specs.Slots.{Slots, AreSound}
use Rattle.image_slots.proofs.Sound.{offered, swapped, deleted, raised}
use Rattle.sync_wire.specs.declared.cmd.Cmd.{Cmd as SyncCmd}
use Rattle.sync_wire.specs.declared.cmd.Cmd.TheVariants as s
use Rattle.cast_wire.specs.declared.cmd.Cmd.{Cmd as CastCmd}
use Rattle.cast_wire.specs.declared.cmd.Cmd.TheVariants as c
use Rattle.wire_base.specs.declared.refusal.Direction.TheVariants.{Down}
use Rattle.package_grammar.specs.declared.command.Command.{Command}
use Rattle.package_grammar.specs.declared.command.Command.TheVariants.{Sync, Cast}
use Rattle.package_grammar.specs.declared.downlink.Downlink.{Downlink}
use Rattle.package_grammar.specs.Reading.{Reading, reading_of}
use Rattle.mc_frames.specs.declared.fault.FrameFault.{FrameFault}
use Rattle.device_core.specs.declared.arrival.Arrival.{Arrival}
use Rattle.device_core.specs.Configuration.{Configuration}
use Rattle.device_core.specs.declared.delivered.Delivered.{Delivered}
use Rattle.device_core.specs.declared.delivered.OutboxFull as outbox
use Rattle.device_core.specs.declared.uplink.Uplink.{Uplink}
use Rattle.device_core.specs.Device.{DeviceState, first_device}
use Rattle.device_core.specs.Answers.{DeviceStep, after_answers}
use Rattle.device_core.specs.Clock.{answer_step, periodicity_step, resync_step}
use Rattle.device_core.specs.Fragments.{setup_step, delete_step, status_step, whole_file, slots_after, heard_step, fragment_step}
use Rattle.device_core.specs.Groups.{groups_step, group_setup_step, group_delete_step}
use Rattle.device_core.specs.ClassSessions.{class_session_step}
use Rattle.device_core.specs.Firmware.{version_step, upgrade_step, delete_image_step, reboot_time_step, countdown_step, after_due_reboot, after_migration}
use Rattle.device_core.specs.Step.{acts, command_step, step, after_commands}
use Rattle.device_core.specs.Deliver.{Outcome, arrival, message_delivery, read_delivery, heard_delivery, delivery, time_asking, waking, with_due_reboot, taking}
use Rattle.device_core.specs.Radio.{brought, after_frame, radio}
use Rattle.device_core.specs.Events.{Event, after_event, Wakes, Receives, HearsBytes, Migrates}
use Rattle.session_store.specs.declared.state.CompleteFlags.{CompleteFlags}
use Rattle.device_core.specs.Power.{after_power}
use Rattle.device_core.specs.SessionTable.{SessionTable}
use Rattle.device_core.specs.Running.{Call, Delivers, Airs, Wakes as Awakes, Takes, Raises, Powers, after_call, after_calls, after_events, RunsImagesAlone}

-- ---- a device

abbrev IsZero : ℕ → Type 0
IsZero version = version ≡ 0

-- its configuration stays, and its slots stay sound
record Keeps (d e : DeviceState) : Type 0 where
  config : e.config ≡ d.config
  slots : AreSound IsZero d.config.hw d.slots → AreSound IsZero d.config.hw e.slots

same : (d e : DeviceState) → e.config ≡ d.config → e.slots ≡ d.slots → Keeps d e
same d e config slots = record {
  config = config;
  slots = λ k. subst (AreSound IsZero d.config.hw) (sym slots) k;
}

keeps_on : (d e f : DeviceState) → Keeps d e → Keeps e f → Keeps d f
keeps_on d e f one more = record {
  config = more.config ∙ one.config;
  slots = λ k. subst (λ (x : Configuration). AreSound IsZero x.hw f.slots) one.config
      (more.slots (subst (λ (x : Configuration). AreSound IsZero x.hw e.slots) (sym one.config) (one.slots k)));
}

device_by : (d e f : DeviceState) (b : Bool) → Keeps d e → Keeps d f → Keeps d (cond b e f)
device_by d e f true k l = k
device_by d e f false k l = l

step_by : (d : DeviceState) (b : Bool) (one other : DeviceStep) → Keeps d one.device → Keeps d other.device
    → Keeps d (cond {A = DeviceStep} b one other).device
step_by d true one other k l = k
step_by d false one other k l = l

outcome_by : {A : Type 0} (d : DeviceState) (b : Bool) (one other : Outcome A) → Keeps d one.device → Keeps d other.device
    → Keeps d (cond {A = Outcome A} b one other).device
outcome_by d true one other k l = k
outcome_by d false one other k l = l

-- ---- commands

sync_keeps : (at : Arrival) (d : DeviceState) (cmd : SyncCmd) → Keeps d (command_step at d (Sync cmd)).device
unfolding command_step answer_step periodicity_step resync_step version_step upgrade_step delete_image_step
    reboot_time_step countdown_step
sync_keeps at d s.PackageVersionReq = same d _ refl refl
sync_keeps at d (s.DevDeleteImageReq version) = record {
  config = refl;
  slots = λ k. deleted IsZero d.config.hw version d.slots k;
}
sync_keeps at d cmd = same d _ refl refl

offers_keep : (hw : ℕ) (b : Bool) (file : Option (List ℕ)) (slots : Slots) → AreSound IsZero hw slots
    → AreSound IsZero hw (slots_after hw b file slots)
offers_keep hw false (Some file) slots k = offered IsZero hw file slots k
offers_keep hw false None slots k = k
offers_keep hw true file slots k = k

fragment_keeps : (at : Arrival) (d : DeviceState) (index n : ℕ) (part : List ℕ)
    → Keeps d (fragment_step at d index n part).device
unfolding fragment_step heard_step
fragment_keeps at d index n part = device_by d _ _ _
    (record { config = refl; slots = λ k. offers_keep d.config.hw _ _ d.slots k })
    (same d _ refl refl)

cast_keeps : (at : Arrival) (d : DeviceState) (cmd : CastCmd) → Keeps d (command_step at d (Cast cmd)).device
unfolding command_step setup_step delete_step status_step groups_step group_setup_step group_delete_step class_session_step
cast_keeps at d c.PackageVersionReq = same d _ refl refl
cast_keeps at d (c.DataFragment index n part) = fragment_keeps at d index n part
cast_keeps at d (c.McGroupSetupReq id addr key min max) =
    step_by d _ _ _ (same d _ refl refl) (same d _ refl refl)
cast_keeps at d (c.McGroupDeleteReq id) = step_by d _ _ _ (same d _ refl refl) (same d _ refl refl)
cast_keeps at d cmd = same d _ refl refl

command_keeps : (at : Arrival) (d : DeviceState) (x : Command) → Keeps d (command_step at d x).device
command_keeps at d (Sync cmd) = sync_keeps at d cmd
command_keeps at d (Cast cmd) = cast_keeps at d cmd

acted_keeps : (at : Arrival) (d : DeviceState) (x : Command) → Keeps d (after_answers (step at d x))
unfolding after_answers step
acted_keeps at d x =
    let k = step_by d (acts at.via x) (command_step at d x) (record { device = d; answers = [] }) (command_keeps at d x)
    (same d d refl refl) in
    record { config = k.config; slots = k.slots }

commands_keep : (at : Arrival) (cs : List Command) (d : DeviceState) → Keeps d (after_commands at d cs)
unfolding after_commands
commands_keep at [] d = same d d refl refl
commands_keep at (x ∷ cs) d =
    keeps_on d _ _ (acted_keeps at d x) (commands_keep at cs (after_answers (step at d x)))

-- ---- calls

reboot_keeps : (t : ℕ) (d : DeviceState) → Keeps d (after_due_reboot t d)
unfolding after_due_reboot
reboot_keeps t d = device_by d _ _ _
    (record { config = refl; slots = λ k. swapped IsZero d.config.hw d.slots k })
    (same d d refl refl)

message_keeps : (at : Arrival) (d : DeviceState) (cs : List Command) → Keeps d (message_delivery at d cs).device
unfolding message_delivery
message_keeps at d cs = outcome_by {A = Delivered} d _ _ _ (same d _ refl refl) (commands_keep at cs d)

read_keeps : (at : Arrival) (d : DeviceState) (r : Reading) → Keeps d (read_delivery at d r).device
unfolding read_delivery
read_keeps at d (Ok cs) = message_keeps at d cs
read_keeps at d (Err refusal) = same d _ refl refl

heard_keeps : (t word mark : ℕ) (down : Downlink) (d : DeviceState) → Keeps d (heard_delivery t word mark down d).device
unfolding heard_delivery
heard_keeps t word mark down d = outcome_by {A = Delivered} d _ _ _
    (read_keeps (arrival t word mark down d) d (reading_of down.port Down down.payload))
    (same d _ refl refl)

between : {A : Type 0} (t : ℕ) (d : DeviceState) (o : Outcome A) → Keeps (after_due_reboot t d) o.device
    → Keeps d (with_due_reboot t o).device
between t d o k = keeps_on d _ _ (keeps_on d _ _ (reboot_keeps t d) k) (reboot_keeps t o.device)

delivery_keeps : (t word mark : ℕ) (down : Downlink) (d : DeviceState) → Keeps d (delivery t word mark down d).device
unfolding delivery
delivery_keeps t word mark down d =
    let start = after_due_reboot t d in
    between t d (heard_delivery t word mark down start) (heard_keeps t word mark down start)

frame_keeps : (t word mark : ℕ) (down : Result Downlink FrameFault) (d : DeviceState)
    → Keeps d (after_frame t word mark down d).device
frame_keeps t word mark (Ok down) d = delivery_keeps t word mark down d
frame_keeps t word mark (Err fault) d = keeps_on d _ _ (reboot_keeps t d) (same (after_due_reboot t d) _ refl refl)

radio_keeps : (t word mark : ℕ) (bytes : List ℕ) (d : DeviceState) → Keeps d (radio t word mark bytes d).device
unfolding radio
radio_keeps t word mark bytes d = frame_keeps t word mark (brought d bytes) d

asking_keeps : (t : ℕ) (d : DeviceState) → Keeps d (time_asking t d).device
unfolding time_asking after_answers
asking_keeps t d =
    outcome_by {A = Result (Unit {0}) outbox.OutboxFull} d _ _ _ (same d _ refl refl) (same d _ refl refl)

waking_keeps : (t : ℕ) (d : DeviceState) → Keeps d (waking t d).device
unfolding waking
waking_keeps t d =
    let start = after_due_reboot t d in
    between t d (time_asking t start) (asking_keeps t start)

take_by : (d : DeviceState) (held : List Uplink) → Keeps d (taking (record d { outbox = held })).device
take_by d [] = same d _ refl refl
take_by d (oldest ∷ others) = same d _ refl refl

migration_keeps : (d : DeviceState) → Keeps d (after_migration d)
unfolding after_migration
migration_keeps d = record { config = refl; slots = λ k. raised IsZero d.config.hw d.slots k }

power_keeps : (whole : CompleteFlags) (table : SessionTable) (d : DeviceState) → Keeps d (after_power whole table d)
unfolding after_power
power_keeps whole table d = record {
  config = refl;
  slots = λ k.
      let hw : ℕ = d.config.hw in
      let first = whole_file (view_of table.first) in
      let second = whole_file (view_of table.second) in
      let third = whole_file (view_of table.third) in
      let one = slots_after hw whole.first first d.slots in
      let two = slots_after hw whole.second second one in
      let three = slots_after hw whole.third third two in
      offers_keep hw whole.fourth (whole_file (view_of table.fourth)) three
      (offers_keep hw whole.third third two
      (offers_keep hw whole.second second one (offers_keep hw whole.first first d.slots k)));
}

call_keeps : (d : DeviceState) (call : Call) → Keeps d (after_call d call)
call_keeps d (Delivers t word mark down) = delivery_keeps t word mark down d
call_keeps d (Airs t word mark bytes) = radio_keeps t word mark bytes d
call_keeps d (Awakes t) = waking_keeps t d
call_keeps d Takes = take_by d d.outbox
call_keeps d Raises = migration_keeps d
call_keeps d (Powers whole table) = power_keeps whole table d

calls_keep : (d : DeviceState) (calls : List Call) → Keeps d (after_calls d calls)
calls_keep d [] = same d d refl refl
calls_keep d (call ∷ calls) = keeps_on d _ _ (call_keeps d call) (calls_keep (after_call d call) calls)

-- ---- events

emptied : (d e : DeviceState) → Keeps d e → Keeps d (record e { outbox = [] })
emptied d e k = record { config = k.config; slots = k.slots }

event_keeps : (d : DeviceState) (event : Event) → Keeps d (after_event d event)
event_keeps d Migrates = emptied d _ (migration_keeps d)
event_keeps d (Wakes time) = emptied d _ (waking_keeps time d)
event_keeps d (Receives time word line down) = emptied d _ (delivery_keeps time word line down d)
event_keeps d (HearsBytes time word line bytes) = emptied d _ (radio_keeps time word line bytes d)

events_keep : (d : DeviceState) (events : List Event) → Keeps d (after_events d events)
events_keep d [] = same d d refl refl
events_keep d (event ∷ events) = keeps_on d _ _ (event_keeps d event) (events_keep (after_event d event) events)

-- ---- from the start

first_sound : (config : Configuration) → AreSound IsZero config.hw (first_device config).slots
first_sound config = record { runs = inl (refl, refl); read = inl (refl, refl) }

pub runs_images : RunsImagesAlone
runs_images = record {
  calls = λ config calls. ((calls_keep (first_device config) calls).slots (first_sound config)).runs;
  events = λ config events. ((events_keep (first_device config) events).slots (first_sound config)).runs;
}
