-- No counter is ever read: devices that differ only in their counters go the same way.
use Rattle.std.proofs.Common.{◌≡◌, ℕ, ◌+◌, Bool, true, false, cond, List, [], ◌∷◌, length, nat_lt, nat_le, slice_set, Option, Some, None, is_none, Result, Ok, Err, refl, sym, ap, subst}
use Rattle.wire_base.specs.declared.refusal.Direction.TheVariants.{Down}
use Rattle.cast_wire.specs.declared.cmd.Cmd.TheVariants as c
use Rattle.sync_wire.specs.declared.cmd.Cmd.TheVariants as s
use Rattle.package_grammar.specs.declared.command.Command.{Command}
use Rattle.package_grammar.specs.declared.command.Command.TheVariants.{Sync, Cast}
use Rattle.package_grammar.specs.declared.downlink.Downlink.{Downlink}
use Rattle.package_grammar.specs.declared.downlink.To.{To}
use Rattle.package_grammar.specs.declared.downlink.To.TheVariants as to
use Rattle.package_grammar.specs.Reading.{Reading, reading_of}
use Rattle.clock_sync.specs.Clock.{device_time}
use Rattle.frag_session.specs.Session.{drop_cause}
use Rattle.device_core.specs.declared.arrival.Arrival.{Arrival}
use Rattle.device_core.specs.declared.class_session.ClassSession.{ClassSession}
use Rattle.device_core.specs.declared.counts.Counts.{Counts}
use Rattle.device_core.specs.declared.delivered.Delivered.{Delivered}
use Rattle.device_core.specs.declared.delivered.Delivered.TheVariants.{Deaf, OutboxFull, Done}
use Rattle.device_core.specs.declared.delivered.OutboxFull as outbox
use Rattle.device_core.specs.SessionTable.{session_at}
use Rattle.device_core.specs.Device.{DeviceState, with_counts, after_deaf, after_full, after_dropped}
use Rattle.device_core.specs.Answers.{DeviceStep, no_answer, one_answer, after_answers}
use Rattle.image_slots.specs.Slots.{after_swap}
use Rattle.mc_frames.specs.declared.fault.FrameFault.{FrameFault}
use Rattle.device_core.specs.Radio.{after_frame, brought, radio}
use Rattle.device_core.specs.Events.{Event, Wakes, Receives, HearsBytes, Migrates, event_step}
use Rattle.mc_group.specs.declared.group.Group.{Group}
use Rattle.mc_group.specs.Groups.{group_of, group_at}
use Rattle.device_core.specs.Clock.{answer_step, periodicity_step, resync_step}
use Rattle.device_core.specs.ClassSessions.{class_session_step, hears, hears_group}
use Rattle.device_core.specs.Groups.{groups_step, group_setup_step, without_group, group_delete_step}
use Rattle.device_core.specs.Firmware.{version_step, upgrade_step, delete_image_step, reboot_time_step, countdown_step, after_due_reboot, after_migration, is_due}
use Rattle.device_core.specs.Fragments.{setup_step, delete_step, status_step, heard_step, fragment_step}
use Rattle.device_core.specs.Step.{command_step, acts, step, after_commands, weights}
use Rattle.pair_run.specs.Counting.{IsAlike, counting, CountersAreUnread}
use Rattle.device_core.specs.Deliver.{Outcome, message_delivery, read_delivery, arrival, heard_delivery, asks_time, time_asking, delivery, waking}

-- what makes no use of them
abbrev pub Unread : (DeviceState → DeviceState) → Type 0
Unread F = (counts : Counts) (d : DeviceState) → IsAlike (F d) (F (counting counts d))

pub alike_on : (F : DeviceState → DeviceState) → Unread F → (d e : DeviceState) → IsAlike d e → IsAlike (F d) (F e)
alike_on F unread d e alike = subst (λ (x : DeviceState). IsAlike (F d) (F x)) alike (unread e.counts d)

pub alike_then : (d e f : DeviceState) → IsAlike d e → IsAlike e f → IsAlike d f
alike_then d e f one more = subst (λ (x : DeviceState). counting f.counts x ≡ f) (sym one) more

-- ---- a command

abbrev StepAlike : (one other : DeviceStep) → Type 0
StepAlike one other = record { device = counting other.device.counts one.device; answers = one.answers } ≡ other

step_by : (b : Bool) (s t u v : DeviceStep) → StepAlike s u → StepAlike t v → StepAlike (cond {A = DeviceStep} b s t) (cond {A = DeviceStep} b u v)
step_by true s t u v one other = one
step_by false s t u v one other = other

heard_unread : (here : Arrival) (counts : Counts) (d : DeviceState) (index n : ℕ) (part : List ℕ)
    → IsAlike (heard_step here d index n part) (heard_step here (counting counts d) index n part)
unfolding heard_step
heard_unread here counts d index n part = refl

dropped_by : (b : Bool) (d e : DeviceState) (counts : Counts) (f g : DeviceState) → IsAlike d e → IsAlike f g
    → StepAlike (no_answer (cond {A = DeviceState} b d f)) (no_answer (cond {A = DeviceState} b e g))
dropped_by true d e counts f g one other = ap (λ (x : DeviceState). no_answer x) one
dropped_by false d e counts f g one other = ap (λ (x : DeviceState). no_answer x) other

group_by : (b : Bool) (here : Arrival) (counts : Counts) (d : DeviceState) (one other : Command) (groups : List (Option Group))
    → StepAlike (cond {A = DeviceStep} b (one_answer here d one) (one_answer here (record d { groups = groups }) other))
    (cond {A = DeviceStep} b (one_answer here (counting counts d) one) (one_answer here (record (counting counts d) { groups = groups }) other))
group_by true here counts d one other groups = refl
group_by false here counts d one other groups = refl

deleted_by : (b : Bool) (here : Arrival) (counts : Counts) (d : DeviceState) (one other : Command) (groups : List (Option Group)) (session : Option ClassSession)
    → StepAlike (cond {A = DeviceStep} b (one_answer here d one) (one_answer here (record d { groups = groups; class_session = session }) other))
    (cond {A = DeviceStep} b (one_answer here (counting counts d) one) (one_answer here (record (counting counts d) { groups = groups; class_session = session }) other))
deleted_by true here counts d one other groups session = refl
deleted_by false here counts d one other groups session = refl

command_unread : (here : Arrival) (counts : Counts) (d : DeviceState) (x : Command)
    → StepAlike (command_step here d x) (command_step here (counting counts d) x)
unfolding command_step answer_step periodicity_step resync_step status_step groups_step group_setup_step
    group_delete_step class_session_step version_step upgrade_step delete_image_step reboot_time_step countdown_step
    setup_step delete_step fragment_step
command_unread here counts d (Cast (c.FragSessionSetupReq index mask nb_frag frag_size algo delay padding descriptor)) = refl
command_unread here counts d (Cast (c.FragSessionDeleteReq index)) = refl
command_unread here counts d (Cast (c.DataFragment index n part)) =
    dropped_by (is_none (drop_cause (session_at d.sessions index) here.via n part))
    (heard_step here d index n part) (heard_step here (counting counts d) index n part) counts
    (with_counts after_dropped d) (with_counts after_dropped (counting counts d)) (heard_unread here counts d index n part) refl
command_unread here counts d (Cast (c.McGroupSetupReq id addr key min max)) =
    group_by (nat_le (length d.groups) id) here counts d (Cast (c.McGroupSetupAns id true)) (Cast (c.McGroupSetupAns id false))
    (slice_set d.groups id (Some (group_of d.config.key d.config.root addr key min max)))
command_unread here counts d (Cast (c.McGroupDeleteReq id)) =
    deleted_by (is_none (group_at d.groups id)) here counts d (Cast (c.McGroupDeleteAns id true)) (Cast (c.McGroupDeleteAns id false))
    (slice_set d.groups id None) (without_group id d.class_session)
command_unread here counts d (Sync s.DevVersionReq) = refl
command_unread here counts d x = refl

answers_alike : (one other : DeviceStep) → StepAlike one other → IsAlike (after_answers one) (after_answers other)
unfolding after_answers
answers_alike one other alike =
    subst (λ (x : DeviceStep). IsAlike (after_answers one) (after_answers x)) alike refl

acted_unread : (here : Arrival) (x : Command) → Unread (λ d. after_answers (step here d x))
unfolding step
acted_unread here x counts d =
    answers_alike (step here d x) (step here (counting counts d) x)
    (step_by (acts here.via x) (command_step here d x) (no_answer d) (command_step here (counting counts d) x) (no_answer (counting counts d)) (command_unread here counts d x) refl)

commands_alike : (here : Arrival) (xs : List Command) (d e : DeviceState) → IsAlike d e
    → IsAlike (after_commands here d xs) (after_commands here e xs)
unfolding after_commands
commands_alike here [] d e alike = alike
commands_alike here (x ∷ xs) d e alike =
    commands_alike here xs _ _ (alike_on (λ (y : DeviceState). after_answers (step here y x)) (acted_unread here x) d e alike)

-- ---- a payload

outcome_by : {A : Type 0} (b : Bool) (o p q r : Outcome A) → IsAlike o.device q.device → IsAlike p.device r.device
    → IsAlike (cond {A = Outcome A} b o p).device (cond {A = Outcome A} b q r).device
outcome_by true o p q r one other = one
outcome_by false o p q r one other = other

read_unread : (here : Arrival) (r : Reading) → Unread (λ d. (read_delivery here d r).device)
unfolding read_delivery message_delivery
read_unread here (Ok xs) counts d =
    let n : ℕ = length d.outbox + weights xs in
    let e : DeviceState = counting counts d in
    outcome_by {A = Delivered} (nat_lt 8 n) (record { device = with_counts after_full d; answer = OutboxFull n })
    (record { device = after_commands here d xs; answer = Done }) (record { device = with_counts after_full e; answer = OutboxFull n })
    (record { device = after_commands here e xs; answer = Done }) refl (commands_alike here xs d e refl)
read_unread here (Err refusal) counts d = refl

group_unread : (counts : Counts) (d : DeviceState) (session : Option ClassSession) (t addr count : ℕ)
    → hears_group (counting counts d) session t addr count ≡ hears_group d session t addr count
group_unread counts d None t addr count = refl
group_unread counts d (Some session) t addr count = refl

hears_unread : (counts : Counts) (d : DeviceState) (t : ℕ) (way : To) → hears (counting counts d) t way ≡ hears d t way
unfolding hears
hears_unread counts d t to.Unicast = refl
hears_unread counts d t (to.Group addr count) = group_unread counts d d.class_session t addr count

heard_by : (t word mark : ℕ) (down : Downlink) (counts : Counts) (d : DeviceState) (a b : Bool) → a ≡ b
    → IsAlike (cond {A = Outcome Delivered} b (read_delivery (arrival t word mark down d) d (reading_of down.port Down down.payload))
    (record { device = with_counts after_deaf d; answer = Deaf })).device
    (cond {A = Outcome Delivered} a (read_delivery (arrival t word mark down d) (counting counts d) (reading_of down.port Down down.payload))
    (record { device = with_counts after_deaf (counting counts d); answer = Deaf })).device
heard_by t word mark down counts d true true is = read_unread (arrival t word mark down d) (reading_of down.port Down down.payload) counts d
heard_by t word mark down counts d false false is = refl
heard_by t word mark down counts d true false is = absurd cc
heard_by t word mark down counts d false true is = absurd cc

heard_unread_all : (t word mark : ℕ) (down : Downlink) → Unread (λ d. (heard_delivery t word mark down d).device)
unfolding heard_delivery
heard_unread_all t word mark down counts d =
    heard_by t word mark down counts d _ _ (hears_unread counts d t down.to)

device_by : (b : Bool) (o p q r : DeviceState) → IsAlike o q → IsAlike p r
    → IsAlike (cond {A = DeviceState} b o p) (cond {A = DeviceState} b q r)
device_by true o p q r one other = one
device_by false o p q r one other = other

reboot_unread : (t : ℕ) → Unread (after_due_reboot t)
unfolding after_due_reboot
reboot_unread t counts d =
    let e : DeviceState = counting counts d in
    device_by (is_due (device_time d.clock t) d.reboot) (record d { reboot = None; slots = after_swap d.slots }) d
    (record e { reboot = None; slots = after_swap e.slots }) e refl refl

-- a payload that comes
pub delivery_unread : (t word mark : ℕ) (down : Downlink) → Unread (λ d. (delivery t word mark down d).device)
unfolding delivery
delivery_unread t word mark down counts d =
    alike_on (after_due_reboot t) (reboot_unread t) _ _
    (alike_on (λ (x : DeviceState). (heard_delivery t word mark down x).device) (heard_unread_all t word mark down) _ _
    (reboot_unread t counts d))

-- ---- a device wakes

asking_unread : (t : ℕ) → Unread (λ d. (time_asking t d).device)
unfolding time_asking after_answers
asking_unread t counts d =
    let e : DeviceState = counting counts d in
    outcome_by {A = Result (Unit {0}) outbox.OutboxFull} (nat_le 8 (length d.outbox)) (record { device = d; answer = Err (record {}) })
    (record { device = after_answers (asks_time t d); answer = Ok tt }) (record { device = e; answer = Err (record {}) })
    (record { device = after_answers (asks_time t e); answer = Ok tt }) refl refl

pub waking_unread : (t : ℕ) → Unread (λ d. (waking t d).device)
unfolding waking
waking_unread t counts d =
    alike_on (after_due_reboot t) (reboot_unread t) _ _
    (alike_on (λ (x : DeviceState). (time_asking t x).device) (asking_unread t) (after_due_reboot t d) (after_due_reboot t (counting counts d)) (reboot_unread t counts d))

-- ---- bytes that the radio heard

frame_unread : (t word mark : ℕ) (down : Result Downlink FrameFault) → Unread (λ d. (after_frame t word mark down d).device)
frame_unread t word mark (Ok down) counts d = delivery_unread t word mark down counts d
frame_unread t word mark (Err fault) counts d =
    alike_on (with_counts after_deaf) (λ more e. refl) (after_due_reboot t d) (after_due_reboot t (counting counts d)) (reboot_unread t counts d)

radio_unread : (t word mark : ℕ) (bytes : List ℕ) → Unread (λ d. (radio t word mark bytes d).device)
unfolding radio brought
radio_unread t word mark bytes counts d = frame_unread t word mark (brought d bytes) counts d

migration_unread : Unread after_migration
unfolding after_migration
migration_unread counts d = refl

event_unread : (event : Event) → Unread (λ d. event_step d event)
event_unread (Wakes time) = waking_unread time
event_unread (Receives time word line down) = delivery_unread time word line down
event_unread (HearsBytes time word line bytes) = radio_unread time word line bytes
event_unread Migrates = migration_unread

pub unread : CountersAreUnread
unread event d e alike = alike_on (λ (x : DeviceState). event_step x event) (event_unread event) d e alike
