-- What holds of the sessions of a device that hears payloads, whoever sent them: each was set up so that there is a file, and
-- hears what the payloads carry. And a device stays configured as it is.
use Rattle.std.proofs.Common.{◌≡◌, ℕ, ◌<◌, ◌≤◌, Bool, true, false, cond, ◌==◌, min, List, [], ◌∷◌, length, Option, None, Some, Result, IfSome, is_none, Ok, Err, refl, sym, ◌∙◌, subst, inl, inr, arith, eqb-true}
use Rattle.std.proofs.lemmas.Bool.{eqb-false}
use Rattle.wire_base.specs.declared.refusal.Direction.{Direction}
use Rattle.wire_base.specs.declared.refusal.Direction.TheVariants.{Down}
use Rattle.wire_base.specs.Numbers.{bits_of}
use Rattle.frag_model.specs.Fragments.{Fragment}
use Rattle.frag_model.specs.Members.{In}
use Rattle.cast_wire.specs.declared.cmd.Cmd.TheVariants.{FragSessionSetupReq, FragSessionDeleteReq, DataFragment, McGroupSetupReq, McGroupDeleteReq}
use Rattle.sync_wire.specs.declared.cmd.Cmd.TheVariants.{DevVersionReq}
use Rattle.package_grammar.specs.declared.command.Command.{Command}
use Rattle.package_grammar.specs.declared.command.Command.TheVariants.{Sync, Cast}
use Rattle.package_grammar.specs.declared.downlink.Downlink.{Downlink}
use Rattle.package_grammar.specs.Grammar.{Spells, SpellsTo, IsMessage, IsReading}
use Rattle.package_grammar.specs.Reading.{Reading, reading_of}
use Rattle.package_grammar.proofs.ReadingLaw.{reads}
use Rattle.frag_session.specs.declared.setups.SetupReq.{SetupReq}
use Rattle.frag_session.specs.declared.setups.Limits.{Limits}
use Rattle.frag_session.specs.Session.{Session, new_session, followed, after_fragment, drop_cause}
use Rattle.frag_session.specs.HeldHistory.{IsSetUp}
use Rattle.mc_frames.specs.declared.fault.FrameFault.{FrameFault}
use Rattle.device_core.specs.declared.arrival.Arrival.{Arrival}
use Rattle.device_core.specs.Configuration.{Configuration}
use Rattle.device_core.specs.declared.delivered.Delivered.{Delivered}
use Rattle.device_core.specs.SessionTable.{SessionTable, session_at, with_session}
use Rattle.device_core.specs.Device.{DeviceState, room_of, limits_of}
use Rattle.device_core.specs.Answers.{DeviceStep, no_answer, after_answers}
use Rattle.device_core.specs.Clock.{answer_step, periodicity_step, resync_step}
use Rattle.device_core.specs.Groups.{groups_step, group_setup_step, group_delete_step}
use Rattle.device_core.specs.ClassSessions.{class_session_step}
use Rattle.device_core.specs.Firmware.{version_step, upgrade_step, delete_image_step, reboot_time_step, countdown_step, after_due_reboot, after_migration}
use Rattle.device_core.specs.Fragments.{setup_of, setup_step, delete_step, status_step, heard_step, fragment_step}
use Rattle.device_core.specs.Step.{command_step, acts, step, after_commands}
use Rattle.device_core.specs.Deliver.{Outcome, message_delivery, read_delivery, arrival, heard_delivery, delivery, waking}
use Rattle.device_core.specs.Radio.{brought, after_frame, radio}
use Rattle.device_core.specs.Events.{CameInTurn, Event, Wakes, Receives, HearsBytes, Migrates, after_event}
use Rattle.device_core.proofs.SessionSteps.{setup_keeps, fragment_keeps}
use Rattle.device_core.proofs.Stays.{waking_stays}

-- ---- a session

pub record IsFine (carries : ℕ → Command → Type 0) (last index : ℕ) (s : Session) : Type 0 where
  pub set : IsSetUp s.setup
  pub came : CameInTurn carries index last s.heard

-- what came up to a line came up to a later one
later : (carries : ℕ → Command → Type 0) (index last more : ℕ) (heard : List Fragment) → last ≤ more
    → CameInTurn carries index last heard → CameInTurn carries index more heard
later carries index last more [] le came = tt
later carries index last more (f ∷ older) le came = (omega (arith, le, came.0), came.1, came.2)

later_fine : (carries : ℕ → Command → Type 0) (index last more : ℕ) (s : Option Session) → last ≤ more
    → IfSome s (IsFine carries last index) → IfSome s (IsFine carries more index)
later_fine carries index last more None le fine = tt
later_fine carries index last more (Some s) le fine =
    record { set = fine.set; came = later carries index last more s.heard le fine.came }

fresh : (carries : ℕ → Command → Type 0) (last index : ℕ) (limits : Limits) (req : SetupReq) → IsSetUp req
    → IsFine carries last index (new_session limits req)
unfolding new_session
fresh carries last index limits req set = record { set = set; came = tt }

follows : (carries : ℕ → Command → Type 0) (last index n : ℕ) (part : List ℕ)
    → carries last (Cast (DataFragment index n part)) → (s : Session) → IsFine carries last index s
    → IsFine carries last index (followed s n part last)
unfolding followed
follows carries last index n part carried s fine = record { set = fine.set; came = (omega arith, carried, fine.came) }

-- ---- four sessions

-- it holds of each, by its index
abbrev pub OfEach : (ℕ → Option Session → Type 0) → SessionTable → Type 0
OfEach P all = P 0 all.first × P 1 all.second × P 2 all.third × P 3 all.fourth

last_place : (index : ℕ) → (index == 0) ≡ false → (index == 1) ≡ false → (index == 2) ≡ false → min index 3 ≡ 3
last_place index zero_not one_not two_not =
    let a = eqb-false index 0 zero_not in
    let b = eqb-false index 1 one_not in
    let c = eqb-false index 2 two_not in
    omega (arith, a, b, c)

pub of_one : (P : ℕ → Option Session → Type 0) (all : SessionTable) (index : ℕ) → OfEach P all
    → P (min index 3) (session_at all index)
of_one P all index h = by_first (index == 0) refl
  where
    by_third : (b : Bool) → (index == 2) ≡ b → (index == 0) ≡ false → (index == 1) ≡ false
        → P (min index 3) (session_at all index)
    by_third true is first second = rw (eqb-true _ _ is) h.2
    by_third false is first second = rw (last_place index first second is, first, second, is) h.3

    by_second : (b : Bool) → (index == 1) ≡ b → (index == 0) ≡ false → P (min index 3) (session_at all index)
    by_second true is first = rw (eqb-true _ _ is) h.1
    by_second false is first = by_third (index == 2) refl first is

    by_first : (b : Bool) → (index == 0) ≡ b → P (min index 3) (session_at all index)
    by_first true is = rw (eqb-true _ _ is) h.0
    by_first false is = by_second (index == 1) refl is

pub with_one : (P : ℕ → Option Session → Type 0) (all : SessionTable) (index : ℕ) (s : Option Session) → OfEach P all
    → P (min index 3) s → OfEach P (with_session all index s)
with_one P all index s h new = by_first (index == 0) refl
  where
    by_third : (b : Bool) → (index == 2) ≡ b → (index == 0) ≡ false → (index == 1) ≡ false
        → OfEach P (with_session all index s)
    by_third true is first second =
        rw (first, second, is) (h.0, h.1, subst (λ i. P (min i 3) s) (eqb-true _ _ is) new, h.3)
    by_third false is first second =
        rw (first, second, is) (h.0, h.1, h.2, subst (λ i. P i s) (last_place index first second is) new)

    by_second : (b : Bool) → (index == 1) ≡ b → (index == 0) ≡ false → OfEach P (with_session all index s)
    by_second true is first = rw (first, is) (h.0, subst (λ i. P (min i 3) s) (eqb-true _ _ is) new, h.2, h.3)
    by_second false is first = by_third (index == 2) refl first is

    by_first : (b : Bool) → (index == 0) ≡ b → OfEach P (with_session all index s)
    by_first true is = rw is (subst (λ i. P (min i 3) s) (eqb-true _ _ is) new, h.1, h.2, h.3)
    by_first false is = by_second (index == 1) refl is

-- ---- a device

abbrev pub AreFine : (ℕ → Command → Type 0) → ℕ → DeviceState → Type 0
AreFine carries last d = OfEach (λ index s. IfSome s (IsFine carries last index)) d.sessions

pub fine_later : (carries : ℕ → Command → Type 0) (last more : ℕ) (d : DeviceState) → last ≤ more → AreFine carries last d
    → AreFine carries more d
fine_later carries last more d le h = (
  later_fine carries 0 last more d.sessions.first le h.0,
  later_fine carries 1 last more d.sessions.second le h.1,
  later_fine carries 2 last more d.sessions.third le h.2,
  later_fine carries 3 last more d.sessions.fourth le h.3,
)

-- an index of two bits
two_bits : (n low index : ℕ) → bits_of n low 2 ≡ index → index < 4
two_bits n low index is = subst (λ i. i < 4) is (omega arith)

small_index : (index n : ℕ) (part : List ℕ) (port : ℕ) (dir : Direction) (bytes : List ℕ) (at next : ℕ)
    → Spells (Cast (DataFragment index n part)) port dir bytes at next → index < 4
small_index index n part port dir bytes at next spells = two_bits _ 14 index spells.lies.parts_lie.0.0

index_in : (cs : List Command) (index n : ℕ) (part : List ℕ) (port : ℕ) (dir : Direction) (bytes : List ℕ) (at end : ℕ)
    → SpellsTo cs port dir bytes at end → In (Cast (DataFragment index n part)) cs → index < 4
index_in [] index n part port dir bytes at end all among = absurd among
index_in (c ∷ cs) index n part port dir bytes at end all (inl is) =
    small_index index n part port dir bytes at all.0
    (subst (λ (x : Command). Spells x port dir bytes at all.0) (sym is) all.1)
index_in (c ∷ cs) index n part port dir bytes at end all (inr among) =
    index_in cs index n part port dir bytes all.0 end all.2 among

device_by : (carries : ℕ → Command → Type 0) (last : ℕ) (b : Bool) (one other : DeviceState) → AreFine carries last one
    → AreFine carries last other → AreFine carries last (cond b one other)
device_by carries last true one other h k = h
device_by carries last false one other h k = k

-- a payload arrives with this mark
abbrev marked : Arrival → ℕ → Arrival
marked here last = record here { moment = record here.moment { mark = last } }

data_fine : (carries : ℕ → Command → Type 0) (last : ℕ) (here : Arrival) (d : DeviceState) (index n : ℕ) (part : List ℕ) → index < 4
    → carries last (Cast (DataFragment index n part)) → AreFine carries last d
    → AreFine carries last (fragment_step (marked here last) d index n part).device
unfolding fragment_step heard_step
data_fine carries last here d index n part small carried h =
    let place : min index 3 ≡ index = omega (arith, small) in
    let heard = fragment_keeps (IsFine carries last index) (session_at d.sessions index) here.via n part last
    (follows carries last index n part carried)
    (subst (λ i. IfSome (session_at d.sessions index) (IsFine carries last i)) place
    (of_one (λ i s. IfSome s (IsFine carries last i)) d.sessions index h)) in
    device_by carries last (is_none (drop_cause (session_at d.sessions index) here.via n part)) _ _
    (with_one (λ i s. IfSome s (IsFine carries last i)) d.sessions index _ h
    (subst (λ i. IfSome (after_fragment (session_at d.sessions index) here.via n part last) (IsFine carries last i))
    (sym place) heard)) h

set_up_fine : (carries : ℕ → Command → Type 0) (last : ℕ) (here : Arrival) (d : DeviceState) (req : SetupReq) → AreFine carries last d
    → AreFine carries last (setup_step (marked here last) d req).device
unfolding setup_step
set_up_fine carries last here d req h =
    with_one (λ i s. IfSome s (IsFine carries last i)) d.sessions req.index _ h
    (setup_keeps (IsFine carries last (min req.index 3)) (limits_of d.config) (room_of d.config)
    (session_at d.sessions req.index) req (fresh carries last (min req.index 3) (limits_of d.config) req)
    (of_one (λ i s. IfSome s (IsFine carries last i)) d.sessions req.index h))

deleted_fine : (carries : ℕ → Command → Type 0) (last : ℕ) (here : Arrival) (d : DeviceState) (index : ℕ) → AreFine carries last d
    → AreFine carries last (delete_step (marked here last) d index).device
unfolding delete_step
deleted_fine carries last here d index h = with_one (λ i s. IfSome s (IsFine carries last i)) d.sessions index None h tt

-- a step that leaves the sessions, either way
either_fine : (carries : ℕ → Command → Type 0) (last : ℕ) (b : Bool) (one other : DeviceStep) → AreFine carries last one.device
    → AreFine carries last other.device → AreFine carries last (cond b one other).device
either_fine carries last true one other h k = h
either_fine carries last false one other h k = k

-- what each command of a line may be
pub record MayAct (carries : ℕ → Command → Type 0) (last : ℕ) (c : Command) : Type 0 where
  pub carried : carries last c
  pub small : (index n : ℕ) (part : List ℕ) → c ≡ Cast (DataFragment index n part) → index < 4

command_fine : (carries : ℕ → Command → Type 0) (last : ℕ) (here : Arrival) (d : DeviceState) (c : Command) → MayAct carries last c
    → AreFine carries last d → AreFine carries last (command_step (marked here last) d c).device
unfolding command_step answer_step periodicity_step resync_step status_step groups_step group_setup_step
    group_delete_step class_session_step version_step upgrade_step delete_image_step reboot_time_step countdown_step
command_fine carries last here d (Cast (FragSessionSetupReq index mask nb_frag frag_size algo delay padding descriptor))
    may h =
    set_up_fine carries last here d (setup_of index mask nb_frag frag_size algo delay padding descriptor) h
command_fine carries last here d (Cast (FragSessionDeleteReq index)) may h = deleted_fine carries last here d index h
command_fine carries last here d (Cast (DataFragment index n part)) may h =
    data_fine carries last here d index n part (may.small index n part refl) may.carried h
command_fine carries last here d (Cast (McGroupSetupReq id addr key min max)) may h = either_fine carries last _ _ _ h h
command_fine carries last here d (Cast (McGroupDeleteReq id)) may h = either_fine carries last _ _ _ h h
command_fine carries last here d (Sync DevVersionReq) may h = h
command_fine carries last here d c may h = h

step_by : (carries : ℕ → Command → Type 0) (last : ℕ) (b : Bool) (one other : DeviceStep) → AreFine carries last one.device
    → AreFine carries last other.device → AreFine carries last (after_answers (cond b one other))
unfolding after_answers
step_by carries last true one other h k = h
step_by carries last false one other h k = k

step_fine : (carries : ℕ → Command → Type 0) (last : ℕ) (here : Arrival) (d : DeviceState) (c : Command) → MayAct carries last c
    → AreFine carries last d → AreFine carries last (after_answers (step (marked here last) d c))
unfolding step
step_fine carries last here d c may h =
    step_by carries last (acts here.via c) (command_step (marked here last) d c) (no_answer d)
    (command_fine carries last here d c may h) h

commands_fine : (carries : ℕ → Command → Type 0) (last : ℕ) (here : Arrival) (d : DeviceState) (cs : List Command)
    → ((c : Command) → In c cs → MayAct carries last c) → AreFine carries last d
    → AreFine carries last (after_commands (marked here last) d cs)
unfolding after_commands
commands_fine carries last here d [] may h = h
commands_fine carries last here d (c ∷ cs) may h =
    commands_fine carries last here (after_answers (step (marked here last) d c)) cs (λ x i. may x (inr i))
    (step_fine carries last here d c (may c (inl refl)) h)

-- ---- a payload

outcome_by : (carries : ℕ → Command → Type 0) (last : ℕ) (b : Bool) (one other : Outcome Delivered)
    → AreFine carries last one.device → AreFine carries last other.device → AreFine carries last (cond b one other).device
outcome_by carries last true one other h k = h
outcome_by carries last false one other h k = k

-- the commands of a payload are carried
abbrev pub AreCarried : (ℕ → Command → Type 0) → ℕ → Downlink → Type 0
AreCarried carries last down = (cs : List Command) → IsMessage cs down.port Down down.payload → (c : Command) → In c cs → carries last c

may_act : (carries : ℕ → Command → Type 0) (last : ℕ) (down : Downlink) (cs : List Command) → AreCarried carries last down
    → IsMessage cs down.port Down down.payload → (c : Command) → In c cs → MayAct carries last c
may_act carries last down cs its message c among = record {
  carried = its cs message c among;
  small = λ index n part is. index_in cs index n part down.port Down down.payload 0 (length down.payload) message.all
      (subst (λ (x : Command). In x cs) is among);
}

read_fine : (carries : ℕ → Command → Type 0) (last : ℕ) (here : Arrival) (down : Downlink) (d : DeviceState) (r : Reading)
    → AreCarried carries last down → IsReading down.port Down down.payload r → AreFine carries last d
    → AreFine carries last (read_delivery (marked here last) d r).device
unfolding read_delivery message_delivery
read_fine carries last here down d (Ok cs) its message h =
    outcome_by carries last _ _ _ h (commands_fine carries last here d cs (may_act carries last down cs its message) h)
read_fine carries last here down d (Err refusal) its stop h = h

heard_fine : (carries : ℕ → Command → Type 0) (last t word : ℕ) (down : Downlink) (d : DeviceState) → AreCarried carries last down
    → AreFine carries last d → AreFine carries last (heard_delivery t word last down d).device
unfolding heard_delivery
heard_fine carries last t word down d its h =
    outcome_by carries last _ _ _
    (read_fine carries last (arrival t word last down d)
    down d (reading_of down.port Down down.payload) its (reads down.port Down down.payload) h) h

reboot_fine : (carries : ℕ → Command → Type 0) (last t : ℕ) (d : DeviceState) → AreFine carries last d
    → AreFine carries last (after_due_reboot t d)
unfolding after_due_reboot
reboot_fine carries last t d h = device_by carries last _ _ d h h

-- a payload reaches the device, which hears it or not
delivery_fine : (carries : ℕ → Command → Type 0) (last more t word : ℕ) (down : Downlink) (d : DeviceState) → last ≤ more
    → AreCarried carries more down → AreFine carries last d → AreFine carries more (delivery t word more down d).device
unfolding delivery
delivery_fine carries last more t word down d le its h =
    reboot_fine carries more t (heard_delivery t word more down (after_due_reboot t d)).device
    (heard_fine carries more t word down (after_due_reboot t d) its
    (reboot_fine carries more t d (fine_later carries last more d le h)))

-- the device wakes
waking_fine : (carries : ℕ → Command → Type 0) (last t : ℕ) (d : DeviceState) → AreFine carries last d
    → AreFine carries last (record (waking t d).device { outbox = [] })
waking_fine carries last t d h =
    subst (OfEach (λ index s. IfSome s (IsFine carries last index))) (sym (waking_stays t d).sessions) (h.0, h.1, h.2, h.3)

-- it knows both image formats from now on
migration_fine : (carries : ℕ → Command → Type 0) (last : ℕ) (d : DeviceState) → AreFine carries last d
    → AreFine carries last (record (after_migration d) { outbox = [] })
unfolding after_migration
migration_fine carries last d h = (h.0, h.1, h.2, h.3)

-- bytes reach its radio: they bring a payload, or are counted
frame_fine : (carries : ℕ → Command → Type 0) (last more t word : ℕ) (o : Result Downlink FrameFault) (d : DeviceState) → last ≤ more
    → ((down : Downlink) → o ≡ Ok down → AreCarried carries more down) → AreFine carries last d
    → AreFine carries more (after_frame t word more o d).device
frame_fine carries last more t word (Ok down) d le its h = delivery_fine carries last more t word down d le (its down refl) h
frame_fine carries last more t word (Err fault) d le its h = reboot_fine carries more t d (fine_later carries last more d le h)

radio_fine : (carries : ℕ → Command → Type 0) (last more t word : ℕ) (bytes : List ℕ) (d : DeviceState) → last ≤ more
    → ((down : Downlink) → brought d bytes ≡ Ok down → AreCarried carries more down) → AreFine carries last d
    → AreFine carries more (radio t word more bytes d).device
unfolding radio
radio_fine carries last more t word bytes d le its h = frame_fine carries last more t word (brought d bytes) d le its h

-- what a payload carries comes with the line whose number is its mark; so does what is opened of bytes, with the keys that
-- the device has then
abbrev pub ComesAt : (carries : ℕ → Command → Type 0) → (line : ℕ) → DeviceState → Event → Type 0
ComesAt carries line device (Receives t word mark down) = (mark ≡ line) × AreCarried carries line down
ComesAt carries line device (HearsBytes t word mark bytes) =
    (mark ≡ line) × ((down : Downlink) → brought device bytes ≡ Ok down → AreCarried carries line down)
ComesAt carries line device event = Unit {0}

-- and it still holds after any event at a later line
pub event_fine : (carries : ℕ → Command → Type 0) (last line : ℕ) (d : DeviceState) (e : Event) → last ≤ line
    → ComesAt carries line d e → AreFine carries last d → AreFine carries line (after_event d e)
event_fine carries last line d (Wakes t) le comes h =
    fine_later carries last line (after_event d (Wakes t)) le (waking_fine carries last t d h)
event_fine carries last line d Migrates le comes h =
    fine_later carries last line (after_event d Migrates) le (migration_fine carries last d h)
event_fine carries last line d (Receives t word mark down) le comes h =
    subst (λ (m : ℕ). AreFine carries line (after_event d (Receives t word m down))) (sym comes.0)
    (delivery_fine carries last line t word down d le comes.1 h)
event_fine carries last line d (HearsBytes t word mark bytes) le comes h =
    subst (λ (m : ℕ). AreFine carries line (after_event d (HearsBytes t word m bytes))) (sym comes.0)
    (radio_fine carries last line t word bytes d le comes.1 h)

-- ---- the configuration stays

config_by : (config : Configuration) (b : Bool) (one other : DeviceState) → one.config ≡ config → other.config ≡ config
    → (cond b one other).config ≡ config
config_by config true one other is same = is
config_by config false one other is same = same

step_config : (config : Configuration) (b : Bool) (one other : DeviceStep) → one.device.config ≡ config
    → other.device.config ≡ config → (cond b one other).device.config ≡ config
step_config config true one other is same = is
step_config config false one other is same = same

command_config : (here : Arrival) (d : DeviceState) (c : Command) → (command_step here d c).device.config ≡ d.config
unfolding command_step answer_step periodicity_step resync_step status_step groups_step group_setup_step
    group_delete_step class_session_step version_step upgrade_step delete_image_step reboot_time_step countdown_step
    setup_step delete_step fragment_step heard_step
command_config here d (Cast (FragSessionSetupReq index mask nb_frag frag_size algo delay padding descriptor)) = refl
command_config here d (Cast (FragSessionDeleteReq index)) = refl
command_config here d (Cast (DataFragment index n part)) = config_by d.config _ _ _ refl refl
command_config here d (Cast (McGroupSetupReq id addr key min max)) = step_config d.config _ _ _ refl refl
command_config here d (Cast (McGroupDeleteReq id)) = step_config d.config _ _ _ refl refl
command_config here d (Sync DevVersionReq) = refl
command_config here d c = refl

answers_config : (made : DeviceStep) → (after_answers made).config ≡ made.device.config
unfolding after_answers
answers_config made = refl

commands_config : (here : Arrival) (d : DeviceState) (cs : List Command) → (after_commands here d cs).config ≡ d.config
unfolding after_commands step
commands_config here d [] = refl
commands_config here d (c ∷ cs) =
    commands_config here (after_answers (step here d c)) cs ∙ answers_config (step here d c)
    ∙ step_config d.config (acts here.via c) (command_step here d c) (no_answer d) (command_config here d c) refl

outcome_config : (config : Configuration) (b : Bool) (one other : Outcome Delivered) → one.device.config ≡ config
    → other.device.config ≡ config → (cond b one other).device.config ≡ config
outcome_config config true one other is same = is
outcome_config config false one other is same = same

read_config : (here : Arrival) (d : DeviceState) (r : Reading) → (read_delivery here d r).device.config ≡ d.config
unfolding read_delivery message_delivery
read_config here d (Ok cs) = outcome_config d.config _ _ _ refl (commands_config here d cs)
read_config here d (Err refusal) = refl

heard_config : (t word mark : ℕ) (down : Downlink) (d : DeviceState) → (heard_delivery t word mark down d).device.config ≡ d.config
unfolding heard_delivery
heard_config t word mark down d = outcome_config d.config _ _ _ (read_config _ d _) refl

reboot_config : (t : ℕ) (d : DeviceState) → (after_due_reboot t d).config ≡ d.config
unfolding after_due_reboot
reboot_config t d = config_by d.config _ _ _ refl refl

delivery_config : (t word mark : ℕ) (down : Downlink) (d : DeviceState) → (delivery t word mark down d).device.config ≡ d.config
unfolding delivery
delivery_config t word mark down d =
    reboot_config t (heard_delivery t word mark down (after_due_reboot t d)).device
    ∙ heard_config t word mark down (after_due_reboot t d) ∙ reboot_config t d

migration_config : (d : DeviceState) → (after_migration d).config ≡ d.config
unfolding after_migration
migration_config d = refl

frame_config : (t word mark : ℕ) (o : Result Downlink FrameFault) (d : DeviceState) → (after_frame t word mark o d).device.config ≡ d.config
frame_config t word mark (Ok down) d = delivery_config t word mark down d
frame_config t word mark (Err fault) d = reboot_config t d

radio_config : (t word mark : ℕ) (bytes : List ℕ) (d : DeviceState) → (radio t word mark bytes d).device.config ≡ d.config
unfolding radio
radio_config t word mark bytes d = frame_config t word mark (brought d bytes) d

pub event_config : (d : DeviceState) (e : Event) → (after_event d e).config ≡ d.config
event_config d (Wakes time) = (waking_stays time d).config
event_config d Migrates = migration_config d
event_config d (Receives time word line down) = delivery_config time word line down d
event_config d (HearsBytes time word line bytes) = radio_config time word line bytes d
