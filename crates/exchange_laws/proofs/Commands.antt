-- What each command of the server makes of a device that suits, and that it answers truly.
use Rattle.std.proofs.Common.{◌≡◌, inl, inr, ⊎_elim, ℕ, zero, suc, ◌+◌, ◌-◌, ◌^◌, ◌<◌, ◌≤◌, min, nat_le, Bool, true, false, cond, List, [], ◌∷◌, map, length, All, Option, None, Some, IfSome, is_some, is_none, Ok, refl, sym, ap, ◌∙◌, subst, arith}
use Rattle.std.proofs.lemmas.Bool.{lt-leb}
use Rattle.std.specs.List.{AllByRecursion, slice_set}
use Rattle.wire_base.specs.declared.refusal.Direction.TheVariants.{Up}
use Rattle.wire_base.specs.Rows.{IsListed}
use Rattle.wire_base.specs.Numbers.{flag_value}
use Rattle.frag_encoder.specs.Encoding.{data_of}
use Rattle.frag_session.specs.declared.answers.StatusAns.{StatusAns}
use Rattle.frag_session.specs.declared.answers.Verdict.{Verdict as Shown}
use Rattle.frag_session.specs.declared.answers.Verdict.TheVariants as shown
use Rattle.frag_session.specs.Session.{Session, seen_of, view_of, status_by, status_in, status_of, answers, is_overflow, after_fragment, drop_cause}
use Rattle.image_slots.specs.declared.view.ImageState.{ImageState}
use Rattle.image_slots.specs.declared.view.ImageState.TheVariants as state
use Rattle.image_slots.specs.Image.{is_image, firmware_of}
use Rattle.image_slots.specs.Slots.{Slots}
use Rattle.class_windows.specs.Sessions.{error_bits, time_to_start}
use Rattle.clock_sync.specs.Clock.{device_time}
use Rattle.mc_group.specs.declared.group.Group.{Group}
use Rattle.mc_group.specs.Groups.{group_at}
use Rattle.cast_wire.specs.declared.cmd.Cmd.TheVariants as c
use Rattle.sync_wire.specs.declared.cmd.Cmd.TheVariants as s
use Rattle.package_grammar.specs.declared.command.Command.{Command}
use Rattle.package_grammar.specs.declared.command.Command.TheVariants.{Sync, Cast}
use Rattle.package_grammar.specs.Grammar.{row, canonical, IsValid}
use Rattle.device_core.specs.declared.arrival.Arrival.{Arrival}
use Rattle.device_core.specs.declared.class_session.Kind.TheVariants.{ClassB}
use Rattle.device_core.specs.Answers.{DeviceStep, uplink_of, no_answer, after_answers}
use Rattle.device_core.specs.ClassSessions.{start_of, class_session_step}
use Rattle.device_core.specs.Device.{DeviceState, limits_of, room_of, with_counts, after_dropped}
use Rattle.device_core.specs.Firmware.{version_step, upgrade_answer, upgrade_step}
use Rattle.device_core.specs.Fragments.{answer_delay, status_answers, setup_step, status_step, heard_step, fragment_step, is_whole, whole_file}
use Rattle.device_core.specs.Groups.{group_setup_step}
use Rattle.device_core.specs.SessionTable.{SessionTable, session_at, table_after_fragment}
use Rattle.device_core.specs.Step.{command_step, acts, step}
use Rattle.campaign_server.specs.declared.plan.Kind.{Kind}
use Rattle.campaign_server.specs.declared.plan.Kind.TheVariants as kind
use Rattle.campaign_server.specs.declared.plan.PlanDevice.{PlanDevice}
use Rattle.campaign_server.specs.declared.plan.PlanGroup.{PlanGroup}
use Rattle.campaign_server.specs.declared.plan.PlanWindow.{PlanWindow}
use Rattle.campaign_server.specs.Asking.{group_request, fragments_request, window_request_of, window_request}
use Rattle.campaign_server.specs.Plan.{Plan, own_id}
use Rattle.campaign_laws.specs.Ledger.{IsRunning}
use Rattle.campaign_laws.proofs.HeadlineCommands.{Cut, cut_of, setup_req, IsNumber}
use Rattle.campaign_laws.proofs.HeadlineEnds.{IsSetFor, fragment_set}
use Rattle.campaign_laws.proofs.LedgerDevices.{IsSound}
use Rattle.campaign_laws.proofs.LedgerSlots.{HasSlots, whole_is}
use Rattle.campaign_laws.proofs.OwnSession.{at_own}
use Rattle.campaign_laws.proofs.Sessions.{something_missing, no_conflict}
use Rattle.exchange_laws.proofs.Backing.{Facts, IsTrue}
use Rattle.exchange_laws.proofs.Bringing.{read_back}
use Rattle.exchange_laws.proofs.Facts.{Core, core_of, HasGroup, HasIt, facts_of, TellsTrue, IsOffered, IsApt, Goes, stays, made, answered, valid_for, offered_by}
use Rattle.exchange_laws.proofs.Tables.{fragment_stays, fragment_offers, setup_stays, setup_offers, group_put}

-- ---- what the server sends to a device

pub data Ours : Type 0 where
  AsksVersion : Ours
  AsksGroup : PlanDevice → PlanGroup → Ours
  AsksSession : Ours
  AsksWindow : PlanWindow → Ours
  AsksStatus : (all : Bool) → Ours
  AsksImage : Ours
  AsksReboot : Ours
  Piece : (n : ℕ) → Ours

abbrev pub command_for : Plan → (image : List ℕ) → Ours → Command
command_for plan image AsksVersion = Sync s.DevVersionReq
command_for plan image (AsksGroup planned group) = Cast (group_request planned group)
command_for plan image AsksSession = Cast (fragments_request plan image)
command_for plan image (AsksWindow window) = Cast (window_request (own_id plan.group) window)
command_for plan image (AsksStatus all) = Cast (c.FragSessionStatusReq plan.index all)
command_for plan image AsksImage = Sync s.DevUpgradeImageReq
command_for plan image AsksReboot = Sync (s.DevRebootCountdownReq 0)
command_for plan image (Piece n) = Cast (c.DataFragment plan.index n (data_of image plan.frag_size n))

-- what is true of a device that it may reach, and of the server where it is late
abbrev pub Needs : Plan → (image : List ℕ) → (Late : Type 0) → Core → Ours → Type 0
Needs plan image Late d (AsksGroup planned group) = (plan.group ≡ Some group) × (group.id ≤ 3)
Needs plan image Late d (AsksWindow window) = (plan.window ≡ Some window) × (own_id plan.group ≤ 3) × (is_some plan.group ≡ true) × HasGroup plan d.groups
Needs plan image Late d AsksImage = HasIt image d.slots
Needs plan image Late d AsksReboot = HasIt image d.slots × Late
Needs plan image Late d (Piece n) = IsNumber image plan.frag_size n
Needs plan image Late d x = Unit {0}

-- ---- an answer

pub one_true : (f : Facts) (image : List ℕ) (index port due : ℕ) (x : Command) → IsValid x → IsListed (row x) port Up → IsTrue f image index x
    → TellsTrue f image index (record { due = due; port = port; payload = canonical x })
one_true f image index port due x valid listed is cs read =
    let same : x ∷ [] ≡ cs = (let both : Ok (x ∷ []) ≡ Ok cs = sym (read_back x port Up valid listed) ∙ read in cc) in
    subst (AllByRecursion (IsTrue f image index)) same (is, tt)

-- what a command makes, and that its answers are true
pub record Steps (image : List ℕ) (plan : Plan) (Late : Type 0) (d : DeviceState) (step : DeviceStep) : Type 0 where
  pub goes : Goes image plan Late (core_of d) (core_of step.device)
  pub told : AllByRecursion (TellsTrue (facts_of image plan (core_of step.device)) image plan.index) (map uplink_of step.answers)

pub quiet : (image : List ℕ) (plan : Plan) (Late : Type 0) (d : DeviceState) → IsApt image plan (core_of d) → Steps image plan Late d (no_answer d)
quiet image plan Late d k = record { goes = stays image plan Late (core_of d) k; told = tt }

-- ---- version

some_version : (image : List ℕ) → is_image image ≡ true → firmware_of image ≡ 0 → ⊥
unfolding is_image
some_version image is none = grind (arith, is, none)

running_version : (image : List ℕ) (cut : Cut) (d : DeviceState) → is_image image ≡ true → IsSound image cut d → d.slots.version ≡ firmware_of image
    → IsRunning image d.slots
running_version image cut d file sound same =
    ⊎_elim (λ none. absurd (some_version image file (sym same ∙ none))) (λ r. r) sound.slots.running

pub version_small : (image : List ℕ) (cut : Cut) (d : DeviceState) → firmware_of image < 2 ^ 32 → IsSound image cut d → d.slots.version < 2 ^ 32
version_small image cut d small sound = ⊎_elim (λ none. omega (arith, none)) (λ r. omega (arith, r.version, small)) sound.slots.running

version_steps : (image : List ℕ) (plan : Plan) (Late : Type 0) (at : Arrival) (d : DeviceState) → is_image image ≡ true → firmware_of image < 2 ^ 32
    → at.port ≡ 203 → IsSound image (cut_of plan) d → IsApt image plan (core_of d)
    → Steps image plan Late d (command_step at d (Sync s.DevVersionReq))
unfolding command_step version_step
version_steps image plan Late at d file small port sound k = record {
  goes = stays image plan Late (core_of d) k;
  told = rw port (
    one_true (facts_of image plan (core_of d)) image plan.index 203 at.moment.t (Sync (s.DevVersionAns d.slots.version d.config.hw))
        (record { fields = (version_small image (cut_of plan) d small sound, (sound.hardware, tt)); whole = tt })
        (record { port_is = refl; direction_is = refl })
        (valid_for image d.config.hw d.slots.formats k.known, running_version image (cut_of plan) d file sound),
    tt,
  );
}

-- ---- the image

next_true : (image : List ℕ) (slots : Slots) (next : ImageState) → slots.next ≡ next → HasIt image slots → (f : Facts) → (IsRunning image slots → f.Runs) → (index : ℕ)
    → IsTrue f image index (Sync (upgrade_answer next))
next_true image slots next is (inr runs) f on index = by next
  where
    by : (x : ImageState) → IsTrue f image index (Sync (upgrade_answer x))
    by state.None = inr (on runs)
    by state.Corrupt = inr (on runs)
    by state.Incompatible = inr (on runs)
    by (state.Valid version) = inr (on runs)
next_true image slots next is (inl valid) f on index = by next (sym is ∙ valid)
  where
    by : (x : ImageState) → x ≡ state.Valid (firmware_of image) → IsTrue f image index (Sync (upgrade_answer x))
    by state.None e = absurd cc
    by state.Corrupt e = absurd cc
    by state.Incompatible e = absurd cc
    by (state.Valid version) e = inl (let same : version ≡ firmware_of image = cc in ap (λ (v : ℕ). Some v) same)

next_valid : (next : ImageState) → ((version : ℕ) → next ≡ state.Valid version → version < 2 ^ 32) → IsValid (Sync (upgrade_answer next))
next_valid state.None small = record { fields = ((omega arith, tt), tt); whole = refl }
next_valid state.Corrupt small = record { fields = ((omega arith, tt), tt); whole = refl }
next_valid state.Incompatible small = record { fields = ((omega arith, tt), tt); whole = refl }
next_valid (state.Valid version) small = record { fields = ((omega arith, tt), (small version refl, tt)); whole = refl }

next_listed : (next : ImageState) → IsListed (row (Sync (upgrade_answer next))) 203 Up
next_listed state.None = record { port_is = refl; direction_is = refl }
next_listed state.Corrupt = record { port_is = refl; direction_is = refl }
next_listed state.Incompatible = record { port_is = refl; direction_is = refl }
next_listed (state.Valid version) = record { port_is = refl; direction_is = refl }

next_small : (image : List ℕ) (slots : Slots) → firmware_of image < 2 ^ 32 → HasSlots image slots → (version : ℕ) → slots.next ≡ state.Valid version → version < 2 ^ 32
next_small image slots small k version is =
    ⊎_elim (λ none. absurd (let e : Path ImageState state.None (state.Valid version) = sym none ∙ is in cc))
    (λ own. omega (arith, own.version version is, small)) k.next

image_steps : (image : List ℕ) (plan : Plan) (Late : Type 0) (at : Arrival) (d : DeviceState) → firmware_of image < 2 ^ 32 → at.port ≡ 203
    → IsSound image (cut_of plan) d → IsApt image plan (core_of d) → HasIt image d.slots → Steps image plan Late d (command_step at d (Sync s.DevUpgradeImageReq))
unfolding command_step upgrade_step
image_steps image plan Late at d small port sound k has = record {
  goes = stays image plan Late (core_of d) k;
  told = rw port (
    one_true (facts_of image plan (core_of d)) image plan.index 203 at.moment.t (Sync (upgrade_answer d.slots.next))
        (next_valid d.slots.next (next_small image d.slots small sound.slots)) (next_listed d.slots.next)
        (next_true image d.slots d.slots.next refl has (facts_of image plan (core_of d)) (λ r. r) plan.index),
    tt,
  );
}

-- ---- the group

group_there : (plan : Plan) (group : PlanGroup) (groups : List (Option Group)) (x : Group) → plan.group ≡ Some group → group.id < length groups
    → HasGroup plan (slice_set groups group.id (Some x))
group_there plan group groups x is few =
    let id : own_id plan.group ≡ group.id = ap own_id is in
    inr (rw (id, group_put groups group.id (Some x) few) refl)

set_length : {A : Type 0} (xs : List A) (i : ℕ) (y : A) → length (slice_set xs i y) ≡ length xs
set_length [] i y = refl
set_length (x ∷ xs) zero y = refl
set_length (x ∷ xs) (suc i) y = let more = set_length xs i y in cc

put_group : (image : List ℕ) (plan : Plan) (Late : Type 0) (at : Arrival) (d : DeviceState) (group : PlanGroup) (x : Group) → at.port ≡ 200
    → plan.group ≡ Some group → group.id ≤ 3 → IsApt image plan (core_of d) → Steps image plan Late d (group_setup_step at d group.id x)
unfolding group_setup_step
put_group image plan Late at d group x port is few k =
    let within : nat_le (length d.groups) group.id ≡ false = lt-leb _ _ (omega (arith, few, k.groups)) in
    let there : HasGroup plan (slice_set d.groups group.id (Some x)) = group_there plan group d.groups x is (omega (arith, few, k.groups)) in
    rw (within, port) (record {
      goes = made image plan Late (core_of d) _ k (record {
        config = refl;
        reboot = k.reboot;
        groups = set_length d.groups group.id _;
        known = refl;
        offered = k.offered;
        on = record { grouped = λ y. there; has = λ y. y; runs = λ y. y; over = λ y. y };
        back = λ y. inl y;
        outbox = refl;
      });
      told = (
        one_true _ image plan.index 200 at.moment.t (Cast (c.McGroupSetupAns group.id false))
            (record { fields = ((omega arith, (omega (arith, few), tt)), tt); whole = tt }) (record { port_is = refl; direction_is = refl })
            (refl, there),
        tt,
      );
    })

group_steps : (image : List ℕ) (plan : Plan) (Late : Type 0) (at : Arrival) (d : DeviceState) (planned : PlanDevice) (group : PlanGroup) → at.port ≡ 200
    → plan.group ≡ Some group → group.id ≤ 3 → IsApt image plan (core_of d) → Steps image plan Late d (command_step at d (Cast (group_request planned group)))
unfolding command_step
group_steps image plan Late at d planned group port is few k = put_group image plan Late at d group _ port is few k

-- ---- the session

set_setup : (image : List ℕ) (cut : Cut) (o : Option Session) → IfSome o (IsSetFor image cut) → IfSome o (λ y. y.setup ≡ setup_req image cut)
set_setup image cut None k = tt
set_setup image cut (Some y) k = k.setup

session_steps : (image : List ℕ) (plan : Plan) (Late : Type 0) (at : Arrival) (d : DeviceState) → at.port ≡ 201 → plan.index ≤ 3
    → IsSound image (cut_of plan) d → IsApt image plan (core_of d) → Steps image plan Late d (command_step at d (Cast (fragments_request plan image)))
unfolding command_step setup_step
session_steps image plan Late at d port few sound k =
    let cut : Cut = cut_of plan in
    let kept = set_setup image cut (session_at d.sessions plan.index) sound.session in
    rw (k.fits.takes, port) (record {
      goes = made image plan Late (core_of d) _ k (record {
        config = refl;
        reboot = k.reboot;
        groups = refl;
        known = refl;
        offered = setup_offers image (limits_of d.config) (room_of d.config) (setup_req image cut) d.sessions d.slots kept k.offered;
        on = record {
          grouped = λ y. y;
          has = λ y. y;
          runs = λ y. y;
          over = λ y. (y.0, setup_stays (limits_of d.config) (room_of d.config) (setup_req image cut) d.sessions (shown.NoRows y.0) kept y.1);
        };
        back = λ y. inl y;
        outbox = refl;
      });
      told = (
        one_true _ image plan.index 201 at.moment.t (Cast (c.FragSessionSetupAns plan.index false false false false))
            (record { fields = ((omega (arith, few), (omega arith, (omega arith, (omega arith, (omega arith, tt))))), tt); whole = tt })
            (record { port_is = refl; direction_is = refl }) refl,
        tt,
      );
    })

-- ---- the window

small_start : (b : Bool) (n : ℕ) → (cond b (min n (2 ^ 24 - 1)) 0) < 2 ^ 24
small_start true n = omega arith
small_start false n = omega arith

class_c_steps : (image : List ℕ) (plan : Plan) (Late : Type 0) (at : Arrival) (d : DeviceState) (id time timeout freq dr : ℕ) → at.port ≡ 200 → id ≤ 3
    → error_bits (is_some (group_at d.groups id)) freq dr ≡ 0 → IsApt image plan (core_of d)
    → Steps image plan Late d (command_step at d (Cast (c.McClassCSessionReq id time timeout freq dr)))
unfolding command_step class_session_step
class_c_steps image plan Late at d id time timeout freq dr port few bits k = rw (bits, port) (record {
  goes = stays image plan Late (core_of d) k;
  told = (
    one_true (facts_of image plan (core_of d)) image plan.index 200 at.moment.t (Cast (c.McClassCSessionAns id false false false (Some (time_to_start (device_time d.clock at.moment.t) time))))
        (record { fields = ((omega arith, (omega arith, (omega arith, (omega (arith, few), tt)))), (small_start _ _, tt)); whole = refl })
        (record { port_is = refl; direction_is = refl }) refl,
    tt,
  );
})

class_b_steps : (image : List ℕ) (plan : Plan) (Late : Type 0) (at : Arrival) (d : DeviceState) (id time periodicity timeout freq dr : ℕ) → at.port ≡ 200 → id ≤ 3
    → error_bits (is_some (group_at d.groups id)) freq dr ≡ 0 → IsApt image plan (core_of d)
    → Steps image plan Late d (command_step at d (Cast (c.McClassBSessionReq id time periodicity timeout freq dr)))
unfolding command_step class_session_step
class_b_steps image plan Late at d id time periodicity timeout freq dr port few bits k = rw (bits, port) (record {
  goes = stays image plan Late (core_of d) k;
  told = (
    one_true (facts_of image plan (core_of d)) image plan.index 200 at.moment.t (Cast (c.McClassBSessionAns id false false false (Some (time_to_start (device_time d.clock at.moment.t) (start_of (ClassB periodicity) time)))))
        (record { fields = ((omega arith, (omega arith, (omega arith, (omega (arith, few), tt)))), (small_start _ _, tt)); whole = refl })
        (record { port_is = refl; direction_is = refl }) refl,
    tt,
  );
})

window_steps : (image : List ℕ) (plan : Plan) (Late : Type 0) (at : Arrival) (d : DeviceState) (id : ℕ) (window : PlanWindow) (of : Kind) → at.port ≡ 200 → id ≤ 3
    → error_bits (is_some (group_at d.groups id)) window.freq window.dr ≡ 0 → IsApt image plan (core_of d)
    → Steps image plan Late d (command_step at d (Cast (window_request_of id window of)))
window_steps image plan Late at d id window kind.C port few bits k = class_c_steps image plan Late at d id window.start window.timeout window.freq window.dr port few bits k
window_steps image plan Late at d id window (kind.B periodicity) port few bits k =
    class_b_steps image plan Late at d id window.start periodicity window.timeout window.freq window.dr port few bits k

-- ---- the status

-- a session that is served and misses nothing has its file, or its rows were exceeded
served_by : (image : List ℕ) (cut : Cut) (x : Session) (v : Shown) → All (λ b. b < 2 ^ 8) image → IsSetFor image cut x → (seen_of x).verdict ≡ v
    → is_overflow v ≡ false → (seen_of x).missing ≡ 0 → (mark : ℕ) × ((seen_of x).verdict ≡ shown.Complete mark)
served_by image cut x shown.Receiving bytes set is few none = absurd (let some = something_missing image cut x bytes set is in omega (arith, some, none))
served_by image cut x (shown.Complete mark) bytes set is few none = (mark, is)
served_by image cut x (shown.NoRows mark) bytes set is few none = absurd cc
served_by image cut x (shown.Conflict mark) bytes set is few none = absurd (no_conflict image cut x mark bytes set is)

over_by : (v : Shown) → is_overflow v ≡ true → (mark : ℕ) × (v ≡ shown.NoRows mark)
over_by shown.Receiving is = absurd cc
over_by (shown.Complete mark) is = absurd cc
over_by (shown.NoRows mark) is = (mark, refl)
over_by (shown.Conflict mark) is = absurd cc

few_received : (y : Session) → (seen_of y).received < 2 ^ 14
unfolding seen_of
few_received y = omega arith

least_none : (n : ℕ) → min n 255 ≡ 0 → n ≡ 0
least_none n is = omega (arith, is)

flag_fits : (b : Bool) → flag_value b 1 < 2
flag_fits true = omega arith
flag_fits false = omega arith

status_true : (image : List ℕ) (plan : Plan) (port due : ℕ) (d : DeviceState) (y : Session) → All (λ b. b < 2 ^ 8) image → plan.index ≤ 3
    → port ≡ 201 → session_at d.sessions plan.index ≡ Some y → IsSetFor image (cut_of plan) y → IsOffered image plan.index d.sessions d.slots
    → TellsTrue (facts_of image plan (core_of d)) image plan.index
    (record { due = due; port = port; payload = canonical (Cast (c.FragSessionStatusAns plan.index (seen_of y).received (min (seen_of y).missing 255) (is_overflow (seen_of y).verdict))) })
status_true image plan port due d y bytes few is there set offered = rw is
    (one_true (facts_of image plan (core_of d)) image plan.index 201 due
    (Cast (c.FragSessionStatusAns plan.index (seen_of y).received (min (seen_of y).missing 255) (is_overflow (seen_of y).verdict)))
    (record { fields = ((omega (arith, few), (few_received y, tt)), (omega arith, ((flag_fits (is_overflow (seen_of y).verdict), tt), tt))); whole = tt })
    (record { port_is = refl; direction_is = refl }) (
      λ own over. (let v = over_by (seen_of y).verdict over in (v.0, record { session = y; there = there; is = v.1 })),
      λ own some none.
          (let v = served_by image (cut_of plan) y (seen_of y).verdict bytes set refl some (least_none (seen_of y).missing none) in
          offered v.0 (record { session = y; there = there; is = v.1 })),
    ))

status_by_session : (image : List ℕ) (plan : Plan) (at : Arrival) (d : DeviceState) (all : Bool) (o : Option Session) → All (λ b. b < 2 ^ 8) image → plan.index ≤ 3
    → at.port ≡ 201 → session_at d.sessions plan.index ≡ o → IfSome o (IsSetFor image (cut_of plan)) → IsOffered image plan.index d.sessions d.slots
    → AllByRecursion (TellsTrue (facts_of image plan (core_of d)) image plan.index) (map uplink_of (status_answers at plan.index (status_of o at.via all)))
unfolding status_of status_in status_by
status_by_session image plan at d all None bytes few port there set offered = tt
status_by_session image plan at d all (Some y) bytes few port there set offered = by (answers y.setup (seen_of y) at.via all)
  where
    by : (b : Bool) → AllByRecursion (TellsTrue (facts_of image plan (core_of d)) image plan.index)
        (map uplink_of (status_answers at plan.index (cond {A = Option StatusAns} b (Some (status_by (seen_of y) y.setup.delay)) None)))
    by true = (status_true image plan at.port (at.moment.t + answer_delay at.via at.moment.word y.setup.delay) d y bytes few port there set offered, tt)
    by false = tt

status_steps : (image : List ℕ) (plan : Plan) (Late : Type 0) (at : Arrival) (d : DeviceState) (all : Bool) → All (λ b. b < 2 ^ 8) image → plan.index ≤ 3
    → at.port ≡ 201 → IsSound image (cut_of plan) d → IsApt image plan (core_of d) → Steps image plan Late d (command_step at d (Cast (c.FragSessionStatusReq plan.index all)))
unfolding command_step status_step
status_steps image plan Late at d all bytes few port sound k = record {
  goes = stays image plan Late (core_of d) k;
  told = status_by_session image plan at d all (session_at d.sessions plan.index) bytes few port refl sound.session k.offered;
}

-- ---- a fragment

piece_goes : (image : List ℕ) (plan : Plan) (Late : Type 0) (at : Arrival) (d : DeviceState) (n : ℕ) → All (λ b. b < 2 ^ 8) image → IsNumber image plan.frag_size n
    → IsSound image (cut_of plan) d → IsApt image plan (core_of d) → Goes image plan Late (core_of d) (core_of (heard_step at d plan.index n (data_of image plan.frag_size n)))
unfolding heard_step
piece_goes image plan Late at d n bytes number sound k =
    let part : List ℕ = data_of image plan.frag_size n in
    let table : SessionTable = table_after_fragment plan.index at.via n part at.moment.mark d.sessions in
    let fed : Option Session = after_fragment (session_at d.sessions plan.index) at.via n part at.moment.mark in
    let set : IfSome (session_at table plan.index) (IsSetFor image (cut_of plan)) =
    subst (λ (y : Option Session). IfSome y (IsSetFor image (cut_of plan))) (sym (at_own d.sessions plan.index fed))
    (fragment_set image (cut_of plan) (session_at d.sessions plan.index) at.via n part at.moment.mark
    (record { first = number.0; last = number.1; part = refl }) sound.session) in
    let o = offered_by image d.config.hw (is_whole (view_of (session_at d.sessions plan.index))) (whole_file (view_of (session_at table plan.index))) d.slots
    (λ file is. whole_is image (cut_of plan) (session_at table plan.index) file bytes set is) k.known in
    made image plan Late (core_of d) _ k (record {
      config = refl;
      reboot = k.reboot;
      groups = refl;
      known = o.formats;
      offered = fragment_offers image plan.index at.via n part at.moment.mark d.sessions d.slots _ k.offered o;
      on = record {
        grouped = λ y. y;
        has = o.has;
        runs = o.runs;
        over = λ y. (y.0, fragment_stays plan.index at.via n part at.moment.mark d.sessions (shown.NoRows y.0) (λ e. cc) y.1);
      };
      back = λ y. inl (o.back y);
      outbox = refl;
    })

piece_steps : (image : List ℕ) (plan : Plan) (Late : Type 0) (at : Arrival) (d : DeviceState) (n : ℕ) → All (λ b. b < 2 ^ 8) image → IsNumber image plan.frag_size n
    → IsSound image (cut_of plan) d → IsApt image plan (core_of d)
    → Steps image plan Late d (command_step at d (Cast (c.DataFragment plan.index n (data_of image plan.frag_size n))))
unfolding command_step fragment_step
piece_steps image plan Late at d n bytes number sound k =
    by (is_none (drop_cause (session_at d.sessions plan.index) at.via n (data_of image plan.frag_size n)))
  where
    by : (b : Bool) → Steps image plan Late d (no_answer (cond b (heard_step at d plan.index n (data_of image plan.frag_size n)) (with_counts after_dropped d)))
    by true = record { goes = piece_goes image plan Late at d n bytes number sound k; told = tt }
    by false = record { goes = stays image plan Late (core_of d) k; told = tt }

-- ---- any of them but the reboot

-- what is known of image and plan
pub record IsPlain (image : List ℕ) (plan : Plan) : Type 0 where
  pub bytes : All (λ b. b < 2 ^ 8) image
  pub file : is_image image ≡ true
  pub small : firmware_of image < 2 ^ 32
  pub index : plan.index ≤ 3

abbrev pub port_for : Ours → ℕ
port_for AsksVersion = 203
port_for (AsksGroup planned group) = 200
port_for AsksSession = 201
port_for (AsksWindow window) = 200
port_for (AsksStatus all) = 201
port_for AsksImage = 203
port_for AsksReboot = 203
port_for (Piece n) = 201

pub window_fine : (image : List ℕ) (plan : Plan) (d : Core) (window : PlanWindow) → IsApt image plan d → plan.window ≡ Some window → is_some plan.group ≡ true → HasGroup plan d.groups
    → error_bits (is_some (group_at d.groups (own_id plan.group))) window.freq window.dr ≡ 0
window_fine image plan d window k is some (inl none) = absurd (let no : Path Bool false true = rw none at some in cc)
window_fine image plan d window k is some (inr there) = rw there (by plan.window is k.fits.window)
  where
    by : (o : Option PlanWindow) → o ≡ Some window → IfSome o (λ w. error_bits true w.freq w.dr ≡ 0) → error_bits true window.freq window.dr ≡ 0
    by None same fine = absurd cc
    by (Some w) same fine = (let e : w ≡ window = cc in subst (λ (y : PlanWindow). error_bits true y.freq y.dr ≡ 0) e fine)

pub command_steps : (image : List ℕ) (plan : Plan) (Late : Type 0) (at : Arrival) (d : DeviceState) (x : Ours) → IsPlain image plan → (x ≡ AsksReboot → ⊥)
    → at.port ≡ port_for x → Needs plan image Late (core_of d) x → IsSound image (cut_of plan) d → IsApt image plan (core_of d)
    → Steps image plan Late d (command_step at d (command_for plan image x))
command_steps image plan Late at d AsksVersion p other port needs sound k = version_steps image plan Late at d p.file p.small port sound k
command_steps image plan Late at d (AsksGroup planned group) p other port needs sound k = group_steps image plan Late at d planned group port needs.0 needs.1 k
command_steps image plan Late at d AsksSession p other port needs sound k = session_steps image plan Late at d port p.index sound k
command_steps image plan Late at d (AsksWindow window) p other port needs sound k =
    window_steps image plan Late at d (own_id plan.group) window window.kind port needs.1 (window_fine image plan (core_of d) window k needs.0 needs.2 needs.3) k
command_steps image plan Late at d (AsksStatus all) p other port needs sound k = status_steps image plan Late at d all p.bytes p.index port sound k
command_steps image plan Late at d AsksImage p other port needs sound k = image_steps image plan Late at d p.small port sound k needs
command_steps image plan Late at d AsksReboot p other port needs sound k = absurd (other refl)
command_steps image plan Late at d (Piece n) p other port needs sound k = piece_steps image plan Late at d n p.bytes needs sound k

-- whichever way it comes
pub step_goes : (image : List ℕ) (plan : Plan) (Late : Type 0) (at : Arrival) (d : DeviceState) (x : Ours) → IsPlain image plan → (x ≡ AsksReboot → ⊥)
    → at.port ≡ port_for x → Needs plan image Late (core_of d) x → IsSound image (cut_of plan) d → IsApt image plan (core_of d)
    → Goes image plan Late (core_of d) (core_of (after_answers (step at d (command_for plan image x))))
unfolding step
step_goes image plan Late at d x p other port needs sound k = by (acts at.via (command_for plan image x))
  where
    by : (b : Bool) → Goes image plan Late (core_of d) (core_of (after_answers (cond {A = DeviceStep} b (command_step at d (command_for plan image x)) (no_answer d))))
    by true = (let made = command_steps image plan Late at d x p other port needs sound k in answered image plan Late (core_of d) (command_step at d (command_for plan image x)) made.goes made.told)
    by false = answered image plan Late (core_of d) (no_answer d) (stays image plan Late (core_of d) k) tt
