-- A device of a campaign has the image in its slots, and what it tells of its version is true.
use Rattle.std.proofs.Common.{◌≡◌, ◌⊎◌, inl, inr, ⊎_elim, ℕ, zero, suc, ◌^◌, ◌<◌, Bool, true, false, cond, ◌==◌, List, [], ◌∷◌, ◌++◌, map, replicate, All, Option, None, Some, IfSome, Result, Ok, Err, refl, sym, ◌∙◌, subst, arith, eqb-true}
use Rattle.std.specs.List.{AllByRecursion}
use Rattle.wire_base.specs.declared.refusal.Direction.TheVariants.{Down, Up}
use Rattle.wire_base.specs.Rows.{IsListed}
use Rattle.frag_encoder.specs.Encoding.{data_of}
use Rattle.frag_session.specs.declared.answers.StatusAns.{StatusAns}
use Rattle.frag_session.specs.declared.setups.Limits.{Limits}
use Rattle.frag_session.specs.Session.{Session, new_session, followed, after_fragment}
use Rattle.frag_session.specs.HeldHistory.{IsSetUp}
use Rattle.image_slots.specs.declared.view.ImageState.{ImageState}
use Rattle.image_slots.specs.declared.view.ImageState.TheVariants as state
use Rattle.image_slots.specs.Image.{is_image, firmware_of}
use Rattle.image_slots.specs.Slots.{Slots}
use Rattle.cast_wire.specs.declared.cmd.Cmd.{Cmd as CastCmd}
use Rattle.cast_wire.specs.declared.cmd.Cmd.TheVariants as c
use Rattle.cast_wire.specs.declared.cmd.Cmd.TheVariants.{DataFragment}
use Rattle.sync_wire.specs.declared.cmd.Cmd.{Cmd as SyncCmd}
use Rattle.sync_wire.specs.declared.cmd.Cmd.TheVariants as s
use Rattle.package_grammar.specs.declared.command.Command.{Command}
use Rattle.package_grammar.specs.declared.command.Command.TheVariants.{Sync, Cast}
use Rattle.package_grammar.specs.declared.downlink.Downlink.{Downlink}
use Rattle.package_grammar.specs.Grammar.{row, canonical, IsValid}
use Rattle.package_grammar.specs.Reading.{Reading, reading_of}
use Rattle.device_core.specs.Configuration.{Configuration}
use Rattle.device_core.specs.declared.arrival.Arrival.{Arrival}
use Rattle.device_core.specs.declared.uplink.Uplink.{Uplink}
use Rattle.device_core.specs.declared.uplink.Answer.{Answer}
use Rattle.device_core.specs.SessionTable.{SessionTable, session_at, with_session}
use Rattle.device_core.specs.Device.{DeviceState, first_device, limits_of, room_of, with_counts, after_deaf, after_refused, after_full, after_dropped}
use Rattle.device_core.specs.declared.counts.Counts.{Counts}
use Rattle.device_core.specs.declared.delivered.Delivered.{Delivered}
use Rattle.device_core.specs.declared.delivered.Delivered.TheVariants.{Deaf, OutboxFull, Done}
use Rattle.device_core.specs.declared.delivered.OutboxFull as outbox
use Rattle.device_core.specs.Deliver.{Outcome, message_delivery, read_delivery, arrival, heard_delivery, asks_time, time_asking, waking, delivery}
use Rattle.device_core.specs.Answers.{DeviceStep, uplink_of, after_answers, no_answer, one_answer}
use Rattle.device_core.specs.Clock.{time_request, answer_step, periodicity_step, resync_step}
use Rattle.device_core.specs.ClassSessions.{class_session_step}
use Rattle.device_core.specs.Groups.{groups_step, group_setup_step, group_delete_step}
use Rattle.device_core.specs.Firmware.{version_step, upgrade_answer, upgrade_step, delete_image_step, reboot_time_step, countdown_step, after_due_reboot, after_migration}
use Rattle.device_core.specs.Fragments.{setup_step, status_answers, status_step, delete_step, heard_step, fragment_step}
use Rattle.device_core.specs.Step.{command_step, acts, step, after_commands}
use Rattle.campaign_laws.specs.Ledger.{IsRunning}
use Rattle.device_core.proofs.SessionSteps.{setup_keeps, fragment_keeps}
use Rattle.campaign_laws.proofs.HeadlineCommands.{Cut, firmware_small, setup_req, setup_request, fragment_command, IsNumber}
use Rattle.campaign_laws.proofs.OwnSession.{at_own, none_at}
use Rattle.campaign_laws.proofs.HeadlineEnds.{IsSetFor}
use Rattle.campaign_laws.proofs.LedgerSlots.{whole_is, HasSlots, SlotsGo, same_slots, swapped_slots, deleted_slots, offered_slots, raised_slots, TellsTruly, tells_on, other_port, one_told}

-- ---- a device

-- it has no session but the server's, its slots are the image's, and what it tells is true
pub record IsSound (image : List ℕ) (cut : Cut) (d : DeviceState) : Type 0 where
  pub hardware : d.config.hw < 2 ^ 32
  pub session : IfSome (session_at d.sessions cut.index) (IsSetFor image cut)
  pub slots : HasSlots image d.slots
  pub outbox : AllByRecursion (TellsTruly image (IsRunning image d.slots)) d.outbox

-- what it becomes is sound, and goes on running the image
pub record Goes (image : List ℕ) (cut : Cut) (d e : DeviceState) : Type 0 where
  pub sound : IsSound image cut e
  pub runs : IsRunning image d.slots → IsRunning image e.slots

pub goes_on : (image : List ℕ) (cut : Cut) (d e f : DeviceState) → Goes image cut d e → Goes image cut e f
    → Goes image cut d f
goes_on image cut d e f one more = record { sound = more.sound; runs = λ r. more.runs (one.runs r) }

-- all but its answers
record Makes (image : List ℕ) (cut : Cut) (d e : DeviceState) : Type 0 where
  config : e.config ≡ d.config
  session : IfSome (session_at e.sessions cut.index) (IsSetFor image cut)
  slots : SlotsGo image d.slots e.slots
  outbox : e.outbox ≡ d.outbox

made_goes : (image : List ℕ) (cut : Cut) (d e : DeviceState) → IsSound image cut d → Makes image cut d e
    → Goes image cut d e
made_goes image cut d e k m = record {
  sound = record {
    hardware = subst (λ (x : Configuration). x.hw < 2 ^ 32) (sym m.config) k.hardware;
    session = m.session;
    slots = m.slots.has;
    outbox = subst (AllByRecursion (TellsTruly image (IsRunning image e.slots))) (sym m.outbox)
        (tells_on image (IsRunning image d.slots) (IsRunning image e.slots) m.slots.runs d.outbox k.outbox);
  };
  runs = m.slots.runs;
}

same_made : (image : List ℕ) (cut : Cut) (d e : DeviceState) → IsSound image cut d → e.config ≡ d.config
    → e.sessions ≡ d.sessions → e.slots ≡ d.slots → e.outbox ≡ d.outbox → Makes image cut d e
same_made image cut d e k config sessions slots outbox = record {
  config = config;
  session = subst (λ (t : SessionTable). IfSome (session_at t cut.index) (IsSetFor image cut)) (sym sessions) k.session;
  slots = subst (SlotsGo image d.slots) (sym slots) (same_slots image d.slots k.slots);
  outbox = outbox;
}

reboot_by : (image : List ℕ) (cut : Cut) (d e : DeviceState) (b : Bool) → Goes image cut d e → IsSound image cut d
    → Goes image cut d (cond b e d)
reboot_by image cut d e true goes k = goes
reboot_by image cut d e false goes k = record { sound = k; runs = λ r. r }

pub reboot_goes : (image : List ℕ) (cut : Cut) (t : ℕ) (d : DeviceState) → IsSound image cut d
    → Goes image cut d (after_due_reboot t d)
unfolding after_due_reboot
reboot_goes image cut t d k = reboot_by image cut d _ _ (made_goes image cut d _ k (record {
  config = refl;
  session = k.session;
  slots = swapped_slots image d.slots k.slots;
  outbox = refl;
})) k

pub migration_goes : (image : List ℕ) (cut : Cut) (d : DeviceState) → IsSound image cut d
    → Goes image cut d (after_migration d)
unfolding after_migration
migration_goes image cut d k = made_goes image cut d _ k (record {
  config = refl;
  session = k.session;
  slots = raised_slots image d.config.hw d.slots k.slots;
  outbox = refl;
})

-- ---- commands that no session hears

-- it leaves the sessions as they are
abbrev pub IsCalmCast : CastCmd → Type 0
IsCalmCast (c.FragSessionSetupReq index mask nb_frag frag_size algo delay padding descriptor) = ⊥
IsCalmCast (c.FragSessionDeleteReq index) = ⊥
IsCalmCast (c.DataFragment index n part) = ⊥
IsCalmCast cmd = Unit {0}

abbrev pub IsCalm : Command → Type 0
IsCalm (Sync cmd) = Unit {0}
IsCalm (Cast cmd) = IsCalmCast cmd

sync_makes : (image : List ℕ) (cut : Cut) (at : Arrival) (m : DeviceState) (cmd : SyncCmd) → IsSound image cut m
    → Makes image cut m (command_step at m (Sync cmd)).device
unfolding command_step answer_step periodicity_step resync_step version_step upgrade_step delete_image_step
    reboot_time_step countdown_step
sync_makes image cut at m s.PackageVersionReq k = same_made image cut m _ k refl refl refl refl
sync_makes image cut at m (s.AppTimeAns correction token) k = same_made image cut m _ k refl refl refl refl
sync_makes image cut at m (s.DevDeleteImageReq version) k = record {
  config = refl;
  session = k.session;
  slots = deleted_slots image version m.slots k.slots;
  outbox = refl;
}
sync_makes image cut at m cmd k = same_made image cut m _ k refl refl refl refl

made_by_test : (image : List ℕ) (cut : Cut) (m : DeviceState) (b : Bool) (one other : DeviceStep)
    → Makes image cut m one.device → Makes image cut m other.device
    → Makes image cut m (cond {A = DeviceStep} b one other).device
made_by_test image cut m true one other k l = k
made_by_test image cut m false one other k l = l

cast_makes : (image : List ℕ) (cut : Cut) (at : Arrival) (m : DeviceState) (cmd : CastCmd) → IsCalmCast cmd
    → IsSound image cut m → Makes image cut m (command_step at m (Cast cmd)).device
unfolding command_step status_step groups_step group_setup_step group_delete_step class_session_step
cast_makes image cut at m
    (c.FragSessionSetupReq index mask nb_frag frag_size algo delay padding descriptor) calm k = absurd calm
cast_makes image cut at m (c.FragSessionDeleteReq index) calm k = absurd calm
cast_makes image cut at m (c.DataFragment index n part) calm k = absurd calm
cast_makes image cut at m c.PackageVersionReq calm k = same_made image cut m _ k refl refl refl refl
cast_makes image cut at m (c.McGroupSetupReq id addr key min max) calm k =
    made_by_test image cut m _ _ _ (same_made image cut m _ k refl refl refl refl)
    (same_made image cut m _ k refl refl refl refl)
cast_makes image cut at m (c.McGroupDeleteReq id) calm k =
    made_by_test image cut m _ _ _ (same_made image cut m _ k refl refl refl refl)
    (same_made image cut m _ k refl refl refl refl)
cast_makes image cut at m cmd calm k = same_made image cut m _ k refl refl refl refl

-- ---- a setup and a fragment

new_set : (image : List ℕ) (cut : Cut) (limits : Limits) → IsSetUp (setup_req image cut)
    → IsSetFor image cut (new_session limits (setup_req image cut))
unfolding new_session
new_set image cut limits makes = record { setup = refl; makes = makes; heard = tt }

-- the session that is put in its place
own_set : (image : List ℕ) (cut : Cut) (table : SessionTable) (s : Option Session) → IfSome s (IsSetFor image cut)
    → IfSome (session_at (with_session table cut.index s) cut.index) (IsSetFor image cut)
own_set image cut table s k = subst (λ (o : Option Session). IfSome o (IsSetFor image cut)) (sym (at_own table cut.index s)) k

setup_makes : (image : List ℕ) (cut : Cut) (at : Arrival) (m : DeviceState) → IsSound image cut m
    → Makes image cut m (command_step at m (setup_request image cut)).device
unfolding command_step setup_step
setup_makes image cut at m k = record {
  config = refl;
  session = own_set image cut m.sessions _
      (setup_keeps (IsSetFor image cut) (limits_of m.config) (room_of m.config) (session_at m.sessions cut.index)
      (setup_req image cut)
      (λ makes. new_set image cut (limits_of m.config) makes) k.session);
  slots = same_slots image m.slots k.slots;
  outbox = refl;
}

followed_set : (image : List ℕ) (cut : Cut) (n : ℕ) (mark : ℕ) → IsNumber image cut.size n
    → (s : Session) → IsSetFor image cut s → IsSetFor image cut (followed s n (data_of image cut.size n) mark)
unfolding followed
followed_set image cut n mark number s k = record {
  setup = k.setup;
  makes = k.makes;
  heard = (record { first = number.0; last = number.1; part = refl }, k.heard);
}

heard_makes : (image : List ℕ) (cut : Cut) (at : Arrival) (m : DeviceState) (n : ℕ) → All (λ b. b < 2 ^ 8) image
    → IsNumber image cut.size n → IsSound image cut m
    → Makes image cut m (heard_step at m cut.index n (data_of image cut.size n))
unfolding heard_step
heard_makes image cut at m n bytes number k =
    let part : List ℕ = data_of image cut.size n in
    let fed : Option Session = after_fragment (session_at m.sessions cut.index) at.via n part at.moment.mark in
    let set : IfSome fed (IsSetFor image cut) =
    fragment_keeps (IsSetFor image cut) (session_at m.sessions cut.index) at.via n part at.moment.mark
    (followed_set image cut n at.moment.mark number) k.session in
    let own = own_set image cut m.sessions fed set in
    record {
      config = refl;
      session = own;
      slots = offered_slots image m.config.hw _ _ m.slots
          (λ file is. whole_is image cut
          (session_at (with_session m.sessions cut.index fed) cut.index) file bytes own is) k.slots;
      outbox = refl;
    }

fragment_by : (image : List ℕ) (cut : Cut) (m heard : DeviceState) (b : Bool) → IsSound image cut m
    → Makes image cut m heard → Makes image cut m (cond b heard (with_counts after_dropped m))
fragment_by image cut m heard true k makes = makes
fragment_by image cut m heard false k makes = same_made image cut m _ k refl refl refl refl

fragment_makes : (image : List ℕ) (cut : Cut) (at : Arrival) (m : DeviceState) (n : ℕ) → All (λ b. b < 2 ^ 8) image
    → IsNumber image cut.size n → IsSound image cut m
    → Makes image cut m (command_step at m (fragment_command image cut n)).device
unfolding command_step fragment_step
fragment_makes image cut at m n bytes number k =
    fragment_by image cut m _ _ k (heard_makes image cut at m n bytes number k)

-- ---- what is answered

-- a command of the server's: the setup, a fragment, or one that no session hears
abbrev pub IsOneOf : (image : List ℕ) → Cut → Command → Type 0
IsOneOf image cut x =
    (x ≡ setup_request image cut) ⊎
    (((n : ℕ) × IsNumber image cut.size n × (x ≡ fragment_command image cut n)) ⊎ IsCalm x)

-- of firmware management it sends these
abbrev pub IsAskedOfFirmware : Command → Type 0
IsAskedOfFirmware x =
    (x ≡ Sync s.DevVersionReq) ⊎ ((x ≡ Sync s.DevUpgradeImageReq) ⊎ (x ≡ Sync (s.DevRebootCountdownReq 0)))

command_makes : (image : List ℕ) (cut : Cut) (at : Arrival) (m : DeviceState) (x : Command)
    → All (λ b. b < 2 ^ 8) image
    → IsOneOf image cut x → IsSound image cut m → Makes image cut m (command_step at m x).device
command_makes image cut at m x bytes (inl is) k =
    subst (λ (y : Command). Makes image cut m (command_step at m y).device) (sym is) (setup_makes image cut at m k)
command_makes image cut at m x bytes (inr (inl is)) k =
    subst (λ (y : Command). Makes image cut m (command_step at m y).device) (sym is.2)
    (fragment_makes image cut at m is.0 bytes is.1 k)
command_makes image cut at m (Sync cmd) bytes (inr (inr calm)) k = sync_makes image cut at m cmd k
command_makes image cut at m (Cast cmd) bytes (inr (inr calm)) k = cast_makes image cut at m cmd calm k

-- each answer goes out on the port that its command came on
replicated : (port n : ℕ) (answer : Answer) → answer.port ≡ port
    → AllByRecursion (λ (a : Answer). a.port ≡ port) (replicate n answer)
replicated port zero answer is = tt
replicated port (suc n) answer is = (is, replicated port n answer is)

pub AllOn : ℕ → List Answer → Type 0
AllOn port answers = AllByRecursion (λ (a : Answer). a.port ≡ port) answers

sync_answers : (at : Arrival) (m : DeviceState) (cmd : SyncCmd) → AllOn at.port (command_step at m (Sync cmd)).answers
unfolding AllOn command_step answer_step periodicity_step resync_step version_step upgrade_step delete_image_step
    reboot_time_step countdown_step
sync_answers at m s.PackageVersionReq = (refl, tt)
sync_answers at m (s.DeviceAppTimePeriodicityReq period) = (refl, tt)
sync_answers at m (s.ForceDeviceResyncReq count) = replicated at.port count _ refl
sync_answers at m s.DevVersionReq = (refl, tt)
sync_answers at m (s.DevRebootTimeReq time) = (refl, tt)
sync_answers at m (s.DevRebootCountdownReq count) = (refl, tt)
sync_answers at m s.DevUpgradeImageReq = (refl, tt)
sync_answers at m (s.DevDeleteImageReq version) = (refl, tt)
sync_answers at m cmd = tt

one_by : (at : Arrival) (b : Bool) (d e : DeviceState) (x y : Command)
    → AllOn at.port (cond {A = DeviceStep} b (one_answer at d x) (one_answer at e y)).answers
unfolding AllOn
one_by at true d e x y = (refl, tt)
one_by at false d e x y = (refl, tt)

status_on : (at : Arrival) (index : ℕ) (o : Option StatusAns) → AllOn at.port (status_answers at index o)
unfolding AllOn
status_on at index None = tt
status_on at index (Some status) = (refl, tt)

cast_answers : (at : Arrival) (m : DeviceState) (cmd : CastCmd) → AllOn at.port (command_step at m (Cast cmd)).answers
unfolding AllOn command_step setup_step status_step delete_step fragment_step groups_step group_setup_step
    group_delete_step class_session_step
cast_answers at m c.PackageVersionReq = (refl, tt)
cast_answers at m (c.FragSessionStatusReq index all) = status_on at index _
cast_answers at m (c.FragSessionSetupReq index mask nb_frag frag_size algo delay padding descriptor) = (refl, tt)
cast_answers at m (c.FragSessionDeleteReq index) = (refl, tt)
cast_answers at m (c.DataFragment index n part) = tt
cast_answers at m (c.McGroupStatusReq mask) = (refl, tt)
cast_answers at m (c.McGroupSetupReq id addr key min max) = one_by at _ _ _ _ _
cast_answers at m (c.McGroupDeleteReq id) = one_by at _ _ _ _ _
cast_answers at m (c.McClassCSessionReq id time timeout freq dr) = (refl, tt)
cast_answers at m (c.McClassBSessionReq id time periodicity timeout freq dr) = (refl, tt)
cast_answers at m cmd = tt

pub command_answers : (at : Arrival) (m : DeviceState) (x : Command) → AllOn at.port (command_step at m x).answers
command_answers at m (Sync cmd) = sync_answers at m cmd
command_answers at m (Cast cmd) = cast_answers at m cmd

far_answers : (image : List ℕ) (R : Type 0) (port : ℕ) (answers : List Answer) → (port ≡ 203 → ⊥)
    → AllOn port answers → AllByRecursion (TellsTruly image R) (map uplink_of answers)
unfolding AllOn
far_answers image R port [] far all = tt
far_answers image R port (answer ∷ answers) far all =
    (other_port image R (uplink_of answer) (λ is. far (sym all.0 ∙ is)), far_answers image R port answers far all.1)

-- ---- what is answered on port 203

version_small : (image : List ℕ) (slots : Slots) → All (λ b. b < 2 ^ 8) image → HasSlots image slots
    → slots.version < 2 ^ 32
version_small image slots bytes k =
    ⊎_elim (λ none. omega (arith, none)) (λ r. omega (arith, r.version, firmware_small image bytes)) k.running

next_small : (image : List ℕ) (slots : Slots) → All (λ b. b < 2 ^ 8) image → HasSlots image slots
    → (version : ℕ) → slots.next ≡ state.Valid version → version < 2 ^ 32
next_small image slots bytes k version is =
    ⊎_elim (λ none. absurd (let e : Path ImageState state.None (state.Valid version) = sym none ∙ is in cc))
    (λ q. omega (arith, q.version version is, firmware_small image bytes)) k.next

-- an image file's version is not that of a device that runs none
version_some : (image : List ℕ) → is_image image ≡ true → firmware_of image ≡ 0 → ⊥
unfolding is_image
version_some image is none = grind (arith, is, none)

version_is : (image : List ℕ) (slots : Slots) (hw hardware : ℕ) → is_image image ≡ true → HasSlots image slots
    → Sync (s.DevVersionAns slots.version hw) ≡ Sync (s.DevVersionAns (firmware_of image) hardware)
    → IsRunning image slots
version_is image slots hw hardware is k same =
    let told : slots.version ≡ firmware_of image = cc in
    ⊎_elim (λ none. absurd (version_some image is (sym told ∙ none))) (λ r. r) k.running

version_told : (image : List ℕ) (cut : Cut) (at : Arrival) (m : DeviceState) → All (λ b. b < 2 ^ 8) image
    → is_image image ≡ true → at.port ≡ 203 → IsSound image cut m
    → AllByRecursion (TellsTruly image (IsRunning image m.slots))
    (map uplink_of (command_step at m (Sync s.DevVersionReq)).answers)
unfolding command_step version_step
version_told image cut at m bytes is port k = rw (port) (
  one_told image (IsRunning image m.slots) at.moment.t (Sync (s.DevVersionAns m.slots.version m.config.hw))
      (record { fields = (version_small image m.slots bytes k.slots, (k.hardware, tt)); whole = tt })
      (record { port_is = refl; direction_is = refl })
      (λ hardware same. version_is image m.slots m.config.hw hardware is k.slots same),
  tt,
)

-- the answer to the wish to upgrade is valid
upgrade_valid : (next : ImageState) → ((version : ℕ) → next ≡ state.Valid version → version < 2 ^ 32)
    → IsValid (Sync (upgrade_answer next))
upgrade_valid state.None small = record { fields = ((omega arith, tt), tt); whole = refl }
upgrade_valid state.Corrupt small = record { fields = ((omega arith, tt), tt); whole = refl }
upgrade_valid state.Incompatible small = record { fields = ((omega arith, tt), tt); whole = refl }
upgrade_valid (state.Valid version) small =
    record { fields = ((omega arith, tt), (small version refl, tt)); whole = refl }

upgrade_listed : (next : ImageState) → IsListed (row (Sync (upgrade_answer next))) 203 Up
upgrade_listed state.None = record { port_is = refl; direction_is = refl }
upgrade_listed state.Corrupt = record { port_is = refl; direction_is = refl }
upgrade_listed state.Incompatible = record { port_is = refl; direction_is = refl }
upgrade_listed (state.Valid version) = record { port_is = refl; direction_is = refl }

-- and tells no version that runs
upgrade_tells : (next : ImageState) (firmware hardware : ℕ)
    → Sync (upgrade_answer next) ≡ Sync (s.DevVersionAns firmware hardware) → ⊥
upgrade_tells state.None firmware hardware same = cc
upgrade_tells state.Corrupt firmware hardware same = cc
upgrade_tells state.Incompatible firmware hardware same = cc
upgrade_tells (state.Valid version) firmware hardware same = cc

upgrade_told : (image : List ℕ) (cut : Cut) (at : Arrival) (m : DeviceState) → All (λ b. b < 2 ^ 8) image
    → at.port ≡ 203 → IsSound image cut m
    → AllByRecursion (TellsTruly image (IsRunning image m.slots))
    (map uplink_of (command_step at m (Sync s.DevUpgradeImageReq)).answers)
unfolding command_step upgrade_step
upgrade_told image cut at m bytes port k = rw (port) (
  one_told image (IsRunning image m.slots) at.moment.t (Sync (upgrade_answer m.slots.next))
      (upgrade_valid m.slots.next
      (next_small image m.slots bytes k.slots))
      (upgrade_listed m.slots.next)
      (λ hardware same. absurd (upgrade_tells m.slots.next (firmware_of image) hardware same)),
  tt,
)

countdown_told : (image : List ℕ) (at : Arrival) (m : DeviceState) → at.port ≡ 203
    → AllByRecursion (TellsTruly image (IsRunning image m.slots))
    (map uplink_of (command_step at m (Sync (s.DevRebootCountdownReq 0))).answers)
unfolding command_step countdown_step
countdown_told image at m port = rw (port) (
  one_told image (IsRunning image m.slots) at.moment.t (Sync (s.DevRebootCountdownAns 0))
      (record { fields = (omega arith, tt); whole = tt }) (record { port_is = refl; direction_is = refl })
      (λ hardware same. absurd cc),
  tt,
)

-- ---- a message

-- a command that comes on a port
abbrev pub ComesOn : (image : List ℕ) → Cut → (port : ℕ) → Command → Type 0
ComesOn image cut port x = IsOneOf image cut x × ((port ≡ 203) → IsAskedOfFirmware x)

firmware_told : (image : List ℕ) (cut : Cut) (at : Arrival) (m : DeviceState) (x : Command)
    → All (λ b. b < 2 ^ 8) image
    → is_image image ≡ true → at.port ≡ 203 → IsAskedOfFirmware x → IsSound image cut m
    → AllByRecursion (TellsTruly image (IsRunning image m.slots)) (map uplink_of (command_step at m x).answers)
firmware_told image cut at m x bytes is port (inl asked) k =
    subst (λ (y : Command). AllByRecursion (TellsTruly image (IsRunning image m.slots))
    (map uplink_of (command_step at m y).answers))
    (sym asked) (version_told image cut at m bytes is port k)
firmware_told image cut at m x bytes is port (inr (inl asked)) k =
    subst (λ (y : Command). AllByRecursion (TellsTruly image (IsRunning image m.slots))
    (map uplink_of (command_step at m y).answers))
    (sym asked) (upgrade_told image cut at m bytes port k)
firmware_told image cut at m x bytes is port (inr (inr asked)) k =
    subst (λ (y : Command). AllByRecursion (TellsTruly image (IsRunning image m.slots))
    (map uplink_of (command_step at m y).answers))
    (sym asked) (countdown_told image at m port)

told_by : (image : List ℕ) (cut : Cut) (at : Arrival) (m : DeviceState) (x : Command) (b : Bool)
    → (at.port == 203) ≡ b
    → All (λ b. b < 2 ^ 8) image → is_image image ≡ true → ComesOn image cut at.port x → IsSound image cut m
    → AllByRecursion (TellsTruly image (IsRunning image m.slots)) (map uplink_of (command_step at m x).answers)
told_by image cut at m x true same bytes is comes k =
    let port : at.port ≡ 203 = eqb-true _ _ same in
    firmware_told image cut at m x bytes is port (comes.1 port) k
told_by image cut at m x false other bytes is comes k =
    far_answers image (IsRunning image m.slots) at.port (command_step at m x).answers
    (λ port. grind (arith, other, port)) (command_answers at m x)

both_tell : (image : List ℕ) (R : Type 0) (us vs : List Uplink) → AllByRecursion (TellsTruly image R) us
    → AllByRecursion (TellsTruly image R) vs → AllByRecursion (TellsTruly image R) (us ++ vs)
both_tell image R [] vs one more = more
both_tell image R (u ∷ us) vs one more = (one.0, both_tell image R us vs one.1 more)

-- its answers are in the outbox
answers_go : (image : List ℕ) (cut : Cut) (m : DeviceState) (made : DeviceStep) → IsSound image cut m
    → Makes image cut m made.device
    → AllByRecursion (TellsTruly image (IsRunning image m.slots)) (map uplink_of made.answers)
    → Goes image cut m (after_answers made)
unfolding after_answers
answers_go image cut m made k makes told =
    let goes = made_goes image cut m made.device k makes in
    record {
      sound = record {
        hardware = goes.sound.hardware;
        session = goes.sound.session;
        slots = goes.sound.slots;
        outbox = both_tell image (IsRunning image made.device.slots) made.device.outbox (map uplink_of made.answers)
            goes.sound.outbox
            (tells_on image (IsRunning image m.slots) (IsRunning image made.device.slots) goes.runs
            (map uplink_of made.answers) told);
      };
      runs = goes.runs;
    }

step_by : (image : List ℕ) (cut : Cut) (at : Arrival) (m : DeviceState) (x : Command) (b : Bool)
    → All (λ b. b < 2 ^ 8) image
    → is_image image ≡ true → ComesOn image cut at.port x → IsSound image cut m
    → Goes image cut m (after_answers (cond {A = DeviceStep} b (command_step at m x) (no_answer m)))
step_by image cut at m x true bytes is comes k =
    answers_go image cut m (command_step at m x) k (command_makes image cut at m x bytes comes.0 k)
    (told_by image cut at m x _ refl bytes is comes k)
step_by image cut at m x false bytes is comes k =
    answers_go image cut m (no_answer m) k (same_made image cut m m k refl refl refl refl) tt

commands_go : (image : List ℕ) (cut : Cut) (at : Arrival) (cs : List Command) (m : DeviceState)
    → All (λ b. b < 2 ^ 8) image
    → is_image image ≡ true → AllByRecursion (ComesOn image cut at.port) cs → IsSound image cut m
    → Goes image cut m (after_commands at m cs)
unfolding after_commands step
commands_go image cut at [] m bytes is all k = record { sound = k; runs = λ r. r }
commands_go image cut at (x ∷ cs) m bytes is all k =
    let one = step_by image cut at m x (acts at.via x) bytes is all.0 k in
    goes_on image cut m _ _ one (commands_go image cut at cs (after_answers (step at m x)) bytes is all.1 one.sound)

-- ---- a payload

counted_goes : (image : List ℕ) (cut : Cut) (m : DeviceState) (after : Counts → Counts) → IsSound image cut m
    → Goes image cut m (with_counts after m)
counted_goes image cut m after k = made_goes image cut m _ k (same_made image cut m _ k refl refl refl refl)

room_by : (image : List ℕ) (cut : Cut) (m e : DeviceState) (n : ℕ) (b : Bool) → IsSound image cut m
    → Goes image cut m e
    → Goes image cut m (cond {A = Outcome Delivered} b (record { device = with_counts after_full m; answer = OutboxFull n })
    (record { device = e; answer = Done })).device
room_by image cut m e n true k goes = counted_goes image cut m after_full k
room_by image cut m e n false k goes = goes

-- what is read of it comes on this port
abbrev pub ReadsAs : (image : List ℕ) → Cut → (port : ℕ) → Reading → Type 0
ReadsAs image cut port (Ok cs) = AllByRecursion (ComesOn image cut port) cs
ReadsAs image cut port (Err refusal) = Unit {0}

read_goes : (image : List ℕ) (cut : Cut) (at : Arrival) (m : DeviceState) (r : Reading) → All (λ b. b < 2 ^ 8) image
    → is_image image ≡ true → ReadsAs image cut at.port r → IsSound image cut m
    → Goes image cut m (read_delivery at m r).device
unfolding read_delivery message_delivery
read_goes image cut at m (Ok cs) bytes is all k =
    room_by image cut m _ _ _ k (commands_go image cut at cs m bytes is all k)
read_goes image cut at m (Err refusal) bytes is all k = counted_goes image cut m after_refused k

heard_by : (image : List ℕ) (cut : Cut) (m : DeviceState) (o : Outcome Delivered) (b : Bool) → IsSound image cut m
    → Goes image cut m o.device
    → Goes image cut m (cond {A = Outcome Delivered} b o (record { device = with_counts after_deaf m; answer = Deaf })).device
heard_by image cut m o true k goes = goes
heard_by image cut m o false k goes = counted_goes image cut m after_deaf k

heard_goes : (image : List ℕ) (cut : Cut) (t word mark : ℕ) (down : Downlink) (m : DeviceState)
    → All (λ b. b < 2 ^ 8) image
    → is_image image ≡ true → ReadsAs image cut down.port (reading_of down.port Down down.payload)
    → IsSound image cut m
    → Goes image cut m (heard_delivery t word mark down m).device
unfolding heard_delivery
heard_goes image cut t word mark down m bytes is all k =
    heard_by image cut m _ _ k
    (read_goes image cut (arrival t word mark down m) m (reading_of down.port Down down.payload) bytes is all k)

pub delivery_goes : (image : List ℕ) (cut : Cut) (t word mark : ℕ) (down : Downlink) (d : DeviceState)
    → All (λ b. b < 2 ^ 8) image → is_image image ≡ true
    → ReadsAs image cut down.port (reading_of down.port Down down.payload) → IsSound image cut d
    → Goes image cut d (delivery t word mark down d).device
unfolding delivery
delivery_goes image cut t word mark down d bytes is all k =
    let m : DeviceState = after_due_reboot t d in
    let before = reboot_goes image cut t d k in
    let heard = heard_goes image cut t word mark down m bytes is all before.sound in
    goes_on image cut d m _ before (goes_on image cut m _ _ heard
    (reboot_goes image cut t (heard_delivery t word mark down m).device heard.sound))

-- ---- a device wakes

time_by : (image : List ℕ) (cut : Cut) (m : DeviceState)
    (one other : Outcome (Result (Unit {0}) outbox.OutboxFull)) (b : Bool)
    → Goes image cut m one.device → Goes image cut m other.device
    → Goes image cut m (cond {A = Outcome (Result (Unit {0}) outbox.OutboxFull)} b one other).device
time_by image cut m one other true k l = k
time_by image cut m one other false k l = l

asking_goes : (image : List ℕ) (cut : Cut) (t : ℕ) (m : DeviceState) → IsSound image cut m
    → Goes image cut m (time_asking t m).device
unfolding time_asking
asking_goes image cut t m k = time_by image cut m _ _ _ (record { sound = k; runs = λ r. r })
    (answers_go image cut m (asks_time t m) k (same_made image cut m m k refl refl refl refl) (
      other_port image (IsRunning image m.slots)
          (record { due = t; port = 202; payload = canonical (time_request m.clock t true) })
          (λ port. omega (arith, port)),
      tt,
    ))

pub waking_goes : (image : List ℕ) (cut : Cut) (t : ℕ) (d : DeviceState) → IsSound image cut d
    → Goes image cut d (waking t d).device
unfolding waking
waking_goes image cut t d k =
    let m : DeviceState = after_due_reboot t d in
    let before = reboot_goes image cut t d k in
    let asks = asking_goes image cut t m before.sound in
    goes_on image cut d m _ before
    (goes_on image cut m _ _ asks (reboot_goes image cut t (time_asking t m).device asks.sound))

-- its uplinks are taken
pub taken_goes : (image : List ℕ) (cut : Cut) (d e : DeviceState) → Goes image cut d e
    → Goes image cut d (record e { outbox = [] })
taken_goes image cut d e goes = record {
  sound = record { hardware = goes.sound.hardware; session = goes.sound.session; slots = goes.sound.slots; outbox = tt };
  runs = goes.runs;
}

-- a device at its start
pub first_sound : (image : List ℕ) (cut : Cut) (config : Configuration) → config.hw < 2 ^ 32
    → IsSound image cut (first_device config)
first_sound image cut config small = record {
  hardware = small;
  session = subst (λ (o : Option Session). IfSome o (IsSetFor image cut)) (sym (none_at cut.index)) tt;
  slots = record { running = inl refl; next = inl refl };
  outbox = tt;
}
