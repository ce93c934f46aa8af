-- What a payload of the server makes of a device that suits, and what its own events make of it.
use Rattle.std.proofs.Common.{◌≡◌, inl, inr, ℕ, zero, suc, ◌+◌, ◌-◌, ◌^◌, ◌<◌, nat_lt, nat_le, Bool, true, false, cond, List, [], ◌∷◌, map, length, replicate, None, Result, Ok, Err, refl, sym, ap, ◌∙◌, subst, arith}
use Rattle.std.specs.List.{AllByRecursion}
use Rattle.wire_base.specs.declared.refusal.Direction.TheVariants.{Down, Up}
use Rattle.wire_base.specs.Rows.{IsListed}
use Rattle.clock_sync.specs.Clock.{Clock, device_time}
use Rattle.image_slots.specs.Image.{image_state, firmware_of}
use Rattle.image_slots.specs.declared.view.ImageState.TheVariants as state
use Rattle.image_slots.specs.Slots.{Slots, after_swap, after_raise}
use Rattle.cast_wire.specs.declared.cmd.Cmd.TheVariants as c
use Rattle.sync_wire.specs.declared.cmd.Cmd.{Cmd as SyncCmd}
use Rattle.sync_wire.specs.declared.cmd.Cmd.TheVariants as s
use Rattle.package_grammar.specs.declared.command.Command.{Command}
use Rattle.package_grammar.specs.declared.command.Command.TheVariants.{Sync, Cast}
use Rattle.package_grammar.specs.declared.downlink.Downlink.{Downlink}
use Rattle.package_grammar.specs.Grammar.{row, canonical, SpellsTo, IsReading}
use Rattle.package_grammar.specs.Reading.{Reading, reading_of}
use Rattle.package_grammar.proofs.Tables.{cast_port}
use Rattle.package_grammar.proofs.ReadingLaw.{reads}
use Rattle.device_core.specs.declared.arrival.Arrival.{Arrival}
use Rattle.device_core.specs.declared.delivered.Delivered.{Delivered}
use Rattle.device_core.specs.declared.delivered.Delivered.TheVariants.{Deaf, OutboxFull, Done}
use Rattle.device_core.specs.declared.delivered.OutboxFull as outbox
use Rattle.device_core.specs.declared.uplink.Uplink.{Uplink}
use Rattle.device_core.specs.declared.uplink.Answer.{Answer}
use Rattle.device_core.specs.Answers.{DeviceStep, uplink_of, no_answer, one_answer, after_answers}
use Rattle.device_core.specs.Clock.{time_request, answer_step, periodicity_step, resync_step}
use Rattle.device_core.specs.ClassSessions.{hears}
use Rattle.device_core.specs.Deliver.{Outcome, message_delivery, read_delivery, arrival, heard_delivery, asks_time, time_asking, waking, delivery}
use Rattle.device_core.specs.Device.{DeviceState, with_counts, after_deaf, after_refused, after_full, outbox_size}
use Rattle.device_core.specs.Firmware.{countdown_step, is_reached, after_due_reboot, after_migration}
use Rattle.device_core.specs.Step.{command_step, acts, step, after_commands, weights}
use Rattle.campaign_server.specs.Plan.{Plan}
use Rattle.campaign_world.specs.Honest.{are_for_others}
use Rattle.campaign_laws.specs.Headline.{HasNoOther}
use Rattle.campaign_laws.specs.Ledger.{IsRunning}
use Rattle.campaign_laws.proofs.Crossing.{crossing}
use Rattle.campaign_laws.proofs.HeadlineCommands.{cut_of}
use Rattle.campaign_laws.proofs.LedgerDevices.{IsSound}
use Rattle.campaign_laws.proofs.LedgerSlots.{HasSlots}
use Rattle.exchange_laws.proofs.Backing.{Facts, IsTrue}
use Rattle.exchange_laws.proofs.Facts.{Core, core_of, HasGroup, HasIt, facts_of, Advances, TellsTrue, tells_on, IsApt, Goes, stays, goes_on, made, answered, valid_raised, swap_runs, swap_formats, raise_has}
use Rattle.exchange_laws.proofs.Commands.{one_true, Ours, AsksReboot, command_for, Needs, IsPlain, port_for, step_goes}

-- ---- a payload that is heard is deaf, refused, full, or acts

pub heard_by : (P : DeviceState → Type 0) (t word mark : ℕ) (down : Downlink) (m : DeviceState) → P (with_counts after_deaf m) → P (with_counts after_refused m)
    → P (with_counts after_full m)
    → ((cs : List Command) → reading_of down.port Down down.payload ≡ Ok cs → P (after_commands (arrival t word mark down m) m cs))
    → P (heard_delivery t word mark down m).device
unfolding heard_delivery read_delivery message_delivery
heard_by P t word mark down m deaf refused full acted = by (hears m t down.to)
  where
    at : Arrival
    at = arrival t word mark down m

    room : (cs : List Command) (b : Bool) → reading_of down.port Down down.payload ≡ Ok cs
        → P (cond {A = Outcome Delivered} b (record { device = with_counts after_full m; answer = OutboxFull (length m.outbox + weights cs) })
        (record { device = after_commands at m cs; answer = Done })).device
    room cs true read = full
    room cs false read = acted cs read

    reading : (r : Reading) → reading_of down.port Down down.payload ≡ r → P (read_delivery at m r).device
    reading (Ok cs) read = room cs (nat_lt outbox_size (length m.outbox + weights cs)) read
    reading (Err refusal) read = refused

    by : (b : Bool) → P (cond {A = Outcome Delivered} b (read_delivery at m (reading_of down.port Down down.payload)) (record { device = with_counts after_deaf m; answer = Deaf })).device
    by true = reading (reading_of down.port Down down.payload) refl
    by false = deaf

-- ---- reboots

-- none is due where none is set
pub not_due : (t : ℕ) (d : DeviceState) → d.reboot ≡ None → after_due_reboot t d ≡ d
unfolding after_due_reboot
not_due t d none = rw none refl

-- one that is asked for now is due
due_now : (now : ℕ) → now < 2 ^ 32 → is_reached now now ≡ true
due_now now few = let whole : now + (2 ^ 32 - now) ≡ 2 ^ 32 = omega (arith, few) in rw whole refl

time_few : (clock : Clock) (t : ℕ) → device_time clock t < 2 ^ 32
time_few clock t = omega arith

-- ---- one of the server's commands but the reboot

calm_goes : (image : List ℕ) (plan : Plan) (Late : Type 0) (t word mark : ℕ) (down : Downlink) (d : DeviceState) (x : Ours) → IsPlain image plan → (x ≡ AsksReboot → ⊥)
    → down.port ≡ port_for x → reading_of down.port Down down.payload ≡ Ok (command_for plan image x ∷ []) → Needs plan image Late (core_of d) x
    → IsSound image (cut_of plan) d → IsApt image plan (core_of d) → Goes image plan Late (core_of d) (core_of (delivery t word mark down d).device)
unfolding delivery after_commands
calm_goes image plan Late t word mark down d x p other port read needs sound k =
    let heard : Goes image plan Late (core_of d) (core_of (heard_delivery t word mark down d).device) =
    heard_by (λ (e : DeviceState). Goes image plan Late (core_of d) (core_of e)) t word mark down d (stays image plan Late (core_of d) k) (stays image plan Late (core_of d) k)
    (stays image plan Late (core_of d) k) acted in
    rw (not_due t d k.reboot, not_due t (heard_delivery t word mark down d).device heard.apt.reboot) heard
  where
    acted : (cs : List Command) → reading_of down.port Down down.payload ≡ Ok cs → Goes image plan Late (core_of d) (core_of (after_commands (arrival t word mark down d) d cs))
    acted cs is =
        let same : command_for plan image x ∷ [] ≡ cs = (let both : Ok (command_for plan image x ∷ []) ≡ Ok cs = sym read ∙ is in cc) in
        subst (λ (ys : List Command). Goes image plan Late (core_of d) (core_of (after_commands (arrival t word mark down d) d ys))) same
        (step_goes image plan Late (arrival t word mark down d) d x p other port needs sound k)

-- ---- the reboot

rebooted : (image : List ℕ) (plan : Plan) (Late : Type 0) (d e : DeviceState) → IsSound image (cut_of plan) d → IsApt image plan (core_of d) → HasIt image d.slots → Late
    → e.config ≡ d.config → e.groups ≡ d.groups → e.sessions ≡ d.sessions → e.slots ≡ after_swap d.slots → e.reboot ≡ None → e.outbox ≡ d.outbox
    → Goes image plan Late (core_of d) (core_of e)
rebooted image plan Late d e sound k has late config groups sessions slots reboot outbox =
    let runs : IsRunning image e.slots = subst (IsRunning image) (sym slots) (swap_runs image d.slots sound.slots has) in
    made image plan Late (core_of d) (core_of e) k (record {
      config = config;
      reboot = reboot;
      groups = ap length groups;
      known = ap (λ (x : Slots). x.formats) slots ∙ swap_formats d.slots;
      offered = λ mark whole. inr runs;
      on = record {
        grouped = λ x. subst (HasGroup plan) (sym groups) x;
        has = λ x. inr runs;
        runs = λ x. runs;
        over = λ x. rw sessions x;
      };
      back = λ x. inr late;
      outbox = outbox;
    })

-- what follows a reboot that is asked for now
reboot_due : (image : List ℕ) (plan : Plan) (Late : Type 0) (t : ℕ) (at : Arrival) (d : DeviceState) → at.moment.t ≡ t → at.port ≡ 203
    → IsSound image (cut_of plan) d → IsApt image plan (core_of d) → HasIt image d.slots → Late
    → Goes image plan Late (core_of d) (core_of (after_due_reboot t (after_answers (command_step at d (Sync (s.DevRebootCountdownReq 0))))))
unfolding command_step countdown_step after_answers after_due_reboot
reboot_due image plan Late t at d now port sound k has late =
    let new : DeviceState = record d { reboot = None; slots = after_swap d.slots } in
    let goes = rebooted image plan Late d new sound k has late refl refl refl refl refl refl in
    let told = one_true (facts_of image plan (core_of new)) image plan.index 203 at.moment.t (Sync (s.DevRebootCountdownAns 0))
    (record { fields = (omega arith, tt); whole = tt }) (record { port_is = refl; direction_is = refl }) (swap_runs image d.slots sound.slots has) in
    let due : is_reached (device_time d.clock t) (device_time d.clock at.moment.t) ≡ true =
    ap (λ (x : ℕ). is_reached (device_time d.clock t) (device_time d.clock x)) now ∙ due_now (device_time d.clock t) (time_few d.clock t) in
    rw due (answered image plan Late (core_of d) (one_answer at new (Sync (s.DevRebootCountdownAns 0))) goes (rw port (told, tt)))

reboot_goes : (image : List ℕ) (plan : Plan) (Late : Type 0) (t word mark : ℕ) (down : Downlink) (d : DeviceState)
    → down.port ≡ 203 → reading_of down.port Down down.payload ≡ Ok (Sync (s.DevRebootCountdownReq 0) ∷ []) → HasIt image d.slots → Late
    → IsSound image (cut_of plan) d → IsApt image plan (core_of d) → Goes image plan Late (core_of d) (core_of (delivery t word mark down d).device)
unfolding delivery after_commands step
reboot_goes image plan Late t word mark down d port read has late sound k =
    rw (not_due t d k.reboot) (heard_by (λ (e : DeviceState). Goes image plan Late (core_of d) (core_of (after_due_reboot t e))) t word mark down d
    (still (with_counts after_deaf d) refl) (still (with_counts after_refused d) refl) (still (with_counts after_full d) refl) acted)
  where
    -- what has no reboot set
    still : (e : DeviceState) → core_of e ≡ core_of d → Goes image plan Late (core_of d) (core_of (after_due_reboot t e))
    still e same =
        let none : e.reboot ≡ None = ap (λ (x : Core). x.reboot) same ∙ k.reboot in
        rw (not_due t e none, same) (stays image plan Late (core_of d) k)

    unacted : Goes image plan Late (core_of d) (core_of (after_due_reboot t (after_answers (no_answer d))))
    unacted =
        let e : DeviceState = after_answers (no_answer d) in
        let goes = answered image plan Late (core_of d) (no_answer d) (stays image plan Late (core_of d) k) tt in
        rw (not_due t e goes.apt.reboot) goes

    by : (b : Bool) → Goes image plan Late (core_of d) (core_of (after_due_reboot t (after_answers
        (cond {A = DeviceStep} b (command_step (arrival t word mark down d) d (Sync (s.DevRebootCountdownReq 0))) (no_answer d)))))
    by true = reboot_due image plan Late t (arrival t word mark down d) d refl port sound k has late
    by false = unacted

    acted : (cs : List Command) → reading_of down.port Down down.payload ≡ Ok cs
        → Goes image plan Late (core_of d) (core_of (after_due_reboot t (after_commands (arrival t word mark down d) d cs)))
    acted cs is =
        let same : Sync (s.DevRebootCountdownReq 0) ∷ [] ≡ cs = (let both : Ok (Sync (s.DevRebootCountdownReq 0) ∷ []) ≡ Ok cs = sym read ∙ is in cc) in
        subst (λ (ys : List Command). Goes image plan Late (core_of d) (core_of (after_due_reboot t (after_commands (arrival t word mark down d) d ys)))) same
        (by (acts (arrival t word mark down d).via (Sync (s.DevRebootCountdownReq 0))))

-- ---- any of the server's commands

pub command_goes : (image : List ℕ) (plan : Plan) (Late : Type 0) (t word mark : ℕ) (down : Downlink) (d : DeviceState) (x : Ours) → IsPlain image plan
    → down.port ≡ port_for x → reading_of down.port Down down.payload ≡ Ok (command_for plan image x ∷ []) → Needs plan image Late (core_of d) x
    → IsSound image (cut_of plan) d → IsApt image plan (core_of d) → Goes image plan Late (core_of d) (core_of (delivery t word mark down d).device)
command_goes image plan Late t word mark down d AsksReboot p port read needs sound k = reboot_goes image plan Late t word mark down d port read needs.0 needs.1 sound k
command_goes image plan Late t word mark down d x p port read needs sound k = calm_goes image plan Late t word mark down d x p (λ e. cc) port read needs sound k

-- ---- what comes on the port of clock synchronization

-- a command that is none of firmware management
abbrev IsTimely : Command → Type 0
IsTimely (Sync s.DevVersionReq) = ⊥
IsTimely (Sync s.DevUpgradeImageReq) = ⊥
IsTimely (Sync (s.DevDeleteImageReq version)) = ⊥
IsTimely (Sync (s.DevRebootTimeReq time)) = ⊥
IsTimely (Sync (s.DevRebootCountdownReq count)) = ⊥
IsTimely (Sync cmd) = Unit {0}
IsTimely (Cast cmd) = ⊥

timely_sync : (cmd : SyncCmd) → IsListed (row (Sync cmd)) 202 Down → IsTimely (Sync cmd)
timely_sync s.DevVersionReq listed = absurd (omega (arith, listed.port_is))
timely_sync s.DevUpgradeImageReq listed = absurd (omega (arith, listed.port_is))
timely_sync (s.DevDeleteImageReq version) listed = absurd (omega (arith, listed.port_is))
timely_sync (s.DevRebootTimeReq time) listed = absurd (omega (arith, listed.port_is))
timely_sync (s.DevRebootCountdownReq count) listed = absurd (omega (arith, listed.port_is))
timely_sync cmd listed = tt

timely : (x : Command) → IsListed (row x) 202 Down → IsTimely x
timely (Sync cmd) listed = timely_sync cmd listed
timely (Cast cmd) listed = absurd (let low = (cast_port cmd 202 Down listed).1 in omega (arith, low))

all_timely : (cs : List Command) (bytes : List ℕ) (from end : ℕ) → SpellsTo cs 202 Down bytes from end → AllByRecursion IsTimely cs
all_timely [] bytes from end all = tt
all_timely (x ∷ cs) bytes from end all = (timely x all.1.listed, all_timely cs bytes all.0 end all.2)

-- an uplink on that port tells nothing that has to be true
spelled_true : (f : Facts) (image : List ℕ) (index : ℕ) (x : Command) → IsListed (row x) 202 Up → IsTrue f image index x
spelled_true f image index (Sync (s.DevVersionAns firmware hardware)) listed = absurd (omega (arith, listed.port_is))
spelled_true f image index (Sync (s.DevUpgradeImageAns status next)) listed = absurd (omega (arith, listed.port_is))
spelled_true f image index (Sync (s.DevRebootCountdownAns count)) listed = absurd (omega (arith, listed.port_is))
spelled_true f image index (Cast (c.McGroupSetupAns id error)) listed = absurd (omega (arith, listed.port_is))
spelled_true f image index (Cast (c.FragSessionSetupAns at d u m e)) listed = absurd (omega (arith, listed.port_is))
spelled_true f image index (Cast (c.McClassCSessionAns id undefined freq dr start)) listed = absurd (omega (arith, listed.port_is))
spelled_true f image index (Cast (c.McClassBSessionAns id undefined freq dr start)) listed = absurd (omega (arith, listed.port_is))
spelled_true f image index (Cast (c.FragSessionStatusAns at received missing norows)) listed = absurd (omega (arith, listed.port_is))
spelled_true f image index x listed = tt

all_spelled : (f : Facts) (image : List ℕ) (index : ℕ) (cs : List Command) (bytes : List ℕ) (from end : ℕ) → SpellsTo cs 202 Up bytes from end
    → AllByRecursion (IsTrue f image index) cs
all_spelled f image index [] bytes from end all = tt
all_spelled f image index (x ∷ cs) bytes from end all = (spelled_true f image index x all.1.listed, all_spelled f image index cs bytes all.0 end all.2)

far_true : (f : Facts) (image : List ℕ) (index : ℕ) (u : Uplink) → u.port ≡ 202 → TellsTrue f image index u
far_true f image index u port cs read =
    let message : IsReading 202 Up u.payload (Ok cs) =
    subst (IsReading 202 Up u.payload) (ap (λ (p : ℕ). reading_of p Up u.payload) (sym port) ∙ read) (reads 202 Up u.payload) in
    all_spelled f image index cs u.payload 0 (length u.payload) message.all

all_far : (f : Facts) (image : List ℕ) (index : ℕ) (answers : List Answer) → AllByRecursion (λ (a : Answer). a.port ≡ 202) answers
    → AllByRecursion (TellsTrue f image index) (map uplink_of answers)
all_far f image index [] all = tt
all_far f image index (a ∷ answers) all = (far_true f image index (uplink_of a) all.0, all_far f image index answers all.1)

replicated : (n : ℕ) (answer : Answer) → answer.port ≡ 202 → AllByRecursion (λ (a : Answer). a.port ≡ 202) (replicate n answer)
replicated zero answer is = tt
replicated (suc n) answer is = (is, replicated n answer is)

timely_answers : (at : Arrival) (m : DeviceState) (cmd : SyncCmd) → at.port ≡ 202 → IsTimely (Sync cmd)
    → AllByRecursion (λ (a : Answer). a.port ≡ 202) (command_step at m (Sync cmd)).answers
unfolding command_step answer_step periodicity_step resync_step
timely_answers at m s.DevVersionReq port is = absurd is
timely_answers at m s.DevUpgradeImageReq port is = absurd is
timely_answers at m (s.DevDeleteImageReq version) port is = absurd is
timely_answers at m (s.DevRebootTimeReq time) port is = absurd is
timely_answers at m (s.DevRebootCountdownReq count) port is = absurd is
timely_answers at m s.PackageVersionReq port is = (port, tt)
timely_answers at m (s.DeviceAppTimePeriodicityReq period) port is = (port, tt)
timely_answers at m (s.ForceDeviceResyncReq count) port is = replicated count _ port
timely_answers at m cmd port is = tt

timely_stays : (image : List ℕ) (plan : Plan) (Late : Type 0) (at : Arrival) (m : DeviceState) (cmd : SyncCmd) → IsTimely (Sync cmd) → IsApt image plan (core_of m)
    → Goes image plan Late (core_of m) (core_of (command_step at m (Sync cmd)).device)
unfolding command_step answer_step periodicity_step resync_step
timely_stays image plan Late at m s.DevVersionReq is k = absurd is
timely_stays image plan Late at m s.DevUpgradeImageReq is k = absurd is
timely_stays image plan Late at m (s.DevDeleteImageReq version) is k = absurd is
timely_stays image plan Late at m (s.DevRebootTimeReq time) is k = absurd is
timely_stays image plan Late at m (s.DevRebootCountdownReq count) is k = absurd is
timely_stays image plan Late at m cmd is k = stays image plan Late (core_of m) k

timely_step : (image : List ℕ) (plan : Plan) (Late : Type 0) (at : Arrival) (m : DeviceState) (x : Command) → at.port ≡ 202 → IsTimely x → IsApt image plan (core_of m)
    → Goes image plan Late (core_of m) (core_of (after_answers (step at m x)))
unfolding step
timely_step image plan Late at m (Cast cmd) port is k = absurd is
timely_step image plan Late at m (Sync cmd) port is k = by (acts at.via (Sync cmd))
  where
    by : (b : Bool) → Goes image plan Late (core_of m) (core_of (after_answers (cond {A = DeviceStep} b (command_step at m (Sync cmd)) (no_answer m))))
    by true =
        answered image plan Late (core_of m) (command_step at m (Sync cmd)) (timely_stays image plan Late at m cmd is k)
        (all_far (facts_of image plan (core_of (command_step at m (Sync cmd)).device)) image plan.index (command_step at m (Sync cmd)).answers (timely_answers at m cmd port is))
    by false = answered image plan Late (core_of m) (no_answer m) (stays image plan Late (core_of m) k) tt

timely_commands : (image : List ℕ) (plan : Plan) (Late : Type 0) (at : Arrival) (m : DeviceState) (cs : List Command) → at.port ≡ 202 → AllByRecursion IsTimely cs
    → IsApt image plan (core_of m) → Goes image plan Late (core_of m) (core_of (after_commands at m cs))
unfolding after_commands
timely_commands image plan Late at m [] port all k = stays image plan Late (core_of m) k
timely_commands image plan Late at m (x ∷ cs) port all k =
    let one = timely_step image plan Late at m x port all.0 k in
    goes_on image plan Late (core_of m) (core_of (after_answers (step at m x))) _ one (timely_commands image plan Late at (after_answers (step at m x)) cs port all.1 one.apt)

pub timely_goes : (image : List ℕ) (plan : Plan) (Late : Type 0) (t word mark : ℕ) (down : Downlink) (d : DeviceState) → down.port ≡ 202
    → IsApt image plan (core_of d) → Goes image plan Late (core_of d) (core_of (delivery t word mark down d).device)
unfolding delivery
timely_goes image plan Late t word mark down d port k =
    let heard : Goes image plan Late (core_of d) (core_of (heard_delivery t word mark down d).device) =
    heard_by (λ (e : DeviceState). Goes image plan Late (core_of d) (core_of e)) t word mark down d (stays image plan Late (core_of d) k) (stays image plan Late (core_of d) k)
    (stays image plan Late (core_of d) k)
    (λ cs is. timely_commands image plan Late (arrival t word mark down d) d cs port
    (let message : IsReading 202 Down down.payload (Ok cs) =
    subst (IsReading 202 Down down.payload) (ap (λ (p : ℕ). reading_of p Down down.payload) (sym port) ∙ is) (reads 202 Down down.payload) in
    all_timely cs down.payload 0 (length down.payload) message.all) k) in
    rw (not_due t d k.reboot, not_due t (heard_delivery t word mark down d).device heard.apt.reboot) heard

-- ---- what another campaign sent

like : (image : List ℕ) (plan : Plan) (Late : Type 0) (d e : DeviceState) → core_of e ≡ core_of d → IsApt image plan (core_of d) → Goes image plan Late (core_of d) (core_of e)
like image plan Late d e same k = subst (Goes image plan Late (core_of d)) (sym same) (stays image plan Late (core_of d) k)

pub crossed_goes : (image : List ℕ) (plan : Plan) (Late : Type 0) (own t word mark : ℕ) (down : Downlink) (d : DeviceState)
    → are_for_others own (reading_of down.port Down down.payload) ≡ true → HasNoOther own d.sessions → IsApt image plan (core_of d)
    → Goes image plan Late (core_of d) (core_of (delivery t word mark down d).device)
unfolding delivery
crossed_goes image plan Late own t word mark down d other alone k =
    let m : DeviceState = after_due_reboot t d in
    let e : DeviceState = (heard_delivery t word mark down m).device in
    let same : core_of e ≡ core_of d = sym (ap core_of (crossing own t word mark down d other alone)) ∙ ap core_of (not_due t d k.reboot) in
    let goes = like image plan Late d e same k in
    rw (not_due t e goes.apt.reboot) goes

-- ---- it wakes, or learns a format

pub woken_goes : (image : List ℕ) (plan : Plan) (Late : Type 0) (t : ℕ) (d : DeviceState) → IsApt image plan (core_of d)
    → Goes image plan Late (core_of d) (core_of (waking t d).device)
unfolding waking time_asking
woken_goes image plan Late t d k =
    let asked : Goes image plan Late (core_of d) (core_of (time_asking t d).device) = by (nat_le outbox_size (length d.outbox)) in
    rw (not_due t d k.reboot, not_due t (time_asking t d).device asked.apt.reboot) asked
  where
    by : (b : Bool) → Goes image plan Late (core_of d) (core_of (cond {A = Outcome (Result (Unit {0}) outbox.OutboxFull)} b (record { device = d; answer = Err (record {}) })
        (record { device = after_answers (asks_time t d); answer = Ok tt })).device)
    by true = stays image plan Late (core_of d) k
    by false = answered image plan Late (core_of d) (asks_time t d) (stays image plan Late (core_of d) k)
        (far_true (facts_of image plan (core_of d)) image plan.index (record { due = t; port = 202; payload = canonical (time_request d.clock t true) }) refl, tt)

raised_formats : (image : List ℕ) (hw : ℕ) (slots : Slots) → image_state image hw slots.formats ≡ state.Valid (firmware_of image)
    → image_state image hw (after_raise hw slots).formats ≡ state.Valid (firmware_of image)
unfolding after_raise
raised_formats image hw slots known = valid_raised image hw slots.formats known

raised_runs : (image : List ℕ) (hw : ℕ) (slots : Slots) → IsRunning image slots → IsRunning image (after_raise hw slots)
unfolding after_raise
raised_runs image hw slots r = record { version = r.version; bytes = r.bytes }

unraised : (image : List ℕ) (hw : ℕ) (slots : Slots) → IsRunning image (after_raise hw slots) → IsRunning image slots
unfolding after_raise
unraised image hw slots r = record { version = r.version; bytes = r.bytes }

pub migrated_goes : (image : List ℕ) (plan : Plan) (Late : Type 0) (d : DeviceState) → HasSlots image d.slots → IsApt image plan (core_of d)
    → Goes image plan Late (core_of d) (core_of (after_migration d))
unfolding after_migration
migrated_goes image plan Late d slots k =
    let known = valid_raised image d.config.hw d.slots.formats k.known in
    let has : HasIt image d.slots → HasIt image (after_raise d.config.hw d.slots) = raise_has image d.config.hw d.slots slots known in
    let on : Advances (facts_of image plan (core_of d)) (facts_of image plan (core_of (after_migration d))) =
    record { grouped = λ x. x; has = has; runs = raised_runs image d.config.hw d.slots; over = λ x. x } in
    record {
      apt = record {
        fits = k.fits;
        reboot = k.reboot;
        groups = k.groups;
        known = raised_formats image d.config.hw d.slots k.known;
        offered = λ mark whole. has (k.offered mark whole);
        told = tells_on (facts_of image plan (core_of d)) (facts_of image plan (core_of (after_migration d))) image plan.index d.outbox on k.told;
      };
      on = on;
      back = λ r. inl (unraised image d.config.hw d.slots r);
    }
