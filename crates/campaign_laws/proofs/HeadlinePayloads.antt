-- What a payload of the server makes of a device's sessions.
use Rattle.std.proofs.Common.{◌≡◌, ◌⊎◌, inl, inr, ℕ, ◌+◌, ◌^◌, ◌<◌, ◌≤◌, Bool, true, false, cond, nat_lt, List, [], ◌∷◌, length, All, Option, is_none, option_map, Ok, Err, refl, sym, ap, ◌∙◌, subst, arith, le-ltb}
use Rattle.std.specs.List.{AllByRecursion}
use Rattle.wire_base.specs.declared.refusal.Direction.TheVariants.{Down}
use Rattle.wire_base.specs.Rows.{IsListed}
use Rattle.frag_encoder.specs.Encoding.{data_of}
use Rattle.frag_session.specs.declared.answers.Via.{Via}
use Rattle.frag_session.specs.declared.answers.Via.TheVariants as via
use Rattle.frag_session.specs.Session.{Session, after_setup, followed, after_fragment, drop_cause}
use Rattle.cast_wire.specs.declared.cmd.Cmd.{Cmd as CastCmd}
use Rattle.cast_wire.specs.declared.cmd.Cmd.TheVariants as c
use Rattle.cast_wire.specs.declared.cmd.Cmd.TheVariants.{FragSessionStatusReq, DataFragment}
use Rattle.sync_wire.specs.declared.cmd.Cmd.{Cmd as SyncCmd}
use Rattle.sync_wire.specs.declared.cmd.Cmd.TheVariants as s
use Rattle.package_grammar.specs.declared.command.Command.{Command}
use Rattle.package_grammar.specs.declared.command.Command.TheVariants.{Sync, Cast}
use Rattle.package_grammar.specs.declared.downlink.Downlink.{Downlink}
use Rattle.package_grammar.specs.declared.downlink.To.{To}
use Rattle.package_grammar.specs.declared.downlink.To.TheVariants.{Unicast}
use Rattle.package_grammar.specs.Grammar.{row, canonical, SpellsTo, IsReading}
use Rattle.package_grammar.specs.Reading.{Reading, reading_of}
use Rattle.package_grammar.proofs.Tables.{cast_port}
use Rattle.package_grammar.proofs.ReadingLaw.{reads}
use Rattle.device_core.specs.Configuration.{Configuration}
use Rattle.device_core.specs.declared.arrival.Arrival.{Arrival}
use Rattle.device_core.specs.declared.delivered.Delivered.{Delivered}
use Rattle.device_core.specs.declared.delivered.Delivered.TheVariants.{Deaf, OutboxFull, Done}
use Rattle.device_core.specs.SessionTable.{session_at, with_session}
use Rattle.device_core.specs.declared.uplink.Uplink.{Uplink}
use Rattle.device_core.specs.Device.{DeviceState, room_of, limits_of, with_counts, after_deaf, after_full, after_dropped}
use Rattle.device_core.specs.Answers.{DeviceStep, after_answers}
use Rattle.device_core.specs.Clock.{answer_step, periodicity_step, resync_step}
use Rattle.device_core.specs.ClassSessions.{class_session_step, hears}
use Rattle.device_core.specs.Groups.{groups_step, group_setup_step, group_delete_step}
use Rattle.device_core.specs.Firmware.{version_step, upgrade_step, delete_image_step, reboot_time_step, countdown_step, after_due_reboot}
use Rattle.device_core.specs.Fragments.{setup_step, status_step, heard_step, fragment_step}
use Rattle.device_core.specs.Step.{command_step, acts, step, after_commands, weight, weights}
use Rattle.device_core.proofs.Stays.{Moves, Stays, stays_on, reboot_keeps, between, still_between}
use Rattle.campaign_laws.proofs.OwnSession.{put_back}
use Rattle.device_core.specs.Deliver.{Outcome, message_delivery, read_delivery, via_of, arrival, heard_delivery, delivery}
use Rattle.device_core.proofs.Acting.{fragment_acts}
use Rattle.campaign_server.specs.Server.{DownlinkCommand, port_of, downlink_of}
use Rattle.campaign_laws.proofs.HeadlineCommands.{Cut, setup_req, setup_request, fragment_command, IsElsewhere, IsOther, IsNumber, IsSentOf, IsCut, IsGood, setup_good, fragment_good, status_good, sync_high, good_read}

-- ---- what a device becomes

abbrev pub set_up : (image : List ℕ) → Cut → Configuration → Option Session → Option Session
set_up image cut config session = after_setup (limits_of config) (room_of config) session (setup_req image cut)

abbrev pub fed : Via → (n : ℕ) → List ℕ → (mark : ℕ) → Configuration → Option Session → Option Session
fed way n part mark config session = after_fragment session way n part mark

-- ---- a payload is read

-- a device that does not hear a payload counts it
deaf_stays : (t word mark : ℕ) (down : Downlink) (m : DeviceState) → hears m t down.to ≡ false
    → Stays m (heard_delivery t word mark down m).device
unfolding heard_delivery
deaf_stays t word mark down m off = subst (λ (b : Bool). Stays m (cond {A = Outcome Delivered} b
    (read_delivery (arrival t word mark down m) m (reading_of down.port Down down.payload))
    (record { device = with_counts after_deaf m; answer = Deaf })).device) (sym off)
    (record { config = refl; sessions = refl })

heard_reads : (t word mark : ℕ) (down : Downlink) (m : DeviceState) → hears m t down.to ≡ true
    → heard_delivery t word mark down m
    ≡ read_delivery (arrival t word mark down m) m (reading_of down.port Down down.payload)
unfolding heard_delivery
heard_reads t word mark down m on = ap (λ (b : Bool). cond {A = Outcome Delivered} b
    (read_delivery (arrival t word mark down m) m (reading_of down.port Down down.payload))
    (record { device = with_counts after_deaf m; answer = Deaf })) on

-- a single command that makes one uplink at most acts
one_acts : (at : Arrival) (m : DeviceState) (c : Command) → m.outbox ≡ [] → weight c ≤ 1 → acts at.via c ≡ true
    → (read_delivery at m (Ok (c ∷ []))).device ≡ after_answers (command_step at m c)
unfolding read_delivery message_delivery after_commands step
one_acts at m c empty light does =
    let none : length m.outbox ≡ 0 = ap length empty in
    let few : nat_lt 8 (length m.outbox + weights (c ∷ [])) ≡ false = le-ltb _ _ (omega (arith, none, light)) in
    rw (few, does) refl

answers_move : (P : DeviceState → Type 0) (m : DeviceState) (made : DeviceStep)
    → ((e : DeviceState) (due : Option ℕ) (uplinks : List Uplink) → P e → P (record e { last_due = due; outbox = uplinks }))
    → P made.device → P (after_answers made)
unfolding after_answers
answers_move P m made keeps k = keeps made.device (after_answers made).last_due (after_answers made).outbox k

abbrev pub sent_as : To → Command → Downlink
sent_as to c = downlink_of (record { to = to; command = c })

-- what the command makes is what the payload makes
good_moves : (P : DeviceState → Type 0) (t word mark : ℕ) (to : To) (m : DeviceState)
    (c : Command) → ((e : DeviceState) (due : Option ℕ) (uplinks : List Uplink) → P e → P (record e { last_due = due; outbox = uplinks }))
    → IsGood c → weight c ≤ 1 → acts (via_of m.class_session to) c ≡ true
    → P (command_step (arrival t word mark (sent_as to c) m) m c).device → m.outbox ≡ [] → hears m t to ≡ true
    → P (heard_delivery t word mark (sent_as to c) m).device
good_moves P t word mark to m c keeps good light does makes empty on =
    let at : Arrival = arrival t word mark (sent_as to c) m in
    let whole : (heard_delivery t word mark (sent_as to c) m).device ≡ after_answers (command_step at m c) =
    ap (λ (o : Outcome Delivered). o.device) (heard_reads t word mark (sent_as to c) m on)
    ∙ ap (λ (p : ℕ). (read_delivery at m (reading_of p Down (canonical c))).device) good.port
    ∙ ap (λ (r : Reading). (read_delivery at m r).device) (good_read c good)
    ∙ one_acts at m c empty light does
    in subst P (sym whole) (answers_move P m (command_step at m c) keeps makes)

-- ---- each command

moves_keep : (index : ℕ) (F : Configuration → Option Session → Option Session) (m e : DeviceState) (due : Option ℕ) (uplinks : List Uplink)
    → Moves index F m e → Moves index F m (record e { last_due = due; outbox = uplinks })
moves_keep index F m e due uplinks k = record { config = k.config; sessions = k.sessions }

stays_keep : (m e : DeviceState) (due : Option ℕ) (uplinks : List Uplink) → Stays m e → Stays m (record e { last_due = due; outbox = uplinks })
stays_keep m e due uplinks k = record { config = k.config; sessions = k.sessions }

setup_moves : (image : List ℕ) (cut : Cut) (at : Arrival) (m : DeviceState)
    → Moves cut.index (set_up image cut) m (command_step at m (setup_request image cut)).device
unfolding command_step setup_step
setup_moves image cut at m = record { config = refl; sessions = refl }

-- a fragment that is dropped leaves the session what it is
dropped_same : (session : Option Session) (way : Via) (n : ℕ) (part : List ℕ) (mark : ℕ)
    → is_none (drop_cause session way n part) ≡ false
    → after_fragment session way n part mark ≡ session
unfolding after_fragment
dropped_same session way n part mark is =
    ap (λ (b : Bool). cond b (option_map (λ x. followed x n part mark) session) session) is

fragment_by : (at : Arrival) (index n : ℕ) (part : List ℕ) (m : DeviceState) (b : Bool)
    → is_none (drop_cause (session_at m.sessions index) at.via n part) ≡ b
    → Moves index (fed at.via n part at.moment.mark) m (cond b (heard_step at m index n part) (with_counts after_dropped m))
unfolding heard_step
fragment_by at index n part m true is = record { config = refl; sessions = refl }
fragment_by at index n part m false is = record {
  config = refl;
  sessions = sym (put_back m.sessions index)
      ∙ ap (λ (session : Option Session). with_session m.sessions index session)
      (sym (dropped_same (session_at m.sessions index) at.via n part at.moment.mark is));
}

fragment_moves : (at : Arrival) (index n : ℕ) (part : List ℕ) (m : DeviceState)
    → Moves index (fed at.via n part at.moment.mark) m (command_step at m (Cast (DataFragment index n part))).device
unfolding command_step fragment_step
fragment_moves at index n part m = fragment_by at index n part m _ refl

status_stays : (at : Arrival) (m : DeviceState) (index : ℕ) (all : Bool)
    → Stays m (command_step at m (Cast (FragSessionStatusReq index all))).device
unfolding command_step status_step
status_stays at m index all = record { config = refl; sessions = refl }

-- it acts by a group too
pub status_acts : (way : Via) (index : ℕ) (all : Bool) → acts way (Cast (FragSessionStatusReq index all)) ≡ true
status_acts via.Unicast index all = refl
status_acts (via.Group g) index all = refl

-- ---- payloads of other ports

sync_stays : (at : Arrival) (m : DeviceState) (cmd : SyncCmd) → Stays m (command_step at m (Sync cmd)).device
unfolding command_step answer_step periodicity_step resync_step version_step upgrade_step delete_image_step
    reboot_time_step countdown_step
sync_stays at m s.PackageVersionReq = record { config = refl; sessions = refl }
sync_stays at m (s.AppTimeAns correction token) = record { config = refl; sessions = refl }
sync_stays at m cmd = record { config = refl; sessions = refl }

step_by : (m : DeviceState) (b : Bool) (one other : DeviceStep) → Stays m one.device → Stays m other.device
    → Stays m (cond {A = DeviceStep} b one other).device
step_by m true one other k l = k
step_by m false one other k l = l

cast_stays : (at : Arrival) (m : DeviceState) (cmd : CastCmd) → IsListed (row (Cast cmd)) 200 Down
    → Stays m (command_step at m (Cast cmd)).device
unfolding command_step groups_step group_setup_step group_delete_step class_session_step
cast_stays at m c.PackageVersionReq listed = record { config = refl; sessions = refl }
cast_stays at m (c.McGroupStatusReq mask) listed = record { config = refl; sessions = refl }
cast_stays at m (c.McGroupSetupReq id addr key min max) listed =
    step_by m _ _ _ (record { config = refl; sessions = refl }) (record { config = refl; sessions = refl })
cast_stays at m (c.McGroupDeleteReq id) listed =
    step_by m _ _ _ (record { config = refl; sessions = refl }) (record { config = refl; sessions = refl })
cast_stays at m (c.McClassCSessionReq id time timeout freq dr) listed = record { config = refl; sessions = refl }
cast_stays at m (c.McClassBSessionReq id time periodicity timeout freq dr) listed =
    record { config = refl; sessions = refl }
cast_stays at m (c.FragSessionStatusReq index all) listed = absurd (omega (arith, listed.port_is))
cast_stays at m (c.FragSessionSetupReq index mask nb_frag frag_size algo delay padding descriptor) listed =
    absurd (omega (arith, listed.port_is))
cast_stays at m (c.FragSessionDeleteReq index) listed = absurd (omega (arith, listed.port_is))
cast_stays at m (c.DataFragment index n part) listed = absurd (omega (arith, listed.port_is))
cast_stays at m cmd listed = record { config = refl; sessions = refl }

-- a command that no port of fragments lists
abbrev IsFar : Command → Type 0
IsFar x = ((cmd : SyncCmd) × (x ≡ Sync cmd)) ⊎ ((cmd : CastCmd) × (x ≡ Cast cmd) × IsListed (row (Cast cmd)) 200 Down)

far_stays : (at : Arrival) (m : DeviceState) (x : Command) → IsFar x → Stays m (command_step at m x).device
far_stays at m x (inl is) =
    subst (λ (y : Command). Stays m (command_step at m y).device) (sym is.1) (sync_stays at m is.0)
far_stays at m x (inr is) =
    subst (λ (y : Command). Stays m (command_step at m y).device) (sym is.1) (cast_stays at m is.0 is.2)

abbrev IsFarPort : ℕ → Type 0
IsFarPort port = (port ≡ 200) ⊎ (202 ≤ port)

far_cast : (cmd : CastCmd) (port : ℕ) → IsFarPort port → IsListed (row (Cast cmd)) port Down → IsFar (Cast cmd)
far_cast cmd port (inl is) listed =
    inr (cmd, refl, subst (λ (p : ℕ). IsListed (row (Cast cmd)) p Down) is listed)
far_cast cmd port (inr high) listed = absurd (omega (arith, (cast_port cmd port Down listed).1, high))

all_far : (cs : List Command) (port : ℕ) (bytes : List ℕ) (from end : ℕ) → IsFarPort port
    → SpellsTo cs port Down bytes from end → AllByRecursion IsFar cs
all_far [] port bytes from end far all = tt
all_far (Sync cmd ∷ cs) port bytes from end far all =
    (inl (cmd, refl), all_far cs port bytes all.0 end far all.2)
all_far (Cast cmd ∷ cs) port bytes from end far all =
    (far_cast cmd port far all.1.listed, all_far cs port bytes all.0 end far all.2)

acted_stays : (at : Arrival) (m : DeviceState) (x : Command) → IsFar x → Stays m (after_answers (step at m x))
unfolding after_answers step
acted_stays at m x is =
    let k = step_by m (acts at.via x) (command_step at m x) (record { device = m; answers = [] }) (far_stays at m x is)
    (record { config = refl; sessions = refl }) in
    record { config = k.config; sessions = k.sessions }

commands_stay : (at : Arrival) (cs : List Command) (m : DeviceState) → AllByRecursion IsFar cs
    → Stays m (after_commands at m cs)
unfolding after_commands
commands_stay at [] m all = record { config = refl; sessions = refl }
commands_stay at (x ∷ cs) m all =
    stays_on m _ _ (acted_stays at m x all.0) (commands_stay at cs (after_answers (step at m x)) all.1)

room_by : (m e : DeviceState) (n : ℕ) (b : Bool) → Stays m e
    → Stays m (cond {A = Outcome Delivered} b (record { device = with_counts after_full m; answer = OutboxFull n })
    (record { device = e; answer = Done })).device
room_by m e n true k = record { config = refl; sessions = refl }
room_by m e n false k = k

read_stays : (at : Arrival) (m : DeviceState) (port : ℕ) (payload : List ℕ) (r : Reading) → IsFarPort port
    → IsReading port Down payload r → Stays m (read_delivery at m r).device
unfolding read_delivery message_delivery
read_stays at m port payload (Ok cs) far message =
    room_by m _ _ _ (commands_stay at cs m (all_far cs port payload 0 (length payload) far message.all))
read_stays at m port payload (Err refusal) far stop = record { config = refl; sessions = refl }

far_port : (x : Command) → IsElsewhere x → IsFarPort (port_of x)
far_port x (inl is) = inl is
far_port x (inr is) = inr (subst (λ (y : Command). 202 ≤ port_of y) (sym is.1) (sync_high is.0))

far_moves : (t word mark : ℕ) (to : To) (m : DeviceState) (x : Command) → IsElsewhere x → hears m t to ≡ true
    → Stays m (heard_delivery t word mark (sent_as to x) m).device
far_moves t word mark to m x is on =
    subst (λ (o : Outcome Delivered). Stays m o.device) (sym (heard_reads t word mark (sent_as to x) m on))
    (read_stays (arrival t word mark (sent_as to x) m) m (port_of x) (canonical x)
    (reading_of (port_of x) Down (canonical x)) (far_port x is) (reads (port_of x) Down (canonical x)))

-- ---- what a sent command makes of a device

-- the device that a payload comes to: after a reboot that is due
abbrev pub comes_to : (t : ℕ) → DeviceState → DeviceState
comes_to t d = after_due_reboot t d

abbrev pub way_of : (t : ℕ) → DeviceState → To → Via
way_of t d to = via_of (comes_to t d).class_session to

-- what is heard of it
abbrev pub Hears : (image : List ℕ) → Cut → Via → (mark : ℕ) → (d e : DeviceState) → DownlinkCommand → Type 0
Hears image cut way mark d e down =
    ((down.command ≡ setup_request image cut) × (down.to ≡ Unicast) × Moves cut.index (set_up image cut) d e)
    ⊎ (((n : ℕ) × IsNumber image cut.size n × (down.command ≡ fragment_command image cut n)
    × Moves cut.index (fed way n (data_of image cut.size n) mark) d e)
    ⊎ (IsOther cut down.command × Stays d e))

abbrev pub Acts : (image : List ℕ) → Cut → (t mark : ℕ) → (d e : DeviceState) → DownlinkCommand → Type 0
Acts image cut t mark d e down =
    ((hears (comes_to t d) t down.to ≡ false) × Stays d e)
    ⊎ ((hears (comes_to t d) t down.to ≡ true) × Hears image cut (way_of t d down.to) mark d e down)

-- the device after the delivery, its uplinks taken
abbrev behind : (t word mark : ℕ) → Downlink → DeviceState → DeviceState
behind t word mark down d = record (delivery t word mark down d).device { outbox = [] }

lands : (index : ℕ) (F : Configuration → Option Session → Option Session) (t word mark : ℕ) (down : Downlink) (d : DeviceState)
    → Moves index F (comes_to t d) (heard_delivery t word mark down (comes_to t d)).device
    → Moves index F d (behind t word mark down d)
unfolding delivery
lands index F t word mark down d h = between index F t d (heard_delivery t word mark down (comes_to t d)) h

rests : (t word mark : ℕ) (down : Downlink) (d : DeviceState)
    → Stays (comes_to t d) (heard_delivery t word mark down (comes_to t d)).device → Stays d (behind t word mark down d)
unfolding delivery
rests t word mark down d h = still_between t d (heard_delivery t word mark down (comes_to t d)) h

empty_then : (t : ℕ) (d : DeviceState) → d.outbox ≡ [] → (comes_to t d).outbox ≡ []
empty_then t d empty = (reboot_keeps t d).outbox ∙ empty

setup_heard : (image : List ℕ) (cut : Cut) (t word mark : ℕ) (d : DeviceState) (to : To) (x : Command)
    → All (λ b. b < 2 ^ 8) image → IsCut image cut → x ≡ setup_request image cut → to ≡ Unicast → d.outbox ≡ []
    → hears (comes_to t d) t to ≡ true
    → Moves cut.index (set_up image cut) d (behind t word mark (sent_as to x) d)
setup_heard image cut t word mark d to x bytes is command way empty on =
    let m : DeviceState = comes_to t d in
    let F = set_up image cut in
    subst (λ (y : Command). Moves cut.index F d (behind t word mark (sent_as to y) d)) (sym command)
    (lands cut.index F t word mark (sent_as to (setup_request image cut)) d
    (good_moves (Moves cut.index F m) t word mark to m (setup_request image cut) (moves_keep cut.index F m)
    (setup_good image cut bytes is)
    (omega arith) (ap (λ (w : To). acts (via_of m.class_session w) (setup_request image cut)) way)
    (setup_moves image cut (arrival t word mark (sent_as to (setup_request image cut)) m) m) (empty_then t d empty) on))

fragment_heard : (image : List ℕ) (cut : Cut) (t word mark : ℕ) (d : DeviceState) (to : To) (x : Command) (n : ℕ)
    → IsCut image cut → IsNumber image cut.size n → x ≡ fragment_command image cut n → d.outbox ≡ []
    → hears (comes_to t d) t to ≡ true
    → Moves cut.index (fed (way_of t d to) n (data_of image cut.size n) mark) d (behind t word mark (sent_as to x) d)
fragment_heard image cut t word mark d to x n is number command empty on =
    let m : DeviceState = comes_to t d in
    let part : List ℕ = data_of image cut.size n in
    let F = fed (way_of t d to) n part mark in
    let sent : Command = fragment_command image cut n in
    subst (λ (y : Command). Moves cut.index F d (behind t word mark (sent_as to y) d)) (sym command)
    (lands cut.index F t word mark (sent_as to sent) d
    (good_moves (Moves cut.index F m) t word mark to m sent (moves_keep cut.index F m) (fragment_good image cut n is number)
    (omega arith) (fragment_acts (way_of t d to) cut.index n part)
    (fragment_moves (arrival t word mark (sent_as to sent) m) cut.index n part m)
    (empty_then t d empty) on))

other_heard : (image : List ℕ) (cut : Cut) (t word mark : ℕ) (d : DeviceState) (to : To) (x : Command) → IsCut image cut
    → IsOther cut x → d.outbox ≡ []
    → hears (comes_to t d) t to ≡ true → Stays d (behind t word mark (sent_as to x) d)
other_heard image cut t word mark d to x is (inl o) empty on =
    let m : DeviceState = comes_to t d in
    let sent : Command = Cast (FragSessionStatusReq cut.index o.0) in
    subst (λ (y : Command). Stays d (behind t word mark (sent_as to y) d)) (sym o.1)
    (rests t word mark (sent_as to sent) d
    (good_moves (Stays m) t word mark to m sent (stays_keep m) (status_good cut.index o.0 is.indexed) (omega arith)
    (status_acts (way_of t d to) cut.index o.0)
    (status_stays (arrival t word mark (sent_as to sent) m) m cut.index o.0) (empty_then t d empty) on))
other_heard image cut t word mark d to x is (inr o) empty on =
    rests t word mark (sent_as to x) d (far_moves t word mark to (comes_to t d) x o on)

sent_by : (image : List ℕ) (cut : Cut) (t word mark : ℕ) (d : DeviceState) (down : DownlinkCommand) (b : Bool)
    → All (λ x. x < 2 ^ 8) image → IsCut image cut → IsSentOf image cut down → d.outbox ≡ []
    → hears (comes_to t d) t down.to ≡ b
    → Acts image cut t mark d (behind t word mark (downlink_of down) d) down
sent_by image cut t word mark d down false bytes is sent empty off =
    inl (
      off,
      rests t word mark (downlink_of down) d
          (deaf_stays t word mark (downlink_of down) (comes_to t d) off),
    )
sent_by image cut t word mark d down true bytes is (inl s) empty on =
    inr (on, inl (s.0, s.1, setup_heard image cut t word mark d down.to down.command bytes is s.0 s.1 empty on))
sent_by image cut t word mark d down true bytes is (inr (inl f)) empty on =
    inr (
      on,
      inr (inl (
        f.0,
        f.1,
        f.2,
        fragment_heard image cut t word mark d down.to down.command f.0 is f.1 f.2 empty on,
      )),
    )
sent_by image cut t word mark d down true bytes is (inr (inr o)) empty on =
    inr (on, inr (inr (o, other_heard image cut t word mark d down.to down.command is o empty on)))

-- a device that holds no uplink
pub sent_acts : (image : List ℕ) (cut : Cut) (t word mark : ℕ) (d : DeviceState) (down : DownlinkCommand)
    → All (λ b. b < 2 ^ 8) image → IsCut image cut → IsSentOf image cut down → d.outbox ≡ []
    → Acts image cut t mark d (record (delivery t word mark (downlink_of down) d).device { outbox = [] }) down
sent_acts image cut t word mark d down bytes is sent empty =
    sent_by image cut t word mark d down _ bytes is sent empty refl
