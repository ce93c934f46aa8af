-- Each device for itself.
use Rattle.std.proofs.Common.{◌≡◌, ◌&&◌, inl, inr, ℕ, zero, suc, ◌+◌, ◌-◌, ◌≤◌, Bool, true, false, cond, ◌==◌, List, [], ◌∷◌, ◌++◌, fold, append-nil, append_assoc, slice_get, Option, None, Some, option_map, Ok, Err, refl, sym, ap, ◌∙◌, subst, arith, eqb-true}
use Rattle.std.specs.Prelude.{filter_map, option_to_list}
use Rattle.std.specs.List.{slice_set}
use Rattle.std.specs.Result.{result_ok}
use Rattle.wire_base.specs.declared.refusal.Direction.TheVariants as direction
use Rattle.package_grammar.specs.Reading.{Reading, reading_of}
use Rattle.device_core.specs.Device.{DeviceState}
use Rattle.campaign_server.specs.declared.plan.PlanGroup.{PlanGroup}
use Rattle.campaign_server.specs.Plan.{Plan}
use Rattle.campaign_server.specs.Server.{ServerState, DownlinkCommand, ledger}
use Rattle.wire_base.specs.Numbered.{numbered}
use Rattle.campaign_server.specs.Asking.{by_unicast, request_of}
use Rattle.campaign_server.specs.Fragments.{next_fragment, after_fragment, status_to_all, after_status_to_all}
use Rattle.campaign_server.specs.Time.{time_answer}
use Rattle.campaign_server.specs.Uplinks.{with_answers, read_uplink, uplink_step}
use Rattle.script_lines.specs.declared.forms.Form.{Form}
use Rattle.script_lines.specs.declared.forms.Form.TheVariants.{Header, Image, Group, WindowC, WindowB, Device, At, Wake, Migrate, Power, Ask, Frag, Status, Down, Raw, Air, RawAir, Up, End}
use Rattle.report_lines.specs.declared.faults.LineWhy.{LineWhy}
use Rattle.report_lines.specs.declared.faults.LineFault.{LineFault}
use Rattle.campaign_world.specs.declared.numbered.SentPayload.{SentPayload}
use Rattle.campaign_world.specs.declared.numbered.NumberedUplink.{NumberedUplink}
use Rattle.campaign_world.specs.World.{WorldState, first_world}
use Rattle.campaign_world.specs.Said.{Said, Own, Elsewhere, Reached, Line}
use Rattle.campaign_world.specs.Causes.{may_reach, goes_out, form_cause, said_cause, line_cause, cause_of}
use Rattle.campaign_world.specs.Making.{with_sent, with_device, raw_down, reception, sent_frame, hearing, with_event, with_event_of, after_answer, after_up, at_events, after_form, after_said}
use Rattle.campaign_world.specs.Script.{after_line, line_result, read_line, read_lines, campaign_of}
use Rattle.device_core.specs.Events.{Event, Wakes, Receives, HearsBytes, Migrates, after_event}
use Rattle.campaign_laws.specs.Independence.{device_in, first_devices, time_after, event_in, history_of, DevicesAreIndependent}
use Rattle.campaign_world.proofs.Steps.{reception_of}
use Rattle.campaign_server.proofs.LineItems.{numbered_more, numbered_put, numbered_there}
use Rattle.campaign_laws.proofs.HeadlineForms.{passes, reached_passes, payload_there}
use Rattle.campaign_laws.proofs.PlanGroups.{is_planning, said_settled, air_settled}
use Rattle.campaign_laws.proofs.HeadlineLines.{cause_by, end_is}
use Rattle.campaign_laws.proofs.Items.{is_there}

-- ---- lines that are read

no_more : (fault : LineFault) (lines : List Line) (end : WorldState) → read_lines (Err fault) lines ≡ Ok end → ⊥
unfolding read_lines
no_more fault [] end is = cc
no_more fault (line ∷ lines) end is = cc

read_by : (w end : WorldState) (line : Line) (cause : Option LineWhy) (lines : List Line)
    → read_lines (line_result w line cause) lines ≡ Ok end
    → (cause ≡ None) × (read_lines (Ok (after_line w line)) lines ≡ Ok end)
read_by w end line None lines is = (refl, is)
read_by w end line (Some why) lines is = absurd (no_more _ lines end is)

-- the first line is not refused, and the others are read after it
pub read_first : (w end : WorldState) (line : Line) (lines : List Line)
    → read_lines (Ok w) (line ∷ lines) ≡ Ok end
    → (cause_of w line ≡ None) × (read_lines (Ok (after_line w line)) lines ≡ Ok end)
unfolding read_lines read_line
read_first w end line lines is = read_by w end line (cause_of w line) lines is

pub line_fine : (w : WorldState) (line : Line) → cause_of w line ≡ None → line_cause w line ≡ None
unfolding cause_of
line_fine w line is = cause_by _ _ _ is

-- ---- lists

get_set : {A : Type 0} (xs ys : List A) (k : ℕ) (x y : A) → slice_get xs k ≡ Some x
    → slice_set xs k y ++ ys ≡ slice_set (xs ++ ys) k y
get_set [] ys k x y is = absurd cc
get_set (z ∷ xs) ys zero x y is = refl
get_set (z ∷ xs) ys (suc k) x y is = ap (λ (zs : List _). z ∷ zs) (get_set xs ys k x y is)

set_by : {A : Type 0} (xs ys : List A) (k : ℕ) (x y : A) (b : Bool) → cond b None (slice_get xs k) ≡ Some x
    → slice_set xs k y ++ ys ≡ slice_set (xs ++ ys) k y
set_by xs ys k x y true is = absurd cc
set_by xs ys k x y false is = get_set xs ys k x y is

-- another item at a place that is there, with more items after
set_front : {A : Type 0} (xs ys : List A) (n : ℕ) (x y : A) → numbered xs n ≡ Some x
    → slice_set xs (n - 1) y ++ ys ≡ slice_set (xs ++ ys) (n - 1) y
set_front xs ys n x y is = set_by xs ys (n - 1) x y (n == 0) is

pub unchanged : {A : Type 0} (o : Option A) → option_map (λ (x : A). x) o ≡ o
unchanged None = refl
unchanged (Some x) = refl

-- ---- what a form leaves

-- payloads are only added
abbrev pub Grows : List SentPayload → List SentPayload → Type 0
Grows old new = (more : List SentPayload) × (new ≡ old ++ more)

-- nothing happens at a device
record IsStill (w v : WorldState) : Type 0 where
  devices : v.devices ≡ w.devices
  time : v.time ≡ w.time
  lines : v.lines ≡ w.lines
  sent : Grows w.sent v.sent

pub same_sent : (w : WorldState) → Grows w.sent w.sent
same_sent w = ([], sym (append-nil w.sent))

same_still : (w v : WorldState) → v.devices ≡ w.devices → v.time ≡ w.time → v.lines ≡ w.lines → v.sent ≡ w.sent
    → IsStill w v
same_still w v devices time lines sent =
    record { devices = devices; time = time; lines = lines; sent = ([], sent ∙ sym (append-nil w.sent)) }

at_events_still : (w v : WorldState) → IsStill w v → IsStill w (at_events v)
at_events_still w v s = record { devices = s.devices; time = s.time; lines = s.lines; sent = s.sent }

sends_still : (w : WorldState) (s : ServerState) (to : Option ℕ) (down : Option DownlinkCommand)
    → IsStill w (with_sent (record w { server = s }) to down)
sends_still w s to None = same_still w _ refl refl refl refl
sends_still w s to (Some down) = record { devices = refl; time = refl; lines = refl; sent = (_, refl) }

read_still : (w : WorldState) (dev t : ℕ) (r : Reading)
    → IsStill w (after_answer w dev (read_uplink w.server dev t r))
unfolding read_uplink
read_still w dev t (Ok cs) =
    sends_still w (with_answers w.server dev cs (ledger w.server dev)) (Some dev) (by_unicast (time_answer t cs))
read_still w dev t (Err refusal) = same_still w _ refl refl refl refl

up_still : (w : WorldState) (o : Option NumberedUplink) → IsStill w (after_up w o)
unfolding uplink_step
up_still w None = same_still w _ refl refl refl refl
up_still w (Some made) =
    read_still w made.device w.time (reading_of made.uplink.port direction.Up made.uplink.payload)

-- ---- one form

-- a device's record, where so much happens to it
abbrev pub folded : List Event → Option DeviceState → Option DeviceState
folded events start = option_map (λ (first : DeviceState). fold after_event first events) start

-- the line brings a frame
abbrev pub airs : Said → Bool
airs (Own (Air number device word)) = true
airs said = false

-- where it does, the plan's group is this one
abbrev pub HasGroup : Said → WorldState → Option PlanGroup → Type 0
HasGroup said w group = airs said ≡ true → w.server.plan.group ≡ group

-- what holds after what a line says that is not refused: the line's number, the time, what was sent, and the record of a
-- device after what the line tells of it, with these devices and events to come
pub record IsTold (id : ℕ) (group : Option PlanGroup) (all : List SentPayload) (w v : WorldState) (said : Said) : Type 0 where
  pub lines : v.lines ≡ w.lines
  pub time : v.time ≡ time_after w.time (Ok said)
  pub sent : Grows w.sent v.sent
  pub record_is : Grows w.sent all → HasGroup said w group → (later : List Line) (events : List Event)
      → folded events (numbered (v.devices ++ filter_map device_in later) id)
      ≡ folded (option_to_list (event_in id group all w.time (w.lines + 1) (Ok said)) ++ events)
      (numbered (w.devices ++ filter_map device_in (Ok said ∷ later)) id)

still_told : (id : ℕ) (group : Option PlanGroup) (all : List SentPayload) (w v : WorldState) (said : Said) → IsStill w v
    → time_after w.time (Ok said) ≡ w.time → event_in id group all w.time (w.lines + 1) (Ok said) ≡ None
    → device_in (Ok said) ≡ None → IsTold id group all w v said
still_told id group all w v said s time event device = record {
  lines = s.lines;
  time = s.time ∙ sym time;
  sent = s.sent;
  record_is = λ grows has later events. rw (event, device, s.devices) refl;
}

-- an event at device n
happened : (id n : ℕ) (ds later : List DeviceState) (d : DeviceState) (e : Event) (events : List Event) (b : Bool)
    → (n == id) ≡ b → 1 ≤ n → numbered ds n ≡ Some d
    → folded events (numbered (slice_set ds (n - 1) (after_event d e) ++ later) id)
    ≡ folded (option_to_list (cond b (Some e) None) ++ events) (numbered (ds ++ later) id)
happened id n ds later d e events true is first there =
    let same : n ≡ id = eqb-true _ _ is in
    let here = numbered_more ds later n d there in
    let put = numbered_there (ds ++ later) n d (after_event d e) here in
    rw (set_front ds later n d (after_event d e) there, ← same, put, here) refl
happened id n ds later d e events false is first there =
    elim (numbered_put (ds ++ later) n id (after_event d e) first) [
      | inl same ↦ absurd (grind (arith, is, same))
      | inr other ↦ rw (set_front ds later n d (after_event d e) there, other) refl
    ]

event_told : (id n : ℕ) (group : Option PlanGroup) (all : List SentPayload) (w : WorldState) (said : Said) (d : DeviceState) (o : Option Event) (e : Event)
    → 1 ≤ n → numbered w.devices n ≡ Some d → o ≡ Some e → time_after w.time (Ok said) ≡ w.time → device_in (Ok said) ≡ None
    → (Grows w.sent all → HasGroup said w group → event_in id group all w.time (w.lines + 1) (Ok said) ≡ cond (n == id) (Some e) None)
    → IsTold id group all w (with_event w n o) said
unfolding with_device
event_told id n group all w said d o e first there is time device told = rw (is, there) (record {
  lines = refl;
  time = sym time;
  sent = same_sent w;
  record_is = λ grows has later events. rw (told grows has, device)
      (happened id n w.devices (filter_map device_in later) d e events (n == id) refl first there);
})

reached_told : (id number n word : ℕ) (group : Option PlanGroup) (all : List SentPayload) (w : WorldState) (d : DeviceState) (p : SentPayload)
    → 1 ≤ n → numbered w.devices n ≡ Some d → numbered w.sent number ≡ Some p
    → IsTold id group all w (with_event_of w n (Down number n word)) (Own (Down number n word))
reached_told id number n word group all w d p first there got =
    event_told id n group all w (Own (Down number n word)) d (reception w.time word (w.lines + 1) (numbered w.sent number))
    (Receives w.time word (w.lines + 1) p.down) first there (reception_of w.time word (w.lines + 1) _ p got) refl refl
    (λ grows has.
    let late : numbered all number ≡ Some p = rw (grows.1) (numbered_more w.sent grows.0 number p got) in
    rw (late) refl)

neither : {A : Type 0} (b : Bool) → cond {A = Option A} b None None ≡ None
neither true = refl
neither false = refl

-- a frame, where the payload has one
aired_told : (id number n word : ℕ) (group : Option PlanGroup) (all : List SentPayload) (w : WorldState) (d : DeviceState)
    (p : SentPayload) (frame : Option (List ℕ)) → 1 ≤ n → numbered w.devices n ≡ Some d → numbered w.sent number ≡ Some p
    → sent_frame w.server.plan.group (Some p) ≡ frame
    → IsTold id group all w (with_event_of w n (Air number n word)) (Own (Air number n word))
aired_told id number n word group all w d p (Some bytes) first there got is =
    event_told id n group all w (Own (Air number n word)) d
    (hearing w.time word (w.lines + 1) (sent_frame w.server.plan.group (numbered w.sent number)))
    (HearsBytes w.time word (w.lines + 1) bytes) first there (rw (got, is) refl) refl refl
    (λ grows has.
    let late : numbered all number ≡ Some p = rw (grows.1) (numbered_more w.sent grows.0 number p got) in
    rw (late, ← has refl, is) refl)
aired_told id number n word group all w d p None first there got is = rw (got, is, there) (record {
  lines = refl;
  time = refl;
  sent = same_sent w;
  record_is = λ grows has later events.
      let late : numbered all number ≡ Some p = rw (grows.1) (numbered_more w.sent grows.0 number p got) in
      rw (late, ← has refl, is, neither (n == id)) refl;
})

air_payload : (device : ℕ) (o : Option SentPayload) → (may_reach device o && goes_out o) ≡ true → (p : SentPayload) × (o ≡ Some p)
air_payload device None may = absurd cc
air_payload device (Some p) may = (p, refl)

pub form_told : (id : ℕ) (group : Option PlanGroup) (all : List SentPayload) (w : WorldState) (form : Form) → form_cause w form ≡ None
    → IsTold id group all w (after_form w form) (Own form)
unfolding after_form
form_told id group all w Header fine =
    still_told id group all w _ (Own Header) (same_still w _ refl refl refl refl) refl refl refl
form_told id group all w (Image frag_size parity index) fine =
    still_told id group all w _ (Own (Image frag_size parity index)) (same_still w _ refl refl refl refl) refl refl refl
form_told id group all w (Group its addr key min max) fine =
    still_told id group all w _ (Own (Group its addr key min max)) (same_still w _ refl refl refl refl) refl refl refl
form_told id group all w (WindowC start timeout freq dr) fine =
    still_told id group all w _ (Own (WindowC start timeout freq dr)) (same_still w _ refl refl refl refl) refl refl refl
form_told id group all w (WindowB start periodicity timeout freq dr) fine =
    still_told id group all w _ (Own (WindowB start periodicity timeout freq dr))
    (same_still w _ refl refl refl refl) refl refl refl
form_told id group all w (Device dev) fine = record {
  lines = refl;
  time = refl;
  sent = same_sent w;
  record_is = λ grows has later events. ap (λ (ds : List DeviceState). folded events (numbered ds id))
      (append_assoc w.devices (_ ∷ []) (filter_map device_in later));
}
form_told id group all w (At time) fine = record {
  lines = refl;
  time = refl;
  sent = same_sent w;
  record_is = λ grows has later events. refl;
}
form_told id group all w (Power device) fine = record {
  lines = refl;
  time = refl;
  sent = same_sent w;
  record_is = λ grows has later events. refl;
}
form_told id group all w (Wake device) fine =
    let d = is_there w.devices device (passes w (Wake device) fine).names in
    event_told id device group all w (Own (Wake device)) d.1.0 (Some (Wakes w.time)) (Wakes w.time) d.0 d.1.1 refl refl refl
    (λ grows has. refl)
form_told id group all w (Migrate device) fine =
    let d = is_there w.devices device (passes w (Migrate device) fine).names in
    event_told id device group all w (Own (Migrate device)) d.1.0 (Some Migrates) Migrates d.0 d.1.1 refl refl refl (λ grows has. refl)
form_told id group all w (Ask device) fine =
    let s = sends_still w w.server (Some device) (request_of w.server device) in
    still_told id group all w _ (Own (Ask device)) (at_events_still w _ s) refl refl refl
form_told id group all w Frag fine =
    let s = sends_still w (after_fragment w.server) None (result_ok (next_fragment w.server)) in
    still_told id group all w _ (Own Frag) (at_events_still w _ s) refl refl refl
form_told id group all w Status fine =
    let s = sends_still w (after_status_to_all w.server) None (status_to_all w.server) in
    still_told id group all w _ (Own Status) (at_events_still w _ s) refl refl refl
form_told id group all w (Down number device word) fine =
    let p = passes w (Down number device word) fine in
    let d = is_there w.devices device p.names in
    let s = payload_there device (numbered w.sent number) p.come in
    reached_told id number device word group all w d.1.0 s.0 d.0 d.1.1 s.1
form_told id group all w (Raw device port payload word) fine =
    let d = is_there w.devices device (passes w (Raw device port payload word) fine).names in
    let e : Event = Receives w.time word (w.lines + 1) (raw_down port payload) in
    event_told id device group all w (Own (Raw device port payload word)) d.1.0 (Some e) e d.0 d.1.1 refl refl refl (λ grows has. refl)
form_told id group all w (Air number device word) fine =
    let p = passes w (Air number device word) fine in
    let d = is_there w.devices device p.names in
    let s = air_payload device (numbered w.sent number) p.come in
    aired_told id number device word group all w d.1.0 s.0 _ d.0 d.1.1 s.1 refl
form_told id group all w (RawAir device bytes word) fine =
    let d = is_there w.devices device (passes w (RawAir device bytes word) fine).names in
    let e : Event = HearsBytes w.time word (w.lines + 1) bytes in
    event_told id device group all w (Own (RawAir device bytes word)) d.1.0 (Some e) e d.0 d.1.1 refl refl refl (λ grows has. refl)
form_told id group all w (Up number) fine =
    let s = up_still w (numbered w.uplinks number) in
    still_told id group all w _ (Own (Up number)) (at_events_still w _ s) refl refl refl
form_told id group all w End fine =
    still_told id group all w _ (Own End) (same_still w _ refl refl refl refl) refl refl refl

-- what a line says
pub said_told : (id : ℕ) (group : Option PlanGroup) (all : List SentPayload) (w : WorldState) (said : Said) → said_cause w said ≡ None
    → IsTold id group all w (after_said w said) said
said_told id group all w (Own form) fine = form_told id group all w form fine
said_told id group all w Elsewhere fine =
    still_told id group all w w Elsewhere (same_still w w refl refl refl refl) refl refl refl
said_told id group all w (Reached n word down) fine =
    let d = is_there w.devices n (reached_passes w n word down fine).1 in
    let e : Event = Receives w.time word (w.lines + 1) down in
    event_told id n group all w (Reached n word down) d.1.0 (Some e) e d.0 d.1.1 refl refl refl (λ grows has. refl)

-- ---- all lines

line_grows : (w : WorldState) (line : Line) → line_cause w line ≡ None → Grows w.sent (after_line w line).sent
line_grows w (Err why) fine = absurd cc
line_grows w (Ok said) fine = (said_told 0 None [] w said fine).sent

pub sent_grows : (w end : WorldState) (lines : List Line) → read_lines (Ok w) lines ≡ Ok end → Grows w.sent end.sent
unfolding read_lines
sent_grows w end [] is = let same : w ≡ end = cc in subst (λ (e : WorldState). Grows w.sent e.sent) same (same_sent w)
sent_grows w end (line ∷ lines) is =
    let first = read_first w end line lines is in
    let here = line_grows w line (line_fine w line first.0) in
    let rest = sent_grows (after_line w line) end lines first.1 in (
      here.0 ++ rest.0,
      rest.1 ∙ ap (λ (ss : List SentPayload). ss ++ rest.0) here.1
          ∙ append_assoc w.sent here.0 rest.0,
    )

-- the plan's group stays after the first event
group_stays : (w end : WorldState) (lines : List Line) → read_lines (Ok w) lines ≡ Ok end → is_planning w.section ≡ false
    → w.server.plan.group ≡ end.server.plan.group
unfolding read_lines
group_stays w end [] is over = let same : w ≡ end = cc in ap (λ (x : WorldState). x.server.plan.group) same
group_stays w end (line ∷ lines) is over =
    let first = read_first w end line lines is in
    let here = line_stays w line (line_fine w line first.0) over in
    sym here.1 ∙ group_stays (after_line w line) end lines first.1 here.0
  where
    line_stays : (w : WorldState) (line : Line) → line_cause w line ≡ None → is_planning w.section ≡ false
        → (is_planning (after_line w line).section ≡ false)
        × ((after_line w line).server.plan.group ≡ w.server.plan.group)
    line_stays w (Err why) fine over = absurd cc
    line_stays w (Ok said) fine over =
        let s = said_settled w said fine over in (s.over, ap (λ (p : Plan). p.group) s.plan)

-- a frame comes after the plan
said_group : (w end : WorldState) (said : Said) (lines : List Line) → read_lines (Ok (after_line w (Ok said))) lines ≡ Ok end
    → HasGroup said w end.server.plan.group
said_group w end (Own (Air number device word)) lines is airs =
    let s = air_settled w number device word in
    ap (λ (p : Plan). p.group) (sym s.plan)
    ∙ group_stays (after_line w (Ok (Own (Air number device word)))) end lines is s.over
said_group w end said lines is airs = absurd cc

-- what the lines from one on say is what it says, and what those after it say
line_told : (id : ℕ) (w end : WorldState) (line : Line) (rest : List Line)
    → line_cause w line ≡ None → Grows w.sent end.sent → read_lines (Ok (after_line w line)) rest ≡ Ok end
    → folded (history_of id end.server.plan.group end.sent (after_line w line).time ((after_line w line).lines + 1) rest)
    (numbered ((after_line w line).devices ++ first_devices rest) id)
    ≡ folded (option_to_list (event_in id end.server.plan.group end.sent w.time (w.lines + 1) line)
    ++ history_of id end.server.plan.group end.sent (time_after w.time line) (w.lines + 1 + 1) rest)
    (numbered (w.devices ++ filter_map device_in (line ∷ rest)) id)
line_told id w end (Err why) rest fine grows is = absurd cc
line_told id w end (Ok said) rest fine grows is =
    let t = said_told id end.server.plan.group end.sent w said fine in
    rw (t.lines, t.time) (t.record_is grows (said_group w end said rest is) rest _)

-- from any campaign on
from_here : (id : ℕ) (w end : WorldState) (lines : List Line) → read_lines (Ok w) lines ≡ Ok end
    → numbered end.devices id
    ≡ folded (history_of id end.server.plan.group end.sent w.time (w.lines + 1) lines)
    (numbered (w.devices ++ first_devices lines) id)
unfolding read_lines history_of
from_here id w end [] is =
    let same : w ≡ end = cc in rw (← same, append-nil w.devices) (sym (unchanged (numbered w.devices id)))
from_here id w end (line ∷ lines) is =
    let first = read_first w end line lines is in
    from_here id (after_line w line) end lines first.1
    ∙ line_told id w end line lines (line_fine w line first.0) (sent_grows w end (line ∷ lines) is) first.1

pub devices_are_independent : DevicesAreIndependent
unfolding campaign_of
devices_are_independent image lines world id is =
    from_here id (first_world image) world lines
    (end_is (read_lines (Ok (first_world image)) lines) world is)
