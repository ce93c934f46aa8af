-- Two states of a campaign after the plan that differ only in their devices' counters, whether an event came yet or not.
use Rattle.std.proofs.Common.{◌≡◌, ◌⊎◌, inl, inr, ℕ, ◌+◌, ◌≤◌, true, false, List, [], None, Ok, refl, sym, ap, ◌∙◌, subst, arith, true≢false}
use Rattle.std.specs.List.{AllZip}
use Rattle.std.proofs.lemmas.Bool.{le-leb}
use Rattle.package_grammar.specs.declared.downlink.Downlink.{Downlink}
use Rattle.device_core.specs.Device.{DeviceState}
use Rattle.script_lines.specs.declared.forms.Form.{Form}
use Rattle.script_lines.specs.declared.forms.Form.TheVariants.{Header, Image, Group, WindowC, WindowB, Device, At, End}
use Rattle.script_lines.specs.Limits.{max_time}
use Rattle.script_lines.specs.Ranges.{in_range}
use Rattle.report_lines.specs.declared.faults.LineWhy.TheVariants as why
use Rattle.campaign_world.specs.declared.section.Section.{Section}
use Rattle.campaign_world.specs.declared.section.Section.TheVariants as section
use Rattle.campaign_world.specs.World.{WorldState}
use Rattle.campaign_world.specs.Said.{Said, Own, Elsewhere, Reached}
use Rattle.campaign_world.specs.Causes.{is_event_or_end, is_in_order, takes_events, has_begun, form_cause, said_cause}
use Rattle.campaign_world.specs.Making.{after_form, after_said}
use Rattle.campaign_world.specs.Script.{one_line_more}
use Rattle.campaign_world.specs.Honest.{has_raw}
use Rattle.campaign_laws.proofs.Events.{by_event}
use Rattle.campaign_laws.proofs.HonestLines.{Stands}
use Rattle.campaign_laws.proofs.Independence.{said_told}
use Rattle.campaign_laws.specs.Independence.{time_after}
use Rattle.pair_run.specs.Counting.{IsAlike}
use Rattle.pair_run.specs.Sides.{is_quiet}
use Rattle.campaign_world.proofs.Zips.{zip_long}
use Rattle.isolation_laws.proofs.Alike.{IsPlace, Like, form_by, test_passed}
use Rattle.isolation_laws.proofs.Alone.{said_like}
use Rattle.isolation_laws.proofs.Rested.{Rested}
use Rattle.isolation_laws.proofs.Whose.{IsLone}

-- ---- where events come

-- the same, or events may come at both
abbrev pub IsNear : (here there : Section) → Type 0
IsNear here there = (there ≡ here) ⊎ ((takes_events here ≡ true) × (takes_events there ≡ true))

pub near_takes : (here there : Section) → IsNear here there → takes_events here ≡ true → takes_events there ≡ true
near_takes here there (inl same) takes = ap takes_events same ∙ takes
near_takes here there (inr both) takes = both.1

-- an event may come exactly there
pub event_may : (here : Section) (form : Form) → is_event_or_end form ≡ true → is_in_order here form ≡ takes_events here
event_may section.Header Header event = absurd cc
event_may section.Header form event = refl
event_may section.Image (Image size parity index) event = absurd cc
event_may section.Image form event = refl
event_may section.Group (Group id addr key min max) event = absurd cc
event_may section.Group (Device dev) event = absurd cc
event_may section.Group form event = refl
event_may section.Window (WindowC start timeout freq dr) event = absurd cc
event_may section.Window (WindowB start periodicity timeout freq dr) event = absurd cc
event_may section.Window form event = refl
event_may section.Device (Device dev) event = absurd cc
event_may section.Device form event = refl
event_may section.Devices (Device dev) event = absurd cc
event_may section.Devices form event = event
event_may section.Events form event = event
event_may section.Ended form event = refl

near_may : (here there : Section) (form : Form) → IsNear here there → is_event_or_end form ≡ true → is_in_order here form ≡ true → is_in_order there form ≡ true
near_may here there form near event may =
    event_may there form event ∙ near_takes here there near (sym (event_may here form event) ∙ may)

-- ---- a form

pub record Close (w v : WorldState) : Type 0 where
  pub devices : AllZip IsAlike w.devices v.devices
  pub rest : v ≡ record w { devices = v.devices; section = v.section }
  pub place : IsNear w.section v.section

place_near : (here there : Section) → IsPlace here there → IsNear here there
place_near here there (inl same) = inl same
place_near here there (inr both) = inr (ap takes_events both.0, ap takes_events both.1)

pub close_like : (w v : WorldState) → Like w v → Close w v
close_like w v like = record { devices = like.devices; rest = like.rest; place = place_near w.section v.section like.place }

pub close_form : (w v : WorldState) (form : Form) → Close w v → Close (after_form w form) (after_form v form)
close_form w v form close =
    close_like (after_form w form) (after_form v form)
    (subst (λ (x : WorldState). Like (after_form w form) (after_form x form)) (sym close.rest) (form_by w v.devices v.section form close.devices))

pub close_more : (w v : WorldState) → Close w v → Close (one_line_more w) (one_line_more v)
close_more w v close = record { devices = close.devices; rest = ap (λ (x : WorldState). one_line_more x) close.rest; place = close.place }

fine_by : (w : WorldState) (ds : List DeviceState) (there : Section) (form : Form) → AllZip IsAlike w.devices ds → IsNear w.section there
    → is_event_or_end form ≡ true → form_cause w form ≡ None → form_cause (record w { devices = ds; section = there }) form ≡ None
unfolding form_cause
fine_by w ds there form zip near event fine =
    let first = test_passed (is_in_order w.section form) why.Order _ fine in
    rw (near_may w.section there form near event first.0, zip_long IsAlike w.devices ds zip) first.1

pub close_fine : (w v : WorldState) (form : Form) → Close w v → is_event_or_end form ≡ true → form_cause w form ≡ None → form_cause v form ≡ None
close_fine w v form close event fine =
    subst (λ (x : WorldState). form_cause x form ≡ None) (sym close.rest) (fine_by w v.devices v.section form close.devices close.place event fine)

-- ---- a payload of the other reaches a device

pub close_reached : (image : List ℕ) (index : ℕ) (w v : WorldState) (n word : ℕ) (down : Downlink) → Stands image index w → Rested index w
    → said_cause w (Reached n word down) ≡ None → has_raw index (Ok (Reached n word down)) ≡ false → takes_events w.section ≡ true → Close w v
    → Close (after_said w (Reached n word down)) v
close_reached image index w v n word down stands rested fine honest takes close =
    let placed : WorldState = record v { section = w.section } in
    let before : Like w placed = record {
      devices = close.devices;
      rest = ap (λ (x : WorldState). record x { section = w.section }) close.rest;
      place = inl refl;
    } in
    let like = said_like image index w placed n word down stands rested fine honest before in
    record {
      devices = like.devices;
      rest = ap (λ (x : WorldState). record x { section = v.section }) like.rest;
      place = inr (refl, near_takes w.section v.section close.place takes);
    }

-- ---- the moment

-- `at` the time so far may come where events do
pub now_fine : (w : WorldState) (now : ℕ) → w.time ≡ now → now ≤ max_time → takes_events w.section ≡ true → form_cause w (At now) ≡ None
unfolding form_cause in_range
now_fine w now is low takes =
    rw (event_may w.section (At now) refl, takes, is, le-leb now max_time low, le-leb now now (omega arith)) refl

-- and leaves it as it is
pub close_now : (w v : WorldState) (now : ℕ) → w.time ≡ now → takes_events w.section ≡ true → Close w v → Close w (after_form v (At now))
unfolding after_form
close_now w v now is takes close = record {
  devices = close.devices;
  rest = ap (λ (x : WorldState). record x { section = section.Events; time = now }) close.rest
      ∙ ap (λ (t : ℕ). record w { devices = v.devices; section = section.Events; time = t }) (sym is);
  place = inr (takes, refl);
}

-- ---- a campaign of which nothing is read but its place, its lines and its time

pub record Passed (w v : WorldState) : Type 0 where
  pub time : v.time ≡ w.time
  pub lines : v.lines ≡ w.lines
  pub place : IsNear w.section v.section

pub close_passed : (w v : WorldState) → Close w v → Passed w v
close_passed w v close = record {
  time = ap (λ (x : WorldState). x.time) close.rest;
  lines = ap (λ (x : WorldState). x.lines) close.rest;
  place = close.place;
}

-- a line that both take is refused there as little
pub quiet_fine : (w v : WorldState) (form : Form) → is_quiet form ≡ true → is_event_or_end form ≡ true → Passed w v → form_cause w form ≡ None
    → form_cause v form ≡ None
unfolding form_cause in_range
quiet_fine w v (At time) quiet event passed fine =
    let first = test_passed (is_in_order w.section (At time)) why.Order _ fine in
    rw (near_may w.section v.section (At time) passed.place refl first.0, passed.time) first.1
quiet_fine w v End quiet event passed fine =
    let first = test_passed (is_in_order w.section End) why.Order _ fine in
    rw (near_may w.section v.section End passed.place refl first.0) first.1
quiet_fine w v Header quiet event passed fine = absurd cc
quiet_fine w v form quiet event passed fine = absurd (true≢false (sym quiet))

pub passed_quiet : (w v : WorldState) (form : Form) → is_quiet form ≡ true → is_event_or_end form ≡ true → Passed w v
    → Passed (after_form w form) (after_form v form)
unfolding after_form
passed_quiet w v (At time) quiet event passed = record { time = refl; lines = passed.lines; place = inl refl }
passed_quiet w v End quiet event passed = record { time = passed.time; lines = passed.lines; place = inl refl }
passed_quiet w v Header quiet event passed = absurd cc
passed_quiet w v form quiet event passed = absurd (true≢false (sym quiet))

pub passed_more : (w v : WorldState) → Passed w v → Passed (one_line_more w) (one_line_more v)
passed_more w v passed = record { time = passed.time; lines = ap (λ (n : ℕ). n + 1) passed.lines; place = passed.place }

-- ---- what the other's events say to it

abbrev pub IsCalm : Said → Type 0
IsCalm (Own form) = IsLone form
IsCalm said = Unit {0}

lone_takes : (w : WorldState) (form : Form) → IsLone form → takes_events (after_form w form).section ≡ true
unfolding after_form
lone_takes w Header lone = absurd (true≢false (sym lone.0))
lone_takes w (Image size parity index) lone = absurd (true≢false (sym lone.0))
lone_takes w (Group id addr key min max) lone = absurd (true≢false (sym lone.0))
lone_takes w (WindowC start timeout freq dr) lone = absurd (true≢false (sym lone.0))
lone_takes w (WindowB start periodicity timeout freq dr) lone = absurd (true≢false (sym lone.0))
lone_takes w (Device dev) lone = absurd (true≢false (sym lone.0))
lone_takes w End lone = absurd (true≢false lone.1)
lone_takes w form lone = refl

calm_takes : (w : WorldState) (said : Said) → IsCalm said → takes_events w.section ≡ true → takes_events (after_said w said).section ≡ true
calm_takes w (Own form) calm takes = lone_takes w form calm
calm_takes w Elsewhere calm takes = takes
calm_takes w (Reached n word down) calm takes = refl

calm_time : (now : ℕ) (said : Said) → IsCalm said → time_after now (Ok said) ≡ now
calm_time now (Own (At time)) calm = absurd (true≢false calm.1)
calm_time now (Own form) calm = refl
calm_time now Elsewhere calm = refl
calm_time now (Reached n word down) calm = refl

-- beside it `at` the moment was read
pub passed_calm : (w v : WorldState) (said : Said) (now : ℕ) → IsCalm said → said_cause w said ≡ None → takes_events w.section ≡ true → w.time ≡ now
    → Passed w v → Passed (after_said w said) (after_form v (At now))
unfolding after_form
passed_calm w v said now calm fine takes is passed =
    let told = said_told 0 None [] w said fine in
    record {
      time = sym (told.time ∙ calm_time w.time said calm ∙ is);
      lines = passed.lines ∙ sym told.lines;
      place = inr (calm_takes w said calm takes, refl);
    }

-- ---- an event has come

pub event_begins : (w : WorldState) (form : Form) → is_event_or_end form ≡ true → has_begun (after_form w form).section ≡ true
event_begins w =
    by_event (λ v. has_begun v.section ≡ true) w (λ time here begun. begun) (λ n form. refl) (λ s to down sends. refl) (λ dev cs. refl)
