-- Two states of a campaign that differ only in the counters of their devices go on alike.
use Rattle.std.proofs.Common.{◌≡◌, ◌⊎◌, inl, inr, ℕ, ◌+◌, ◌-◌, Bool, true, false, not, cond, List, [], ◌++◌, map, Option, Some, None, Ok, Err, refl, sym, ap, subst}
use Rattle.std.specs.List.{AllZip, slice_set}
use Rattle.std.specs.Result.{result_ok}
use Rattle.wire_base.specs.Numbered.{numbered}
use Rattle.wire_base.specs.declared.refusal.Direction.TheVariants as direction
use Rattle.package_grammar.specs.Reading.{Reading, reading_of}
use Rattle.device_core.specs.declared.uplink.Uplink.{Uplink}
use Rattle.device_core.specs.Device.{DeviceState, first_device}
use Rattle.device_core.specs.Events.{Event, event_step, uplinks_taken}
use Rattle.campaign_server.specs.Server.{ServerState, DownlinkCommand, ledger}
use Rattle.campaign_server.specs.Asking.{by_unicast, request_of}
use Rattle.campaign_server.specs.Fragments.{next_fragment, after_fragment, status_to_all, after_status_to_all}
use Rattle.campaign_server.specs.Time.{time_answer}
use Rattle.campaign_server.specs.Uplinks.{with_answers, read_uplink, uplink_step}
use Rattle.script_lines.specs.declared.forms.Form.{Form}
use Rattle.script_lines.specs.declared.forms.Form.TheVariants.{Header, Image, Group, WindowC, WindowB, Device, At, Wake, Migrate, Power, Ask, Frag, Status, Down, Raw, Air, RawAir, Up, End}
use Rattle.report_lines.specs.declared.faults.LineWhy.{LineWhy}
use Rattle.report_lines.specs.declared.faults.LineWhy.TheVariants as why
use Rattle.campaign_world.specs.declared.numbered.NumberedUplink.{NumberedUplink}
use Rattle.campaign_world.specs.declared.section.Section.{Section}
use Rattle.campaign_world.specs.declared.section.Section.TheVariants as section
use Rattle.campaign_world.specs.World.{WorldState}
use Rattle.campaign_world.specs.Causes.{is_in_order, form_cause}
use Rattle.campaign_world.specs.Making.{with_sent, with_device, with_event, with_event_of, event_of, made_by, after_answer, after_up, at_events, config_of, after_form}
use Rattle.campaign_world.proofs.Zips.{numbered_found, numbered_missed, zip_more, zip_set, zip_long}
use Rattle.pair_run.specs.Counting.{IsAlike}
use Rattle.pair_run.proofs.CountsUnread.{unread}

-- one may have had an event already where the other had none
abbrev pub IsPlace : (here place : Section) → Type 0
IsPlace here place = (place ≡ here) ⊎ ((here ≡ section.Events) × (place ≡ section.Devices))

pub record Like (w v : WorldState) : Type 0 where
  pub devices : AllZip IsAlike w.devices v.devices
  pub rest : v ≡ record w { devices = v.devices; section = v.section }
  pub place : IsPlace w.section v.section

-- such a state, by its devices and its place
abbrev pub with : WorldState → List DeviceState → Section → WorldState
with w ds here = record w { devices = ds; section = here }

-- ---- an event

taken_alike : (d e : DeviceState) → IsAlike d e → IsAlike (uplinks_taken d) (uplinks_taken e)
taken_alike d e alike = ap (λ (x : DeviceState). record x { outbox = [] }) alike

outbox_alike : (d e : DeviceState) → IsAlike d e → d.outbox ≡ e.outbox
outbox_alike d e alike = ap (λ (x : DeviceState). x.outbox) alike

device_like : (w : WorldState) (ds : List DeviceState) (here : Section) (n : ℕ) (d e : DeviceState) → AllZip IsAlike w.devices ds → IsAlike d e
    → Like (at_events (with_device w n d)) (at_events (with_device (with w ds here) n e))
unfolding with_device
device_like w ds here n d e zip alike = record {
  devices = zip_set IsAlike w.devices ds (n - 1) (uplinks_taken d) (uplinks_taken e) zip (taken_alike d e alike);
  rest = ap (λ (us : List Uplink). record w { devices = slice_set ds (n - 1) (uplinks_taken e); section = section.Events; uplinks = w.uplinks ++ map (λ u. made_by n u) us })
      (sym (outbox_alike d e alike));
  place = inl refl;
}

still_like : (w : WorldState) (ds : List DeviceState) (here : Section) → AllZip IsAlike w.devices ds → Like (at_events w) (at_events (with w ds here))
still_like w ds here zip = record { devices = zip; rest = refl; place = inl refl }

event_like : (w : WorldState) (ds : List DeviceState) (here : Section) (n : ℕ) (found : Option DeviceState) (o : Option Event) → AllZip IsAlike w.devices ds
    → numbered w.devices n ≡ found → Like (with_event w n o) (with_event (with w ds here) n o)
event_like w ds here n None o zip is =
    rw (is, numbered_missed IsAlike w.devices ds n zip is) (still_like w ds here zip)
event_like w ds here n (Some d) None zip is =
    let one = numbered_found IsAlike w.devices ds n d zip is in
    rw (is, one.1) (still_like w ds here zip)
event_like w ds here n (Some d) (Some event) zip is =
    let one = numbered_found IsAlike w.devices ds n d zip is in
    rw (is, one.1) (device_like w ds here n (event_step d event) (event_step one.0 event) zip (unread event d one.0 one.2))

form_event : (w : WorldState) (ds : List DeviceState) (here : Section) (n : ℕ) (form : Form) → AllZip IsAlike w.devices ds
    → Like (with_event_of w n form) (with_event_of (with w ds here) n form)
form_event w ds here n form zip =
    event_like w ds here n (numbered w.devices n) (event_of w.server.plan.group w.sent w.time (w.lines + 1) form) zip refl

-- ---- what is sent

sends_like : (w : WorldState) (ds : List DeviceState) (here : Section) (s : ServerState) (to : Option ℕ) (o : Option DownlinkCommand) → AllZip IsAlike w.devices ds
    → Like (at_events (with_sent (record w { server = s }) to o)) (at_events (with_sent (record (with w ds here) { server = s }) to o))
sends_like w ds here s to None zip = record { devices = zip; rest = refl; place = inl refl }
sends_like w ds here s to (Some down) zip = record { devices = zip; rest = refl; place = inl refl }

read_like : (w : WorldState) (ds : List DeviceState) (here : Section) (dev t : ℕ) (r : Reading) → AllZip IsAlike w.devices ds
    → Like (at_events (after_answer w dev (read_uplink w.server dev t r))) (at_events (after_answer (with w ds here) dev (read_uplink w.server dev t r)))
unfolding read_uplink
read_like w ds here dev t (Ok cs) zip =
    sends_like w ds here (with_answers w.server dev cs (ledger w.server dev)) (Some dev) (by_unicast (time_answer t cs)) zip
read_like w ds here dev t (Err refusal) zip = still_like w ds here zip

up_like : (w : WorldState) (ds : List DeviceState) (here : Section) (o : Option NumberedUplink) → AllZip IsAlike w.devices ds
    → Like (at_events (after_up w o)) (at_events (after_up (with w ds here) o))
unfolding uplink_step
up_like w ds here None zip = still_like w ds here zip
up_like w ds here (Some made) zip =
    read_like w ds here made.device w.time (reading_of made.uplink.port direction.Up made.uplink.payload) zip

-- ---- a form

pub form_by : (w : WorldState) (ds : List DeviceState) (here : Section) (form : Form) → AllZip IsAlike w.devices ds
    → Like (after_form w form) (after_form (with w ds here) form)
unfolding after_form
form_by w ds here Header zip = record { devices = zip; rest = refl; place = inl refl }
form_by w ds here (Image size parity index) zip = record { devices = zip; rest = refl; place = inl refl }
form_by w ds here (Group id addr key min max) zip = record { devices = zip; rest = refl; place = inl refl }
form_by w ds here (WindowC start timeout freq dr) zip = record { devices = zip; rest = refl; place = inl refl }
form_by w ds here (WindowB start periodicity timeout freq dr) zip = record { devices = zip; rest = refl; place = inl refl }
form_by w ds here (Device dev) zip =
    let first : DeviceState = first_device (config_of dev) in
    record { devices = zip_more IsAlike w.devices ds first first zip refl; rest = refl; place = inl refl }
form_by w ds here (At time) zip = record { devices = zip; rest = refl; place = inl refl }
form_by w ds here (Power n) zip = record { devices = zip; rest = refl; place = inl refl }
form_by w ds here (Wake n) zip = form_event w ds here n (Wake n) zip
form_by w ds here (Migrate n) zip = form_event w ds here n (Migrate n) zip
form_by w ds here (Ask n) zip = sends_like w ds here w.server (Some n) (request_of w.server n) zip
form_by w ds here Frag zip = sends_like w ds here (after_fragment w.server) None (result_ok (next_fragment w.server)) zip
form_by w ds here Status zip = sends_like w ds here (after_status_to_all w.server) None (status_to_all w.server) zip
form_by w ds here (Down number n word) zip = form_event w ds here n (Down number n word) zip
form_by w ds here (Raw n port payload word) zip = form_event w ds here n (Raw n port payload word) zip
form_by w ds here (Air number n word) zip = form_event w ds here n (Air number n word) zip
form_by w ds here (RawAir n bytes word) zip = form_event w ds here n (RawAir n bytes word) zip
form_by w ds here (Up number) zip = up_like w ds here (numbered w.uplinks number) zip
form_by w ds here End zip = record { devices = zip; rest = refl; place = inl refl }

pub form_like : (w v : WorldState) (form : Form) → Like w v → Like (after_form w form) (after_form v form)
form_like w v form like =
    subst (λ (x : WorldState). Like (after_form w form) (after_form x form)) (sym like.rest) (form_by w v.devices v.section form like.devices)

-- ---- is not refused

-- where events come, devices' lines may come besides
more_may : (form : Form) → is_in_order section.Events form ≡ true → is_in_order section.Devices form ≡ true
more_may (Device dev) is = refl
more_may form is = is

place_may : (here place : Section) (form : Form) → IsPlace here place → is_in_order here form ≡ true → is_in_order place form ≡ true
place_may here place form (inl same) may = subst (λ (s : Section). is_in_order s form ≡ true) (sym same) may
place_may here place form (inr (events, devices)) may =
    subst (λ (s : Section). is_in_order s form ≡ true) (sym devices) (more_may form (subst (λ (s : Section). is_in_order s form ≡ true) events may))

pub test_passed : (b : Bool) (why : LineWhy) (rest : Option LineWhy) → cond (not b) (Some why) rest ≡ None → (b ≡ true) × (rest ≡ None)
test_passed true why rest fine = (refl, fine)
test_passed false why rest fine = absurd cc

fine_by : (w : WorldState) (ds : List DeviceState) (place : Section) (form : Form) → AllZip IsAlike w.devices ds → IsPlace w.section place
    → form_cause w form ≡ None → form_cause (with w ds place) form ≡ None
unfolding form_cause
fine_by w ds place form zip is fine =
    let first = test_passed (is_in_order w.section form) why.Order _ fine in
    rw (place_may w.section place form is first.0, zip_long IsAlike w.devices ds zip) first.1

pub form_fine : (w v : WorldState) (form : Form) → Like w v → form_cause w form ≡ None → form_cause v form ≡ None
form_fine w v form like fine =
    subst (λ (x : WorldState). form_cause x form ≡ None) (sym like.rest) (fine_by w v.devices v.section form like.devices like.place fine)
