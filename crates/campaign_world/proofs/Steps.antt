-- What an event makes of a world that stands for a campaign.
use Rattle.std.proofs.Common.{◌≡◌, ℕ, ◌≤◌, ◌+◌, ◌-◌, Bool, true, false, cond, ◌==◌, List, [], ◌∷◌, ◌++◌, length, slice_get, slice_set, Option, Some, None, Result, Ok, Err, OnOk, OnErr, is_ok, is_some, refl, sym, ap, ◌∙◌, subst, append-nil, arith}
use Rattle.std.proofs.lemmas.Bool.Decides.{nat_tests}
use Rattle.std.specs.Option.{option_map}
use Rattle.std.specs.declared.alloc.AllocError.{AllocError}
use Rattle.device_core.specs.Device.{DeviceState, first_device}
use Rattle.device_core.specs.declared.uplink.Uplink.{Uplink}
use Rattle.device_core.specs.Events.{Event, Receives, HearsBytes, event_step, uplinks_taken}
use Rattle.device_core.specs.Configuration.{Configuration}
use Rattle.campaign_server.specs.Plan.{Plan}
use Rattle.campaign_server.specs.Server.{ServerState, first_server, ledger}
use Rattle.wire_base.specs.Numbered.{numbered}
use Rattle.campaign_server.specs.Fragments.{next_fragment, after_fragment, after_count, status_to_all, after_status_to_all}
use Rattle.campaign_server.specs.Uplinks.{with_answers, read_uplink, uplink_step}
use Rattle.campaign_server.specs.declared.stage.Stage.{Stage}
use Rattle.package_grammar.specs.declared.command.Command.{Command}
use Rattle.package_grammar.specs.Reading.{Reading, reading_of}
use Rattle.wire_base.specs.declared.refusal.Direction.TheVariants.{Up}
use Rattle.report_lines.specs.declared.faults.LineError.{LineError}
use Rattle.report_lines.proofs.Outcomes.{on_ok, on_ok_then}
use Rattle.campaign_world.specs.declared.numbered.SentPayload.{SentPayload}
use Rattle.campaign_world.specs.declared.numbered.NumberedUplink.{NumberedUplink}
use Rattle.campaign_world.specs.declared.section.Section.{Section}
use Rattle.campaign_world.specs.declared.section.Section.TheVariants as section
use Rattle.script_lines.specs.declared.forms.Form.{Form}
use Rattle.script_lines.specs.declared.forms.Form.TheVariants as form
use Rattle.campaign_world.specs.Causes.{is_event_or_end}
use Rattle.campaign_world.specs.World.{WorldState}
use Rattle.campaign_world.specs.Making.{with_joined, with_flash, with_device, after_form, reception, sent_frame, hearing, after_event_at, with_event, at_events}
use Rattle.campaign_world.specs.Script.{one_line_more}
use Rattle.campaign_world.specs.HeldWorld.{HeldCampaign, HeldWorld, WorldStands, KeepsEnds, Becomes, Plays, DevicesRest, held_with, world_of}
use Rattle.campaign_world.specs.HeldEvent.{OneHappens, PlaysEvent, after_happening, numbered_after}
use Rattle.campaign_world.specs.HeldLate.{Late, DeviceRests}
use Rattle.campaign_world.specs.WorldInside.{IsCampaign}
use Rattle.campaign_world.specs.PhaseInside.{is_end, section_by}
use Rattle.campaign_world.proofs.Lateness.{rests_empty}
use Rattle.campaign_world.proofs.Zips.{zip_some, zip_more, zip_back, set_there}

-- what was found
pub some_now : {X A : Type 0} (now : X → A) (found : Option X) (item : Option A) (x : X) → option_map now found ≡ item → found ≡ Some x → item ≡ Some (now x)
some_now now found item x is there = sym is ∙ ap (option_map now) there

pub none_now : {X A : Type 0} (now : X → A) (found : Option X) (item : Option A) → option_map now found ≡ item → found ≡ None → item ≡ None
none_now now found item is there = sym is ∙ ap (option_map now) there

-- the item with a number that there is
pub numbered_at : {A : Type 0} (items : List A) (n : ℕ) (x : A) → 1 ≤ n → slice_get items (n - 1) ≡ Some x → numbered items n ≡ Some x
numbered_at items n x first there = rw (not_none n first) there
  where
    not_none : (n : ℕ) → 1 ≤ n → (n == 0) ≡ false
    not_none n first = grind (arith, nat_tests)

-- the world after the event
abbrev Behind : HeldWorld → List Late → List NumberedUplink → HeldWorld
Behind held new_devices new_uplinks = record held { section = section.Events; devices = new_devices; uplinks = new_uplinks }

-- what happens at a device of a world that is held
abbrev HappensIn : HeldWorld → (after : DeviceState → DeviceState) → (device : ℕ) → List Late → List NumberedUplink → Type 0
HappensIn held after device new_devices new_uplinks = OneHappens after device held.devices new_devices held.uplinks new_uplinks

event_of_held : (held : HeldWorld) (ds : List DeviceState) (new_devices : List Late) (new_uplinks : List NumberedUplink) (device : ℕ)
    (after : DeviceState → DeviceState) (d : DeviceState) → DevicesRest held.devices ds → slice_get ds (device - 1) ≡ Some d
    → HappensIn held after device new_devices new_uplinks
    → WorldStands (Behind held new_devices new_uplinks) (at_events (with_device (world_of held ds) device (after d)))
unfolding with_device
event_of_held held ds new_devices new_uplinks device after d all there happens =
    record { devices = happens.rests ds d all there; rest = rw (happens.numbered ds d all there) refl }

-- an event that changes no record of a device
still_held : (held : HeldWorld) (ds : List DeviceState) (new_devices : List Late) (new_uplinks : List NumberedUplink) (device : ℕ)
    (d : DeviceState) → DevicesRest held.devices ds → slice_get ds (device - 1) ≡ Some d
    → HappensIn held (λ x. x) device new_devices new_uplinks
    → WorldStands (Behind held new_devices new_uplinks) (at_events (world_of held ds))
still_held held ds new_devices new_uplinks device d all there happens =
    let rests = zip_back DeviceRests held.devices ds (device - 1) d all there in
    let none : d.outbox ≡ [] = rests_empty rests.0 d rests.1 in
    let same : uplinks_taken d ≡ d = ap (λ (us : List Uplink). let x : DeviceState = record d { outbox = us } in x) (sym none) in
    let still : slice_set ds (device - 1) (uplinks_taken d) ≡ ds = ap (λ (x : DeviceState). slice_set ds (device - 1) x) same ∙ set_there ds (device - 1) d there in
    let uplinks : new_uplinks ≡ held.uplinks =
    happens.numbered ds d all there ∙ ap (λ (us : List Uplink). numbered_after held.uplinks device us) none ∙ append-nil held.uplinks in
    record {
      devices = subst (λ (xs : List DeviceState). DevicesRest new_devices xs) still (happens.rests ds d all there);
      rest = rw (uplinks) refl;
    }

at_held : (held : HeldWorld) (ds : List DeviceState) (new_devices : List Late) (new_uplinks : List NumberedUplink) (device : ℕ)
    (event : Option Event) → DevicesRest held.devices ds → 1 ≤ device → device ≤ length held.devices
    → HappensIn held (after_happening event) device new_devices new_uplinks
    → WorldStands (Behind held new_devices new_uplinks) (with_event (world_of held ds) device event)
at_held held ds new_devices new_uplinks device (Some event) all first last happens =
    let one = zip_some DeviceRests held.devices ds (device - 1) all (omega (arith, first, last)) in
    rw (numbered_at ds device one.0 first one.1)
    (event_of_held held ds new_devices new_uplinks device (λ d. event_step d event) one.0 all one.1 happens)
at_held held ds new_devices new_uplinks device None all first last happens =
    let one = zip_some DeviceRests held.devices ds (device - 1) all (omega (arith, first, last)) in
    rw (numbered_at ds device one.0 first one.1) (still_held held ds new_devices new_uplinks device one.0 all one.1 happens)

-- an event that the campaign lets happen at a device
pub event_at_step : (held : HeldWorld) (world : WorldState) (new_devices : List Late) (new_uplinks : List NumberedUplink) (device : ℕ)
    (of : WorldState → Option Event) (event : Option Event) → WorldStands held world → 1 ≤ device → device ≤ length held.devices
    → of (world_of held world.devices) ≡ event → HappensIn held (after_happening event) device new_devices new_uplinks
    → WorldStands (record held { section = section.Events; devices = new_devices; uplinks = new_uplinks })
    (with_event world device (of world))
event_at_step held world new_devices new_uplinks device of event stands first last is happens =
    subst (λ (w : WorldState). WorldStands (Behind held new_devices new_uplinks) (with_event w device (of w))) (sym stands.rest)
    (subst (λ (e : Option Event). WorldStands (Behind held new_devices new_uplinks) (with_event (world_of held world.devices) device e)) (sym is)
    (at_held held world.devices new_devices new_uplinks device event stands.devices first last happens))

-- so it is of a campaign that plays
pub event_plays : (old : HeldCampaign) (new_devices : List Late) (new_uplinks : List NumberedUplink) (id : ℕ) (event : Option Event)
    (r : Result (Unit {0}) AllocError) → 1 ≤ id → id ≤ length old.devices
    → OnOk r (OneHappens (after_happening event) id old.devices new_devices old.uplinks new_uplinks)
    → PlaysEvent id event old (record old { devices = new_devices; uplinks = new_uplinks }) r
event_plays old new_devices new_uplinks id event r first last happens lines of is here kept = on_ok r (λ ok. λ world stands.
    event_at_step (held_with lines here kept old) world new_devices new_uplinks id of event stands first last (is here kept world.devices)
    (on_ok_then r ok happens))

-- what comes to the same, of each world that is stood for, plays the same
pub plays_alike : (lines : ℕ) (old new : HeldCampaign) (r : Result (Unit {0}) AllocError) (after other : WorldState → WorldState)
    → ((here : Section) (kept : Option LineError) (world : WorldState) → WorldStands (held_with lines here kept old) world → after world ≡ other world)
    → Plays lines old new r after → Plays lines old new r other
plays_alike lines old new r after other same plays here kept = on_ok r (λ ok. λ world stands.
    subst (λ (w : WorldState). WorldStands (held_with lines section.Events kept new) w) (same here kept world stands)
    (on_ok_then r ok (plays here kept) world stands))

-- the frame of a payload that was sent
pub frame_step : (lines : ℕ) (old new : HeldCampaign) (device number word : ℕ) (bytes : List ℕ) (r : Result (Unit {0}) AllocError)
    → sent_frame old.server.plan.group (numbered old.sent number) ≡ Some bytes
    → Plays lines old new r (λ world. with_event world device (Some (HearsBytes world.time word (world.lines + 1) bytes)))
    → Plays lines old new r (λ world. with_event world device (hearing world.time word (world.lines + 1)
    (sent_frame world.server.plan.group (numbered world.sent number))))
frame_step lines old new device number word bytes r is =
    plays_alike lines old new r _ _ (λ here kept world stands.
    let frame : sent_frame world.server.plan.group (numbered world.sent number) ≡ Some bytes =
    ap (λ (w : WorldState). sent_frame w.server.plan.group (numbered w.sent number)) stands.rest ∙ is in
    ap (λ (o : Option (List ℕ)). with_event world device (hearing world.time word (world.lines + 1) o)) (sym frame))

-- power that comes changes nothing
pub power_step : (lines : ℕ) (old new : HeldCampaign) (device : ℕ) (r : Result (Unit {0}) AllocError)
    → Plays lines old new r (λ world. with_event world device None) → Plays lines old new r (λ world. at_events world)
power_step lines old new device r =
    plays_alike lines old new r _ _ (λ here kept world stands. ap at_events (no_event world device (numbered world.devices device)))
  where
    no_event : (world : WorldState) (device : ℕ) (d : Option DeviceState) → after_event_at world device d None ≡ world
    no_event world device None = refl
    no_event world device (Some d) = refl

-- a payload that was sent
pub reception_of : (time word line : ℕ) (o : Option SentPayload) (sent : SentPayload) → o ≡ Some sent
    → reception time word line o ≡ Some (Receives time word line sent.down)
reception_of time word line o sent is = rw (is) refl

-- ---- what a server keeps

pub record KeepsPlan (old new : ServerState) : Type 0 where
  pub image : new.image ≡ old.image
  pub plan : new.plan ≡ old.plan

counted_or_not : (server counted : ServerState) (test : Bool) → KeepsPlan server counted → KeepsPlan server (cond test counted server)
counted_or_not server counted true keeps = keeps
counted_or_not server counted false keeps = record { image = refl; plan = refl }

pub kept_after_fragment : (server : ServerState) → KeepsPlan server (after_fragment server)
unfolding after_fragment
kept_after_fragment server =
    counted_or_not server (after_count (record server { next = server.next + 1 })) (is_ok (next_fragment server)) (record { image = refl; plan = refl })

pub kept_after_status : (server : ServerState) → KeepsPlan server (after_status_to_all server)
unfolding after_status_to_all
kept_after_status server = counted_or_not server (after_count server) (is_some (status_to_all server)) (record { image = refl; plan = refl })

kept_with_answers : (server : ServerState) (dev : ℕ) (cs : List Command) (stage : Option Stage) → KeepsPlan server (with_answers server dev cs stage)
kept_with_answers server dev cs None = record { image = refl; plan = refl }
kept_with_answers server dev cs (Some stage) = record { image = refl; plan = refl }

kept_by_reading : (server : ServerState) (dev t : ℕ) (reading : Reading) → KeepsPlan server (read_uplink server dev t reading).server
unfolding read_uplink
kept_by_reading server dev t (Ok cs) = kept_with_answers server dev cs (ledger server dev)
kept_by_reading server dev t (Err refusal) = record { image = refl; plan = refl }

pub kept_after_uplink : (server : ServerState) (dev port : ℕ) (payload : List ℕ) (t : ℕ) → KeepsPlan server (uplink_step server dev port payload t).server
unfolding uplink_step
kept_after_uplink server dev port payload t = kept_by_reading server dev t (reading_of port Up payload)

-- so a campaign stays one
pub stays_campaign : (time : ℕ) (old new : ServerState) (devices : List Late) (uplinks : List NumberedUplink) → KeepsPlan old new
    → IsCampaign time old devices uplinks → IsCampaign time new devices uplinks
stays_campaign time old new devices uplinks keeps is = record {
  image_is = rw (keeps.image) is.image_is;
  timed = is.timed;
  few = is.few;
  numbers = rw (keeps.plan) is.numbers;
  made = is.made;
}

-- and so it does after an event at a device
pub stays_reached : (time : ℕ) (server : ServerState) (old new : List Late) (uplinks new_uplinks : List NumberedUplink) (id : ℕ)
    (after : DeviceState → DeviceState) (r : Result (Unit {0}) AllocError)
    → OnOk r (OneHappens after id old new uplinks new_uplinks) → OnErr r (new ≡ old) → OnErr r (new_uplinks ≡ uplinks)
    → id ≤ length old → IsCampaign time server old uplinks → IsCampaign time server new new_uplinks
stays_reached time server old new uplinks new_uplinks id after (Ok ok) happens same still last is = record {
  image_is = is.image_is;
  timed = is.timed;
  few = rw (happens.count) is.few;
  numbers = is.numbers ∙ sym happens.count;
  made = rw (happens.count) (happens.made (length old) last is.made);
}
stays_reached time server old new uplinks new_uplinks id after (Err e) happens same still last is = rw (same, still) is

-- ---- a device joins

-- what a plan holds
abbrev Planned : (image : List ℕ) → Plan → List Late → (flash : List ℕ) → HeldCampaign
Planned image plan devices flash =
    record { time = 0; server = first_server image plan; devices = devices; flash = flash; sent = []; uplinks = [] }

-- the plan with one device more
abbrev planned_more : Plan → Configuration → Plan
planned_more plan config = record plan { devices = plan.devices ++ record { key = config.key; root = config.root } ∷ [] }

join_held : (lines : ℕ) (here : Section) (kept : Option LineError) (image : List ℕ) (plan new_plan : Plan)
    (devices new_devices : List Late) (ids new_ids : List ℕ) (id : ℕ)
    (ds : List DeviceState) (config : Configuration) (device : Late) → DevicesRest devices ds → new_plan ≡ planned_more plan config
    → new_devices ≡ devices ++ device ∷ [] → new_ids ≡ with_flash ids id config.held → DeviceRests device (first_device config)
    → WorldStands (held_with lines section.Devices kept (Planned image new_plan new_devices new_ids))
    (with_joined (world_of (held_with lines here kept (Planned image plan devices ids)) ds) id config)
join_held lines here kept image plan new_plan devices new_devices ids new_ids id ds config device all plan_is devices_are
    ids_are joins =
    rw (plan_is, devices_are, ids_are)
    (record { devices = zip_more DeviceRests devices ds device (first_device config) all joins; rest = refl })

pub join_step : (lines : ℕ) (here : Section) (kept : Option LineError) (image : List ℕ) (plan new_plan : Plan)
    (devices new_devices : List Late) (ids new_ids : List ℕ) (id : ℕ)
    (world : WorldState) (config : Configuration) (device : Late)
    → WorldStands (held_with lines here kept (Planned image plan devices ids)) world → new_plan ≡ planned_more plan config
    → new_devices ≡ devices ++ device ∷ [] → new_ids ≡ with_flash ids id config.held → DeviceRests device (first_device config)
    → WorldStands (held_with lines section.Devices kept (Planned image new_plan new_devices new_ids))
    (with_joined world id config)
join_step lines here kept image plan new_plan devices new_devices ids new_ids id world config device stands plan_is
    devices_are ids_are joins =
    subst (λ (w : WorldState). WorldStands (held_with lines section.Devices kept (Planned image new_plan new_devices new_ids))
    (with_joined w id config)) (sym stands.rest)
    (join_held lines here kept image plan new_plan devices new_devices ids new_ids id world.devices config device
    stands.devices plan_is devices_are ids_are joins)

-- ---- an event, and the end

-- after an event more of them come, and after the end none
event_section : (world : WorldState) (f : Form) → is_event_or_end f ≡ true
    → after_form world f ≡ record (at_events (after_form world f)) { section = section_by (is_end f) }
unfolding after_form
event_section world form.Header event = absurd cc
event_section world (form.Image frag_size parity index) event = absurd cc
event_section world (form.Group id addr key min max) event = absurd cc
event_section world (form.WindowC start timeout freq dr) event = absurd cc
event_section world (form.WindowB start periodicity timeout freq dr) event = absurd cc
event_section world (form.Device dev) event = absurd cc
event_section world (form.At time) event = refl
event_section world (form.Wake device) event = refl
event_section world (form.Migrate device) event = refl
event_section world (form.Power device) event = refl
event_section world (form.Ask device) event = refl
event_section world form.Frag event = refl
event_section world form.Status event = refl
event_section world (form.Down number device word) event = refl
event_section world (form.Raw device port payload word) event = refl
event_section world (form.Air number device word) event = refl
event_section world (form.RawAir device bytes word) event = refl
event_section world (form.Up number) event = refl
event_section world form.End event = refl

section_stands : (lines : ℕ) (kept : Option LineError) (held : HeldCampaign) (world : WorldState) (f : Form) → is_event_or_end f ≡ true
    → WorldStands (held_with lines section.Events kept held) (at_events (after_form world f))
    → WorldStands (held_with lines (section_by (is_end f)) kept held) (after_form world f)
section_stands lines kept held world f event stands =
    subst (λ (w : WorldState). WorldStands (held_with lines (section_by (is_end f)) kept held) w) (sym (event_section world f event))
    (record { devices = stands.devices; rest = ap (λ (w : WorldState). record w { section = section_by (is_end f) }) stands.rest })

-- what a campaign makes of an event is what the form makes of it
pub played_step : (lines : ℕ) (here : Section) (old new : HeldCampaign) (r : Result (Unit {0}) AllocError) (f : Form) → is_event_or_end f ≡ true
    → Plays lines old new r (λ world. at_events (after_form world f)) → Becomes lines here (section_by (is_end f)) old new r (λ world. after_form world f)
played_step lines here old new r f event plays kept =
    on_ok r (λ ok. λ world stands. section_stands lines kept new world f event (on_ok_then r ok (plays here kept) world stands))

-- after its line there is one line more
pub one_more_stands : (held : HeldWorld) (world : WorldState) → WorldStands held world
    → WorldStands (record held { lines = held.lines + 1 }) (one_line_more world)
one_more_stands held world stands = record { devices = stands.devices; rest = ap one_line_more stands.rest }

-- ---- what stays where memory is missing

-- devices and server are as they were
pub ends_alike : (old new : HeldWorld) → new.devices ≡ old.devices → new.server ≡ old.server → KeepsEnds old new
ends_alike old new devices server world stands = record {
  devices = rw (devices) stands.devices;
  server = ap (λ (w : WorldState). w.server) stands.rest ∙ sym server;
}
