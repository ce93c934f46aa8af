-- The first cause for which a form is refused, test by test.
use Rattle.std.proofs.Common.{◌≡◌, ℕ, ◌≤◌, ◌<◌, ◌*◌, ◌^◌, ◌+◌, zero, suc, Bool, true, false, not, cond, ◌==◌, ◌&&◌, List, [], ◌∷◌, length, nat_lt, nat_le, Option, Some, None, refl, sym, ap, ◌∙◌, arith, is_ok, subst, inl, inr, ◌⊎◌, is_some, ne_eqb}
use Rattle.std.proofs.lemmas.Grind.{div_ceil_times}
use Rattle.std.proofs.lemmas.Bool.{leb-true, le-leb, ltb-true, lt-ltb, and_parts}
use Rattle.std.proofs.lemmas.Bool.Decides.{nat_tests}
use Rattle.frag_encoder.specs.Encoding.{nb_frag_of}
use Rattle.image_slots.specs.Image.{is_image}
use Rattle.image_slots.proofs.ImageLemmas.{image_long}
use Rattle.device_core.specs.Device.{DeviceState, max_formats}
use Rattle.campaign_server.specs.declared.plan.PlanGroup.{PlanGroup}
use Rattle.campaign_server.specs.Plan.{Plan, is_frag_size, is_group, bad_field}
use Rattle.campaign_server.specs.declared.plan.Field.{Field}
use Rattle.campaign_server.specs.Server.{first_count, first_server}
use Rattle.campaign_server.specs.Fragments.{next_fragment, last_fragment, has_no_count, status_to_all}
use Rattle.script_lines.specs.declared.forms.Form.{Form}
use Rattle.script_lines.specs.declared.forms.DeviceLine.{DeviceLine}
use Rattle.script_lines.specs.declared.forms.Form.TheVariants as form
use Rattle.script_lines.specs.Ranges.{in_range}
use Rattle.report_lines.specs.declared.faults.LineWhy.{LineWhy}
use Rattle.report_lines.specs.declared.faults.LineWhy.TheVariants as why
use Rattle.campaign_world.specs.declared.section.Section.{Section}
use Rattle.campaign_world.specs.declared.section.Section.TheVariants as place
use Rattle.campaign_world.specs.World.{WorldState}
use Rattle.campaign_world.specs.Causes.{is_device, is_event_or_end, is_in_order, fits_script, names_device, has_flash, is_available, is_not_past, fits_flash, fits_payload, has_more, form_cause, line_cause, cause_of}
use Rattle.campaign_world.specs.Said.{Line, own, line_of}
use Rattle.script_lines.specs.Forms.{form_of}
use Rattle.script_lines.specs.Limits.{max_lines, max_line, max_time, max_rows, max_devices}
use Rattle.frag_model.specs.Limits.{max_pieces}
use Rattle.campaign_world.specs.HeldLate.{Late}
use Rattle.campaign_world.specs.HeldWorld.{HeldCampaign, held_with, world_of, IsFine, IsTested}
use Rattle.campaign_world.specs.PhaseInside.{section_by}
use Rattle.report_lines.specs.declared.faults.LineError.{LineError}
use Rattle.flash_session.specs.Layout.{records_place}
use Rattle.campaign_world.specs.Making.{device_of, formats_of, span_of}
use Rattle.script_lines.specs.declared.forms.Class.TheVariants as class
use Rattle.campaign_world.specs.WorldInside.{IsPlanned, IsPlanning, IsSized, IsWindowed, IsToBegin}
use Rattle.campaign_world.proofs.Sections.{by_section, never, clash}

pub order : (world : WorldState) (form : Form) → is_in_order world.section form ≡ false → form_cause world form ≡ Some why.Order
unfolding form_cause
order world form fails = rw (fails) refl

-- what holds of a form before its device is looked at
pub record Fits (world : WorldState) (form : Form) : Type 0 where
  pub comes : is_in_order world.section form ≡ true
  pub ranges : in_range form ≡ true
  pub fits : fits_script (length world.server.image) (length world.devices) form ≡ true

pub none : (world : WorldState) (form : Form) → Fits world form → names_device (length world.devices) form ≡ true
    → has_flash world.flash form ≡ true → is_available world.sent world.uplinks world.time form ≡ true
    → is_not_past world.time form ≡ true → fits_flash (length world.flash) form ≡ true → fits_payload form ≡ true
    → has_more world.server form ≡ true → form_cause world form ≡ None
unfolding form_cause
none world form so_far names flash come timed room short more =
    rw (so_far.comes, so_far.ranges, so_far.fits, names, flash, come, timed, room, short, more) refl

-- ---- at its start the server has something to send

some_piece : (len frag_size n : ℕ) → 1 ≤ len → len ≤ n * frag_size → 1 ≤ n
some_piece len frag_size zero some fits = absurd (omega (arith, some, fits))
some_piece len frag_size (suc n) some fits = omega arith

not_below : (n : ℕ) → 1 ≤ n → nat_lt n 1 ≡ false
not_below zero some = absurd (omega (arith, some))
not_below (suc n) some = grind (arith, nat_tests)

pieces_and : (n parity : ℕ) → 1 ≤ n → 1 ≤ n + parity
pieces_and n parity some = omega (arith, some)

-- a group has a first frame count
counts_left : (group : Option PlanGroup) → is_group group ≡ true → has_no_count group (first_count group) ≡ false
counts_left None fine = refl
counts_left (Some group) fine = let less = ltb-true group.min group.max (and_parts (nat_lt group.min group.max) (nat_le group.id 3) fine).0 in ne_eqb group.min group.max (omega (arith, less))

pub first_fragment : (image : List ℕ) (plan : Plan) → is_image image ≡ true → 1 ≤ plan.frag_size → is_group plan.group ≡ true → is_ok (next_fragment (first_server image plan)) ≡ true
unfolding next_fragment
first_fragment image plan fine some grouped =
    let bound = (div_ceil_times (length image) plan.frag_size some).0 in
    let pieces : 1 ≤ nb_frag_of (length image) plan.frag_size = some_piece (length image) plan.frag_size (nb_frag_of (length image) plan.frag_size) (omega (arith, image_long image fine)) bound in
    rw (not_below (last_fragment (first_server image plan)) (pieces_and _ _ pieces), counts_left plan.group grouped) refl

pub first_status : (image : List ℕ) (plan : Plan) → is_group plan.group ≡ true → is_some (status_to_all (first_server image plan)) ≡ true
unfolding status_to_all
first_status image plan grouped = rw (counts_left plan.group grouped) refl

-- an image line that is in range has a fragment size from 1 to 239
pub size_in_range : (f : Form) → in_range f ≡ true → (frag_size parity index : ℕ) → f ≡ form.Image frag_size parity index → (1 ≤ frag_size) × (frag_size ≤ 239)
unfolding in_range
size_in_range f ranges frag_size parity index is =
    let all : (nat_le 1 frag_size && nat_le frag_size 239 && nat_le parity 512 && nat_le index 3) ≡ true = rw is at ranges in
    let both : (nat_le 1 frag_size && nat_le frag_size 239 && nat_le parity 512) ≡ true = (and_parts _ _ all).0 in
    let first = (and_parts _ _ both).0 in
    (leb-true _ _ (and_parts _ _ first).0, leb-true _ _ (and_parts _ _ first).1)

-- ---- the causes of a line

pub many_lines : (world : WorldState) (line : List ℕ) → max_lines ≤ world.lines → cause_of world (line_of line) ≡ Some why.Limit
unfolding cause_of
many_lines world line many = rw (le-leb _ _ many) refl

-- either way the line is refused, and with the same cause
limit_by : (full : Bool) → cond full (Some why.Limit) (Some why.Limit) ≡ Some why.Limit
limit_by true = refl
limit_by false = refl

pub long_line : (world : WorldState) (line : List ℕ) → max_line < length line → cause_of world (line_of line) ≡ Some why.Limit
unfolding cause_of
long_line world line long = rw (lt-ltb _ _ long) (limit_by (nat_le max_lines world.lines))

not_le : (a b : ℕ) → b < a → nat_le a b ≡ false
not_le a b below = grind (arith, nat_tests)

not_lt : (a b : ℕ) → b ≤ a → nat_lt a b ≡ false
not_lt a b below = grind (arith, nat_tests)

-- what a line says that is short enough
pub short_line : (line : List ℕ) (form : Option Form) → length line ≤ max_line → form ≡ form_of line → line_of line ≡ own form
short_line line form short is = rw (not_lt max_line (length line) short, ← is) refl

pub of_line : (world : WorldState) (line : Line) (cause : Option LineWhy) → world.lines < max_lines → line_cause world line ≡ cause
    → cause_of world line ≡ cause
unfolding cause_of
of_line world line cause few gives = rw (not_le max_lines world.lines few) gives

pub of_form : (world : WorldState) (line : List ℕ) (form : Option Form) (cause : Option LineWhy) → world.lines < max_lines → length line ≤ max_line
    → form ≡ form_of line → line_cause world (own form) ≡ cause → cause_of world (line_of line) ≡ cause
of_form world line form cause few short is gives =
    of_line world (line_of line) cause few (ap (λ (l : Line). line_cause world l) (short_line line form short is) ∙ gives)

pub some_form : (world : WorldState) (form : Form) (cause : Option LineWhy) → cause ≡ form_cause world form → line_cause world (own (Some form)) ≡ cause
some_form world form cause gives = sym gives

pub no_form : (world : WorldState) (form : Option Form) → form ≡ None → line_cause world (own form) ≡ Some why.Syntax
no_form world form is = rw (is) refl

pub the_form : (world : WorldState) (found : Option Form) (form : Form) (cause : Option LineWhy) → found ≡ Some form → line_cause world (own (Some form)) ≡ cause → line_cause world (own found) ≡ cause
the_form world found form cause is gives = rw (is) gives

-- ---- a form of which no cause holds

pub record Passes (world : WorldState) (form : Form) : Type 0 where
  pub comes : is_in_order world.section form ≡ true
  pub ranges : in_range form ≡ true
  pub fits : fits_script (length world.server.image) (length world.devices) form ≡ true
  pub names : names_device (length world.devices) form ≡ true
  pub flash : has_flash world.flash form ≡ true
  pub come : is_available world.sent world.uplinks world.time form ≡ true
  pub timed : is_not_past world.time form ≡ true
  pub room : fits_flash (length world.flash) form ≡ true
  pub short : fits_payload form ≡ true

-- a test that fails gives no cause
passed : (test : Bool) (cause : LineWhy) (rest : Option LineWhy) → cond (not test) (Some cause) rest ≡ None → (test ≡ true) × (rest ≡ None)
passed true cause rest is = (refl, is)
passed false cause rest is = absurd cc

pub passes : (world : WorldState) (form : Form) → form_cause world form ≡ None → Passes world form
unfolding form_cause
passes world form fine =
    let one = passed (is_in_order world.section form) _ _ fine in
    let two = passed (in_range form && fits_script (length world.server.image) (length world.devices) form) _ _ one.1 in
    let both = and_parts _ _ two.0 in
    let three = passed (names_device (length world.devices) form && has_flash world.flash form) _ _ two.1 in
    let named = and_parts _ _ three.0 in
    let four = passed (is_available world.sent world.uplinks world.time form) _ _ three.1 in
    let five = passed (is_not_past world.time form) _ _ four.1 in
    let six = passed (fits_flash (length world.flash) form && fits_payload form) _ _ five.1 in
    let last = and_parts _ _ six.0 in
    record {
      comes = one.0;
      ranges = both.0;
      fits = both.1;
      names = named.0;
      flash = named.1;
      come = four.0;
      timed = five.0;
      room = last.0;
      short = last.1;
    }

-- ---- what it is that the form of an event names

named_within : (count device : ℕ) → is_device count device ≡ true → (1 ≤ device) × (device ≤ count)
named_within count device is = let both = and_parts _ _ is in (leb-true 1 device both.0, leb-true device count both.1)

-- so an ID fits a byte
pub named_few : (inside held : HeldCampaign) (device : ℕ) → inside ≡ held → length inside.devices ≤ 64
    → is_device (length held.devices) device ≡ true → device ≤ 64
named_few inside held device same few is =
    let last = (named_within (length held.devices) device is).1 in
    omega (arith, last, subst (λ (h : HeldCampaign). length h.devices ≤ 64) same few)

-- a raw line that is in range has a port and a random word, and one that fits has a payload
pub record Striking (port word : ℕ) : Type 0 where
  pub port_fits : port ≤ 255
  pub word_fits : word < 2 ^ 32

pub striking : (f : Form) (device port : ℕ) (payload : List ℕ) (word : ℕ) → in_range f ≡ true → f ≡ form.Raw device port payload word → Striking port word
unfolding in_range
striking f device port payload word ranges is =
    let all : (nat_le port 255 && nat_lt word (2 ^ 32)) ≡ true = rw is at ranges in
    let both = and_parts (nat_le port 255) (nat_lt word (2 ^ 32)) all in
    record { port_fits = leb-true _ _ both.0; word_fits = ltb-true _ _ both.1 }

pub time_within : (f : Form) (time : ℕ) → in_range f ≡ true → f ≡ form.At time → time ≤ max_time
unfolding in_range
time_within f time ranges is = let fits : nat_le time max_time ≡ true = rw is at ranges in leb-true _ _ fits

-- ---- what is fine of what is held

-- so many devices, whichever
pub some_devices : (n : ℕ) → (ds : List DeviceState) × (length ds ≡ n)
some_devices zero = ([], refl)
some_devices (suc n) = let more = some_devices n in (device_of (record { id = 0; class = class.C; hw = 0; rows = 0; offset = 0; key = []; descriptor = None; v1 = false; k11 = false; flash = false }) ∷ more.0, ap suc more.1)

pub fine_of : (lines : ℕ) (section : Section) (kept : Option LineError) (held : HeldCampaign) (form : Form)
    → IsFine (held_with lines section kept held) form → (is_in_order section form ≡ true) × IsTested held form
fine_of lines section kept held form fine =
    let some = some_devices (length held.devices) in
    let all = passes (world_of (held_with lines section kept held) some.0) form (fine some.0 some.1) in (
      all.comes,
      record {
        ranges = all.ranges;
        fits = subst (λ (n : ℕ). fits_script (length held.server.image) n form ≡ true) some.1 all.fits;
        names = subst (λ (n : ℕ). names_device n form ≡ true) some.1 all.names;
        available = all.come;
        short = all.short;
      },
    )

-- ---- where a form may come

at_events_only : (test : Section → Bool) → test place.Header ≡ false → test place.Image ≡ false → test place.Group ≡ false → test place.Window ≡ false → test place.Device ≡ false → test place.Ended ≡ false
    → (s : Section) → test s ≡ true → (s ≡ place.Devices) ⊎ (s ≡ place.Events)
at_events_only test one two three four five six =
    by_section (λ (s : Section). test s ≡ true → (s ≡ place.Devices) ⊎ (s ≡ place.Events)) (clash _ one) (clash _ two) (clash _ three)
    (clash _ four) (clash _ five) (λ comes. inl refl) (λ comes. inr refl) (clash _ six)

pub event_at : (s : Section) (f : Form) → is_event_or_end f ≡ true → is_in_order s f ≡ true → (s ≡ place.Devices) ⊎ (s ≡ place.Events)
event_at s form.Header event comes = absurd cc
event_at s (form.Image frag_size parity index) event comes = absurd cc
event_at s (form.Group id addr key min max) event comes = absurd cc
event_at s (form.WindowC start timeout freq dr) event comes = absurd cc
event_at s (form.WindowB start periodicity timeout freq dr) event comes = absurd cc
event_at s (form.Device dev) event comes = absurd cc
event_at s (form.At time) event comes = at_events_only (λ (x : Section). is_in_order x (form.At time)) refl refl refl refl refl refl s comes
event_at s (form.Wake device) event comes = at_events_only (λ (x : Section). is_in_order x (form.Wake device)) refl refl refl refl refl refl s comes
event_at s (form.Migrate device) event comes = at_events_only (λ (x : Section). is_in_order x (form.Migrate device)) refl refl refl refl refl refl s comes
event_at s (form.Power device) event comes = at_events_only (λ (x : Section). is_in_order x (form.Power device)) refl refl refl refl refl refl s comes
event_at s (form.Ask device) event comes = at_events_only (λ (x : Section). is_in_order x (form.Ask device)) refl refl refl refl refl refl s comes
event_at s form.Frag event comes = at_events_only (λ (x : Section). is_in_order x form.Frag) refl refl refl refl refl refl s comes
event_at s form.Status event comes = at_events_only (λ (x : Section). is_in_order x form.Status) refl refl refl refl refl refl s comes
event_at s (form.Down number device word) event comes = at_events_only (λ (x : Section). is_in_order x (form.Down number device word)) refl refl refl refl refl refl s comes
event_at s (form.Raw device port payload word) event comes = at_events_only (λ (x : Section). is_in_order x (form.Raw device port payload word)) refl refl refl refl refl refl s comes
event_at s (form.Air number device word) event comes =
    at_events_only (λ (x : Section). is_in_order x (form.Air number device word)) refl refl refl refl refl refl s comes
event_at s (form.RawAir device bytes word) event comes =
    at_events_only (λ (x : Section). is_in_order x (form.RawAir device bytes word)) refl refl refl refl refl refl s comes
event_at s (form.Up number) event comes = at_events_only (λ (x : Section). is_in_order x (form.Up number)) refl refl refl refl refl refl s comes
event_at s form.End event comes = at_events_only (λ (x : Section). is_in_order x form.End) refl refl refl refl refl refl s comes

-- a plan after which an event may come begins
pub begins_at : (image : List ℕ) (s : Section) (plan : Plan) (devices : List Late) (f : Form) → is_event_or_end f ≡ true → is_in_order s f ≡ true
    → IsPlanning image s plan devices → IsToBegin image plan devices
begins_at image s plan devices f event comes is = by_section (event_at s f event comes)
  where
    by_section : (s ≡ place.Devices) ⊎ (s ≡ place.Events) → IsToBegin image plan devices
    by_section (inl here) =
        let there = subst (λ (x : Section). IsPlanned image x plan devices) here is.planned in
        record { image_is = is.image_is; sized = there.0; windowed = there.1; some = there.2 }
    by_section (inr here) = absurd (subst (λ (x : Section). IsPlanned image x plan devices) here is.planned)

-- what comes where a campaign plays is an event, or the end
pub event_comes : (has_ended : Bool) (f : Form) → is_in_order (section_by has_ended) f ≡ true → is_event_or_end f ≡ true
event_comes false f comes = comes
event_comes true f comes = absurd cc

pub image_at : (s : Section) (f : Form) (frag_size parity index : ℕ) → f ≡ form.Image frag_size parity index → is_in_order s f ≡ true → s ≡ place.Image
image_at s f frag_size parity index is comes =
    by_section (λ (x : Section). is_in_order x (form.Image frag_size parity index) ≡ true → x ≡ place.Image) never (λ c. refl) never never never never never never
    s (rw is at comes)

pub header_at : (s : Section) (f : Form) → f ≡ form.Header → is_in_order s f ≡ true → s ≡ place.Header
header_at s f is comes =
    by_section (λ (x : Section). is_in_order x form.Header ≡ true → x ≡ place.Header) (λ c. refl) never never never never never never never s (rw is at comes)

-- without a group no window is needed
alone : (plan : Plan) → plan.group ≡ None → plan.window ≡ None → IsWindowed plan
alone plan no_group no_window = rw (no_group, no_window) refl

pub joins_at : (image : List ℕ) (s : Section) (plan : Plan) (devices : List Late) (f : Form) (dev : DeviceLine)
    → f ≡ form.Device dev → is_in_order s f ≡ true → IsPlanned image s plan devices → IsSized image plan devices × IsWindowed plan
joins_at image s plan devices f dev is comes planned =
    by_section (λ (x : Section). is_in_order x (form.Device dev) ≡ true → IsPlanned image x plan devices
    → IsSized image plan devices × IsWindowed plan) never never (λ c was. (was.0, alone plan was.1 was.2)) never (λ c was. was)
    (λ c was. (was.0, was.1)) never never s (rw is at comes) planned

-- where the group's line and its window's line may come
pub group_at : (s : Section) (f : Form) (id addr min max : ℕ) (key : List ℕ) → f ≡ form.Group id addr key min max → is_in_order s f ≡ true → s ≡ place.Group
group_at s f id addr min max key is comes =
    by_section (λ (x : Section). is_in_order x (form.Group id addr key min max) ≡ true → x ≡ place.Group) never never (λ c. refl) never never never never never
    s (rw is at comes)

window_only : (test : Section → Bool) → test place.Header ≡ false → test place.Image ≡ false → test place.Group ≡ false → test place.Device ≡ false → test place.Devices ≡ false → test place.Events ≡ false → test place.Ended ≡ false
    → (s : Section) → test s ≡ true → s ≡ place.Window
window_only test one two three four five six seven =
    by_section (λ (s : Section). test s ≡ true → s ≡ place.Window) (clash _ one) (clash _ two) (clash _ three) (λ comes. refl) (clash _ four)
    (clash _ five) (clash _ six) (clash _ seven)

pub window_c_at : (s : Section) (f : Form) (start timeout freq dr : ℕ) → f ≡ form.WindowC start timeout freq dr → is_in_order s f ≡ true → s ≡ place.Window
window_c_at s f start timeout freq dr is comes = window_only (λ (x : Section). is_in_order x (form.WindowC start timeout freq dr)) refl refl refl refl refl refl refl s (rw is at comes)

pub window_b_at : (s : Section) (f : Form) (start periodicity timeout freq dr : ℕ) → f ≡ form.WindowB start periodicity timeout freq dr → is_in_order s f ≡ true → s ≡ place.Window
window_b_at s f start periodicity timeout freq dr is comes = window_only (λ (x : Section). is_in_order x (form.WindowB start periodicity timeout freq dr)) refl refl refl refl refl refl refl s (rw is at comes)

-- a group's line that is in range has numbers that a plan takes
pub record Counting (id min max : ℕ) : Type 0 where
  pub first : min < 2 ^ 32
  pub last : max < 2 ^ 32
  pub some : min < max
  pub named : id ≤ 3

pub counting : (f : Form) (id addr min max : ℕ) (key : List ℕ) → f ≡ form.Group id addr key min max → in_range f ≡ true → Counting id min max
unfolding in_range
counting f id addr min max key is ranges =
    let whole : (nat_lt min (2 ^ 32) && nat_lt max (2 ^ 32) && nat_lt min max && nat_le id 3) ≡ true = rw is at ranges in
    let both = and_parts (nat_lt min (2 ^ 32) && nat_lt max (2 ^ 32) && nat_lt min max) (nat_le id 3) whole in
    let a = and_parts (nat_lt min (2 ^ 32) && nat_lt max (2 ^ 32)) (nat_lt min max) both.0 in
    let b = and_parts (nat_lt min (2 ^ 32)) (nat_lt max (2 ^ 32)) a.0 in
    record { first = ltb-true _ _ b.0; last = ltb-true _ _ b.1; some = ltb-true _ _ a.1; named = leb-true _ _ both.1 }

-- and so has a window's line
pub record Opening (start timeout freq dr : ℕ) : Type 0 where
  pub start_fits : start < 2 ^ 32
  pub timeout_fits : timeout ≤ 15
  pub freq_fits : freq < 2 ^ 24
  pub dr_fits : dr ≤ 255
  pub test : (nat_lt start (2 ^ 32) && nat_le timeout 15 && nat_lt freq (2 ^ 24) && nat_le dr 255) ≡ true

opening : (start timeout freq dr : ℕ) → (nat_lt start (2 ^ 32) && nat_le timeout 15 && nat_lt freq (2 ^ 24) && nat_le dr 255) ≡ true → Opening start timeout freq dr
opening start timeout freq dr all =
    let a = and_parts (nat_lt start (2 ^ 32) && nat_le timeout 15 && nat_lt freq (2 ^ 24)) (nat_le dr 255) all in
    let b = and_parts (nat_lt start (2 ^ 32) && nat_le timeout 15) (nat_lt freq (2 ^ 24)) a.0 in
    let c = and_parts (nat_lt start (2 ^ 32)) (nat_le timeout 15) b.0 in
    record {
      start_fits = ltb-true _ _ c.0;
      timeout_fits = leb-true _ _ c.1;
      freq_fits = ltb-true _ _ b.1;
      dr_fits = leb-true _ _ a.1;
      test = all;
    }

pub opening_c : (f : Form) (start timeout freq dr : ℕ) → f ≡ form.WindowC start timeout freq dr → in_range f ≡ true → Opening start timeout freq dr
unfolding in_range
opening_c f start timeout freq dr is ranges = opening start timeout freq dr (rw is at ranges)

pub opening_b : (f : Form) (start periodicity timeout freq dr : ℕ) → f ≡ form.WindowB start periodicity timeout freq dr → in_range f ≡ true → Opening start timeout freq dr × (periodicity ≤ 7)
unfolding in_range
opening_b f start periodicity timeout freq dr is ranges =
    let all : ((nat_lt start (2 ^ 32) && nat_le timeout 15 && nat_lt freq (2 ^ 24) && nat_le dr 255) && nat_le periodicity 7) ≡ true = rw is at ranges in
    let both = and_parts (nat_lt start (2 ^ 32) && nat_le timeout 15 && nat_lt freq (2 ^ 24) && nat_le dr 255) (nat_le periodicity 7) all in
    (opening start timeout freq dr both.0, leb-true _ _ both.1)

-- an image line that is fine has numbers that a plan takes
pub cuts_well : (image : List ℕ) (count : ℕ) (f : Form) (frag_size parity index : ℕ) → f ≡ form.Image frag_size parity index → in_range f ≡ true → fits_script (length image) count f ≡ true
    → (is_frag_size (length image) frag_size ≡ true) × (frag_size ≤ 239) × (parity ≤ 512) × (index ≤ 3)
unfolding in_range
cuts_well image count f frag_size parity index is ranges fits =
    let all : (nat_le 1 frag_size && nat_le frag_size 239 && nat_le parity 512 && nat_le index 3) ≡ true = rw is at ranges in
    let whole = and_parts (nat_le 1 frag_size && nat_le frag_size 239 && nat_le parity 512) (nat_le index 3) all in
    let first = and_parts _ _ whole.0 in
    let number : nat_le (nb_frag_of (length image) frag_size) max_pieces ≡ true = rw is at fits in
    let low : (nat_le 1 frag_size && nat_le frag_size 239) ≡ true = first.0 in
    (rw (low, number) refl, leb-true _ _ (and_parts _ _ first.0).1, leb-true _ _ first.1, leb-true _ _ whole.1)

-- a device knows only image format 1, or both
pub known_formats : (v1 : Bool) → (nat_le 1 (formats_of v1) && nat_le (formats_of v1) max_formats) ≡ true
known_formats true = refl
known_formats false = refl

-- sessions that are held in flash have ranges there
pub spans : (flash : Bool) → flash ≡ true → (records_place ≤ span_of flash) × (span_of flash < 2 ^ 30)
spans true is = (omega arith, omega arith)
spans false is = absurd cc

-- and a device line, numbers that a device takes
pub record Fitting (count : ℕ) (dev : DeviceLine) : Type 0 where
  pub hw_fits : dev.hw < 2 ^ 32
  pub few : dev.rows ≤ max_rows
  pub offset_fits : dev.offset < 2 ^ 32
  pub next : count < max_devices

pub fitting : (len count : ℕ) (f : Form) (dev : DeviceLine) → f ≡ form.Device dev → in_range f ≡ true → fits_script len count f ≡ true
    → Fitting count dev
unfolding in_range
fitting len count f dev is ranges fits =
    let all : (nat_le 1 dev.id && nat_le dev.id max_devices && nat_lt dev.hw (2 ^ 32) && nat_le dev.rows max_rows && nat_lt dev.offset (2 ^ 32)) ≡ true = rw is at ranges in
    let a = and_parts (nat_le 1 dev.id && nat_le dev.id max_devices && nat_lt dev.hw (2 ^ 32) && nat_le dev.rows max_rows) (nat_lt dev.offset (2 ^ 32)) all in
    let b = and_parts (nat_le 1 dev.id && nat_le dev.id max_devices && nat_lt dev.hw (2 ^ 32)) (nat_le dev.rows max_rows) a.0 in
    let c = and_parts (nat_le 1 dev.id && nat_le dev.id max_devices) (nat_lt dev.hw (2 ^ 32)) b.0 in
    let d = and_parts (nat_le 1 dev.id) (nat_le dev.id max_devices) c.0 in
    let next : (dev.id == count + 1) ≡ true = rw is at fits in
    let is_next : dev.id ≡ count + 1 = grind (arith, nat_tests, next) in
    record {
      hw_fits = ltb-true _ _ c.1;
      few = leb-true _ _ b.1;
      offset_fits = ltb-true _ _ a.1;
      next = omega (arith, is_next, leb-true dev.id max_devices d.1);
    }

-- ---- the plan after the devices has no wrong field

pub plans_well : (image : List ℕ) (plan : Plan) (devices : List Late) → IsSized image plan devices → IsWindowed plan → 1 ≤ length devices → bad_field (length image) plan ≡ None
unfolding bad_field
plans_well image plan devices sized windowed some =
    let first : 1 ≤ length plan.devices = rw (sized.numbers) some in
    let last : length plan.devices ≤ 64 = rw (sized.numbers) sized.count in
    rw (sized.size, not_lt 512 plan.parity sized.few, not_lt 3 plan.index sized.indexed, sized.grouped, windowed, le-leb 1 (length plan.devices) first, le-leb (length plan.devices) 64 last) refl

-- so a server that is to begin is made
pub begins_well : (image : List ℕ) (plan : Plan) (devices : List Late) (field : Field) → IsToBegin image plan devices
    → bad_field (length image) plan ≡ Some field → ⊥
begins_well image plan devices field begins bad = let fine = plans_well image plan devices begins.sized begins.windowed begins.some in absurd cc
