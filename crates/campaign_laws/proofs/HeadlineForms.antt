-- What each line that is not refused makes of a campaign.
use Rattle.std.proofs.Common.{◌&&◌, nat_le, nat_lt, ◌≡◌, ◌⊎◌, inl, inr, ℕ, ◌+◌, ◌-◌, ◌^◌, ◌<◌, ◌≤◌, Bool, true, false, cond, not, ◌==◌, List, [], ◌∷◌, length, All, Option, None, Some, IfSome, append-nil, refl, sym, ap, ◌∙◌, subst, arith, true≢false, eqb-true, ◌++◌}
use Rattle.std.proofs.lemmas.Bool.{leb-true, and_parts}
use Rattle.std.specs.Result.{result_ok}
use Rattle.std.specs.List.{AllByRecursion, slice_set}
use Rattle.frag_encoder.specs.Encoding.{nb_frag_of}
use Rattle.package_grammar.specs.declared.downlink.Downlink.{Downlink}
use Rattle.package_grammar.specs.Reading.{reading_of}
use Rattle.wire_base.specs.declared.refusal.Direction.TheVariants as direction
use Rattle.device_core.specs.Device.{DeviceState}
use Rattle.frag_model.specs.Limits.{max_pieces}
use Rattle.script_lines.specs.Limits.{max_rows, max_devices}
use Rattle.device_core.specs.Deliver.{delivery}
use Rattle.device_core.specs.Firmware.{after_migration}
use Rattle.device_core.specs.Events.{Event, Wakes, Receives, Migrates, after_event}
use Rattle.campaign_server.specs.Plan.{Plan}
use Rattle.campaign_server.specs.Server.{ServerState, DownlinkCommand, ledger, downlink_of}
use Rattle.wire_base.specs.Numbered.{numbered}
use Rattle.campaign_server.specs.Asking.{by_unicast, request_of}
use Rattle.campaign_server.specs.Fragments.{next_fragment, after_fragment as server_after_fragment, status_to_all, after_status_to_all}
use Rattle.campaign_server.specs.Time.{time_answer}
use Rattle.campaign_server.specs.Uplinks.{with_answers}
use Rattle.script_lines.specs.declared.forms.Form.{Form}
use Rattle.script_lines.specs.declared.forms.Form.TheVariants.{Header, Image, Group, WindowC, WindowB, Device, At as Time, Wake, Migrate, Power, Ask, Frag, Status, Down, Raw, Air, RawAir, Up, End}
use Rattle.script_lines.specs.Ranges.{in_range, is_device as ranged}
use Rattle.campaign_world.specs.declared.section.Section.{Section}
use Rattle.campaign_world.specs.declared.section.Section.TheVariants as section
use Rattle.report_lines.specs.declared.faults.LineWhy.{LineWhy}
use Rattle.campaign_world.specs.declared.numbered.SentPayload.{SentPayload}
use Rattle.campaign_world.specs.declared.numbered.NumberedUplink.{NumberedUplink}
use Rattle.campaign_world.specs.World.{WorldState}
use Rattle.campaign_world.specs.Said.{Said, Own, Elsewhere, Reached}
use Rattle.campaign_world.specs.Causes.{is_in_order, fits_script, is_device, names_device, has_flash, may_reach, is_available, form_cause, takes_events, said_cause}
use Rattle.campaign_world.specs.Making.{with_sent, with_device, with_event, with_event_of, after_up, at_events, after_form, after_said}
use Rattle.campaign_world.specs.Honest.{are_for_others}
use Rattle.campaign_server.proofs.Plans.{few_masks}
use Rattle.campaign_server.proofs.LineItems.{if_some, numbered_put, numbered_there}
use Rattle.campaign_laws.proofs.HeadlineCommands.{cut_of, IsCut}
use Rattle.device_core.proofs.Stays.{Stays, waking_stays}
use Rattle.campaign_laws.proofs.HeadlinePayloads.{sent_acts}
use Rattle.campaign_laws.proofs.HeadlineEnds.{IsDeviceFor, IsServerOf, IsDown, ask_sent, fragment_sent, status_sent, GoesOn, fragment_goes, status_goes, answers_go, time_sent}
use Rattle.campaign_laws.proofs.Crossing.{crossing_stays}
use Rattle.campaign_laws.proofs.HeadlineWorlds.{IsPayloadOf, StandsIn, Keeps, is_down, HasStayed, Turns}
use Rattle.campaign_world.proofs.Sections.{by_section, never}
use Rattle.campaign_laws.proofs.Events.{up_by}
use Rattle.campaign_laws.proofs.Items.{all_numbered, is_there}

-- ---- a form that is not refused

-- the tests that it passed
pub record Passes (w : WorldState) (form : Form) : Type 0 where
  pub may : is_in_order w.section form ≡ true
  pub ranged : (in_range form && fits_script (length w.server.image) (length w.devices) form) ≡ true
  pub names : names_device (length w.devices) form ≡ true
  pub come : is_available w.sent w.uplinks w.time form ≡ true

test_passed : (b : Bool) (why : LineWhy) (rest : Option LineWhy) → cond (not b) (Some why) rest ≡ None
    → (b ≡ true) × (rest ≡ None)
test_passed true why rest fine = (refl, fine)
test_passed false why rest fine = absurd cc

pub passes : (w : WorldState) (form : Form) → form_cause w form ≡ None → Passes w form
unfolding form_cause
passes w form fine =
    let a = test_passed _ _ _ fine in
    let b = test_passed _ _ _ a.1 in
    let c = test_passed _ _ _ b.1 in
    let d = test_passed _ _ _ c.1 in
    let named = and_parts (names_device (length w.devices) form) (has_flash w.flash form) c.0 in
    record { may = a.0; ranged = b.0; names = named.0; come = d.0 }

at_header : (image : List ℕ) (w : WorldState) (here : Section) → is_in_order here Header ≡ true → StandsIn image w here
    → (w.sent ≡ []) × (w.devices ≡ [])
at_header image w =
    by_section (λ (x : Section). is_in_order x Header ≡ true → StandsIn image w x → (w.sent ≡ []) × (w.devices ≡ [])) (λ may stands. stands)
    (λ may stands. stands) never never never never never never

at_image : (image : List ℕ) (w : WorldState) (size parity index : ℕ) (here : Section)
    → is_in_order here (Image size parity index) ≡ true → StandsIn image w here → (w.sent ≡ []) × (w.devices ≡ [])
at_image image w size parity index =
    by_section (λ (x : Section). is_in_order x (Image size parity index) ≡ true → StandsIn image w x → (w.sent ≡ []) × (w.devices ≡ []))
    (λ may stands. stands) (λ may stands. stands) never never never never never never

at_group : (image : List ℕ) (w : WorldState) (id addr min max : ℕ) (key : List ℕ) (here : Section)
    → is_in_order here (Group id addr key min max) ≡ true → StandsIn image w here
    → (w.sent ≡ []) × (w.devices ≡ []) × IsCut image (cut_of w.server.plan)
at_group image w id addr min max key =
    by_section (λ (x : Section). is_in_order x (Group id addr key min max) ≡ true → StandsIn image w x
    → (w.sent ≡ []) × (w.devices ≡ []) × IsCut image (cut_of w.server.plan)) never never (λ may stands. stands) never never never never never

-- any other form comes after the image's line
abbrev pub is_early : Form → Bool
is_early Header = true
is_early (Image size parity index) = true
is_early form = false

pub not_header : (form : Form) → is_early form ≡ false → is_in_order section.Header form ≡ true → ⊥
not_header Header late may = true≢false late
not_header (Image size parity index) late may = true≢false late
not_header form late may = true≢false (sym may)

pub not_image : (form : Form) → is_early form ≡ false → is_in_order section.Image form ≡ true → ⊥
not_image Header late may = true≢false late
not_image (Image size parity index) late may = true≢false late
not_image form late may = true≢false (sym may)

pub late_cut : (image : List ℕ) (w : WorldState) (form : Form) (here : Section) → is_early form ≡ false
    → is_in_order here form ≡ true → StandsIn image w here → IsCut image (cut_of w.server.plan)
late_cut image w form here late =
    by_section (λ (x : Section). is_in_order x form ≡ true → StandsIn image w x → IsCut image (cut_of w.server.plan))
    (λ may stands. absurd (not_header form late may)) (λ may stands. absurd (not_image form late may)) (λ may stands. stands.2) (λ may stands. stands)
    (λ may stands. stands) (λ may stands. stands) (λ may stands. stands) (λ may stands. stands) here

-- ---- each form

-- the same plan cuts alike
cut_on : (s new : ServerState) → new.plan ≡ s.plan → cut_of new.plan ≡ cut_of s.plan
cut_on s new same = ap (λ (p : Plan). cut_of p) same

-- what is sent
more_turn : (image : List ℕ) (said : Said) (w : WorldState) (s : ServerState) (more : List SentPayload) → is_down said ≡ false
    → GoesOn image w.server s → IsCut image (cut_of w.server.plan) → AllByRecursion (IsPayloadOf image (cut_of w.server.plan)) more
    → Turns image said w (at_events (record w { server = s; sent = w.sent ++ more }))
more_turn image said w s more other goes cut fine = record {
  lines = refl;
  server = goes.is;
  stands = subst (IsCut image) (sym (cut_on w.server s goes.plan)) cut;
  how = inl (record {
    other = other;
    cut = cut_on w.server s goes.plan;
    devices = λ id. inl refl;
    more = more;
    sent = refl;
    fine = fine;
  });
}

sends_turn : (image : List ℕ) (said : Said) (w : WorldState) (s : ServerState) (to : Option ℕ)
    (o : Option DownlinkCommand) → is_down said ≡ false → GoesOn image w.server s
    → IsCut image (cut_of w.server.plan) → IfSome o (IsDown image (cut_of w.server.plan))
    → Turns image said w (at_events (with_sent (record w { server = s }) to o))
sends_turn image said w s to None other goes cut fine =
    subst (λ (sent : List SentPayload). Turns image said w (at_events (record w { server = s; sent = sent }))) (append-nil w.sent)
    (more_turn image said w s [] other goes cut tt)
sends_turn image said w s to (Some down) other goes cut fine =
    more_turn image said w s (record { receiver = to; down = downlink_of down } ∷ []) other goes cut ((down, fine, refl), tt)

up_turn : (image : List ℕ) (said : Said) (w : WorldState) (o : Option NumberedUplink) → is_down said ≡ false
    → IsServerOf image w.server → IsCut image (cut_of w.server.plan)
    → Turns image said w (at_events (after_up w o))
up_turn image said w o other k cut =
    up_by (Turns image said w) w (sends_turn image said w w.server None None other (record { is = k; plan = refl }) cut tt)
    (λ dev cs. sends_turn image said w (with_answers w.server dev cs (ledger w.server dev)) (Some dev)
    (by_unicast (time_answer w.time cs)) other (answers_go image w.server dev cs (ledger w.server dev) k) cut
    (time_sent image (cut_of w.server.plan) w.time cs)) o

pub payload_there : (device : ℕ) (o : Option SentPayload) → may_reach device o ≡ true → (p : SentPayload) × (o ≡ Some p)
payload_there device None may = absurd cc
payload_there device (Some p) may = (p, refl)

-- the device after an event, its uplinks taken
abbrev taken : DeviceState → DeviceState
taken d = record d { outbox = [] }

reached_turn : (image : List ℕ) (w : WorldState) (number n word : ℕ) (d : DeviceState) (p : SentPayload)
    → All (λ b. b < 2 ^ 8) image → Keeps image w → IsCut image (cut_of w.server.plan)
    → 1 ≤ n → numbered w.devices n ≡ Some d → numbered w.sent number ≡ Some p
    → Turns image (Own (Down number n word)) w (with_event_of w n (Down number n word))
unfolding with_device
reached_turn image w number n word d p bytes k cut first there got =
    let down = all_numbered (IsPayloadOf image (cut_of w.server.plan)) w.sent number p k.sent got in
    let its = if_some (IsDeviceFor image (cut_of w.server.plan)) (numbered w.devices n) d there (k.devices n) in
    let new : DeviceState = taken (delivery w.time word (w.lines + 1) (downlink_of down.0) d).device in
    let same : taken (delivery w.time word (w.lines + 1) p.down d).device ≡ new =
    ap (λ (x : Downlink). taken (delivery w.time word (w.lines + 1) x d).device) down.2 in
    rw (there, got) (record {
      lines = refl;
      server = k.server;
      stands = cut;
      how = inr (inr (inr (record {
        number = number;
        id = n;
        word = word;
        said_is = refl;
        first = first;
        cut = refl;
        old = d;
        new = new;
        before = there;
        devices = ap (λ (e : DeviceState). slice_set w.devices (n - 1) e) same;
        payload = p;
        got = got;
        down = down.0;
        is_sent = down.1;
        down_is = down.2;
        acts = sent_acts image (cut_of w.server.plan) w.time word (w.lines + 1) d down.0 bytes cut down.1 its.empty;
        empty = refl;
        sent = refl;
        is_cut = cut;
      })));
    })

-- an event at a device that hears nothing
pub quiet_turn : (image : List ℕ) (w : WorldState) (n : ℕ) (said : Said) (d : DeviceState) (event : Event) → is_down said ≡ false
    → Keeps image w → IsCut image (cut_of w.server.plan) → 1 ≤ n → numbered w.devices n ≡ Some d → Stays d (after_event d event)
    → Turns image said w (with_event w n (Some event))
unfolding with_device
quiet_turn image w n said d event other k cut first there stays =
    rw (there) (record {
      lines = refl;
      server = k.server;
      stands = cut;
      how = inl (record {
        other = other;
        cut = refl;
        devices = λ id. stayed id (numbered_put w.devices n id (after_event d event) first);
        more = [];
        sent = sym (append-nil w.sent);
        fine = tt;
      });
    })
  where
    stayed : (id : ℕ) → (id ≡ n) ⊎ (numbered (slice_set w.devices (n - 1) (after_event d event)) id ≡ numbered w.devices id)
        → (numbered (slice_set w.devices (n - 1) (after_event d event)) id ≡ numbered w.devices id)
        ⊎ HasStayed (numbered w.devices id) (numbered (slice_set w.devices (n - 1) (after_event d event)) id)
    stayed id (inr same) = inl same
    stayed id (inl is) = inr (record {
      d = d;
      e = after_event d event;
      was = ap (λ (x : ℕ). numbered w.devices x) is ∙ there;
      is = ap (λ (x : ℕ). numbered (slice_set w.devices (n - 1) (after_event d event)) x) is
          ∙ numbered_there w.devices n d (after_event d event) there;
      moves = stays;
      empty = refl;
    })

-- a device that knows both image formats from now on stays as it is except for its slots
migration_stays : (d : DeviceState) → Stays d (taken (after_migration d))
unfolding after_migration
migration_stays d = record { config = refl; sessions = refl }

-- nothing is sent, and no device changes
still_turn : (image : List ℕ) (said : Said) (w v : WorldState) → is_down said ≡ false → IsServerOf image v.server
    → StandsIn image v v.section → v.lines ≡ w.lines → cut_of v.server.plan ≡ cut_of w.server.plan
    → v.devices ≡ w.devices → v.sent ≡ w.sent → Turns image said w v
still_turn image said w v other server stands lines cut devices sent = record {
  lines = lines;
  server = server;
  stands = stands;
  how = inl (record {
    other = other;
    cut = cut;
    devices = λ id. inl (ap (λ (ds : List DeviceState). numbered ds id) devices);
    more = [];
    sent = sent ∙ sym (append-nil w.sent);
    fine = tt;
  });
}

few_rows : (id hw rows offset : ℕ) → ranged id hw rows offset ≡ true → rows ≤ max_rows
few_rows id hw rows offset all =
    let a = and_parts (nat_le 1 id && nat_le id max_devices && nat_lt hw (2 ^ 32) && nat_le rows max_rows) (nat_lt offset (2 ^ 32)) all in
    let b = and_parts (nat_le 1 id && nat_le id max_devices && nat_lt hw (2 ^ 32)) (nat_le rows max_rows) a.0 in
    leb-true _ _ b.1

-- the form brings what the server need not have sent, or a frame
abbrev pub is_strange : Form → Bool
is_strange (Raw device port payload word) = true
is_strange (Air number device word) = true
is_strange (RawAir device bytes word) = true
is_strange form = false

pub form_turn : (image : List ℕ) (w : WorldState) (form : Form) → All (λ b. b < 2 ^ 8) image → Keeps image w
    → form_cause w form ≡ None → is_strange form ≡ false → Turns image (Own form) w (after_form w form)
unfolding after_form in_range
form_turn image w Header bytes k fine honest =
    let was = at_header image w w.section (passes w Header fine).may k.stands in
    still_turn image (Own Header) w _ refl k.server was refl refl refl refl
form_turn image w (Image frag_size parity index) bytes k fine honest =
    let p = passes w (Image frag_size parity index) fine in
    let was = at_image image w frag_size parity index w.section p.may k.stands in
    let both = and_parts _ _ p.ranged in
    let whole = and_parts _ _ both.0 in
    let low = and_parts _ _ whole.0 in
    let cuts = and_parts _ _ low.0 in
    let few : nb_frag_of (length w.server.image) frag_size ≤ max_pieces = leb-true _ _ both.1 in
    record {
      lines = refl;
      server = record {
        image_is = k.server.image_is;
        next = omega arith;
        few = leb-true _ _ low.1;
        indexed = leb-true _ _ whole.1;
        masked = k.server.masked;
      };
      stands = (
        was.0,
        was.1,
        record {
          some = leb-true _ _ cuts.0;
          small = leb-true _ _ cuts.1;
          few = subst (λ (i : List ℕ). nb_frag_of (length i) frag_size ≤ max_pieces) k.server.image_is few;
          indexed = leb-true _ _ whole.1;
          groups = k.server.masked;
        },
      );
      how = inr (inl (record { other = refl; before = was.1; devices = was.1; none = was.0; sent = was.0 }));
    }
form_turn image w (Group id addr key min max) bytes k fine honest =
    let p = passes w (Group id addr key min max) fine in
    let was = at_group image w id addr min max key w.section p.may k.stands in
    let both = and_parts _ true p.ranged in
    let named = and_parts _ (nat_le id 3) both.0 in
    let few : 2 ^ id ≤ 8 = few_masks id (leb-true _ _ named.1) in
    record {
      lines = refl;
      server = record {
        image_is = k.server.image_is;
        next = omega arith;
        few = k.server.few;
        indexed = k.server.indexed;
        masked = few;
      };
      stands = record { some = was.2.some; small = was.2.small; few = was.2.few; indexed = was.2.indexed; groups = few };
      how = inr (inl (record { other = refl; before = was.1; devices = was.1; none = was.0; sent = was.0 }));
    }
form_turn image w (WindowC start timeout freq dr) bytes k fine honest =
    still_turn image (Own (WindowC start timeout freq dr)) w _ refl
    (record { image_is = k.server.image_is; next = omega arith; few = k.server.few; indexed = k.server.indexed; masked = k.server.masked })
    (late_cut image w (WindowC start timeout freq dr) w.section refl
    (passes w (WindowC start timeout freq dr) fine).may k.stands) refl refl refl refl
form_turn image w (WindowB start periodicity timeout freq dr) bytes k fine honest =
    still_turn image (Own (WindowB start periodicity timeout freq dr)) w _ refl
    (record { image_is = k.server.image_is; next = omega arith; few = k.server.few; indexed = k.server.indexed; masked = k.server.masked })
    (late_cut image w (WindowB start periodicity timeout freq dr) w.section refl
    (passes w (WindowB start periodicity timeout freq dr) fine).may k.stands) refl refl refl refl
form_turn image w (Device dev) bytes k fine honest =
    let p = passes w (Device dev) fine in
    let both = and_parts (ranged dev.id dev.hw dev.rows dev.offset) (dev.id == length w.devices + 1) p.ranged in
    let next : dev.id ≡ length w.devices + 1 = eqb-true _ _ both.1 in
    record {
      lines = refl;
      server = record { image_is = k.server.image_is; next = omega arith; few = k.server.few; indexed = k.server.indexed; masked = k.server.masked };
      stands = late_cut image w (Device dev) w.section refl p.may k.stands;
      how = inr (inr (inl (record {
        other = refl;
        cut = refl;
        dev = dev;
        said_is = ap (λ (n : ℕ). Own (Device (record dev { id = n }))) next;
        few = few_rows dev.id dev.hw dev.rows dev.offset both.0;
        devices = refl;
        sent = refl;
      })));
    }
form_turn image w (Time time) bytes k fine honest =
    still_turn image (Own (Time time)) w _ refl k.server
    (late_cut image w (Time time) w.section refl (passes w (Time time) fine).may k.stands) refl refl refl refl
form_turn image w (Power device) bytes k fine honest =
    still_turn image (Own (Power device)) w _ refl k.server
    (late_cut image w (Power device) w.section refl (passes w (Power device) fine).may k.stands) refl refl refl refl
form_turn image w (Wake device) bytes k fine honest =
    let p = passes w (Wake device) fine in
    let there = is_there w.devices device p.names in
    let d = there.1 in
    quiet_turn image w device (Own (Wake device)) d.0 (Wakes w.time) refl k
    (late_cut image w (Wake device) w.section refl p.may k.stands) there.0 d.1 (waking_stays w.time d.0)
form_turn image w (Migrate device) bytes k fine honest =
    let p = passes w (Migrate device) fine in
    let there = is_there w.devices device p.names in
    let d = there.1 in
    quiet_turn image w device (Own (Migrate device)) d.0 Migrates refl k
    (late_cut image w (Migrate device) w.section refl p.may k.stands) there.0 d.1 (migration_stays d.0)
form_turn image w (Ask device) bytes k fine honest =
    sends_turn image (Own (Ask device)) w w.server (Some device) (request_of w.server device) refl
    (record { is = k.server; plan = refl })
    (late_cut image w (Ask device) w.section refl (passes w (Ask device) fine).may k.stands)
    (ask_sent image w.server device k.server)
form_turn image w Frag bytes k fine honest =
    sends_turn image (Own Frag) w (server_after_fragment w.server) None (result_ok (next_fragment w.server)) refl
    (fragment_goes image w.server k.server)
    (late_cut image w Frag w.section refl (passes w Frag fine).may k.stands) (fragment_sent image w.server k.server)
form_turn image w Status bytes k fine honest =
    sends_turn image (Own Status) w (after_status_to_all w.server) None (status_to_all w.server) refl
    (status_goes image w.server k.server)
    (late_cut image w Status w.section refl (passes w Status fine).may k.stands)
    (status_sent image w.server)
form_turn image w (Down number device word) bytes k fine honest =
    let p = passes w (Down number device word) fine in
    let there = is_there w.devices device p.names in
    let d = there.1 in
    let s = payload_there device (numbered w.sent number) p.come in
    reached_turn image w number device word d.0 s.0 bytes k
    (late_cut image w (Down number device word) w.section refl p.may k.stands) there.0 d.1 s.1
form_turn image w (Raw device port payload word) bytes k fine honest = absurd (true≢false honest)
form_turn image w (Air number device word) bytes k fine honest = absurd (true≢false honest)
form_turn image w (RawAir device bytes word) all k fine honest = absurd (true≢false honest)
form_turn image w (Up number) bytes k fine honest =
    up_turn image (Own (Up number)) w (numbered w.uplinks number) refl k.server
    (late_cut image w (Up number) w.section refl (passes w (Up number) fine).may k.stands)
form_turn image w End bytes k fine honest =
    still_turn image (Own End) w _ refl k.server
    (late_cut image w End w.section refl (passes w End fine).may k.stands) refl refl refl refl

-- ---- what a line says

-- an event comes after the image's line
pub events_cut : (image : List ℕ) (w : WorldState) (here : Section) → takes_events here ≡ true → StandsIn image w here
    → IsCut image (cut_of w.server.plan)
events_cut image w =
    by_section (λ (x : Section). takes_events x ≡ true → StandsIn image w x → IsCut image (cut_of w.server.plan)) never never never never never
    (λ takes stands. stands) (λ takes stands. stands) never

-- the tests that a payload of another campaign's server passed
pub reached_passes : (w : WorldState) (n word : ℕ) (down : Downlink) → said_cause w (Reached n word down) ≡ None
    → (takes_events w.section ≡ true) × (is_device (length w.devices) n ≡ true)
reached_passes w n word down fine =
    let first = test_passed _ _ _ fine in
    let second = test_passed _ _ _ first.1 in
    (first.0, second.0)

-- what the line brings need not have been sent to a campaign's device, or is a frame
abbrev pub is_odd : (index : ℕ) → Said → Bool
is_odd index (Own form) = is_strange form
is_odd index Elsewhere = false
is_odd index (Reached n word down) = not (are_for_others index (reading_of down.port direction.Down down.payload))

pub not_true : (b : Bool) → not b ≡ false → b ≡ true
not_true true is = refl
not_true false is = absurd cc

pub said_turn : (image : List ℕ) (w : WorldState) (said : Said) → All (λ b. b < 2 ^ 8) image → Keeps image w
    → said_cause w said ≡ None → is_odd w.server.plan.index said ≡ false → Turns image said w (after_said w said)
said_turn image w (Own form) bytes k fine plain = form_turn image w form bytes k fine plain
said_turn image w Elsewhere bytes k fine plain = still_turn image Elsewhere w w refl k.server k.stands refl refl refl refl
said_turn image w (Reached n word down) bytes k fine plain =
    let p = reached_passes w n word down fine in
    let there = is_there w.devices n p.1 in
    let d = there.1 in
    let its = if_some (IsDeviceFor image (cut_of w.server.plan)) (numbered w.devices n) d.0 d.1 (k.devices n) in
    quiet_turn image w n (Reached n word down) d.0 (Receives w.time word (w.lines + 1) down) refl k
    (events_cut image w w.section p.0 k.stands) there.0 d.1
    (crossing_stays w.server.plan.index w.time word (w.lines + 1) down d.0 (not_true _ plain) its.alone)
