-- How far a device that suits is, after each line of an honest campaign.
use Rattle.std.proofs.Common.{◌≡◌, inl, inr, ⊎_elim, ℕ, zero, suc, ◌+◌, ◌-◌, ◌^◌, ◌<◌, ◌≤◌, ◌==◌, Bool, true, false, cond, List, [], ◌∷◌, ◌++◌, length, replicate, slice_get, All, Option, None, Some, Ok, Err, refl, sym, ap, ◌∙◌, subst, arith, true≢false}
use Rattle.std.specs.List.{AllByRecursion}
use Rattle.std.specs.Result.{result_ok}
use Rattle.std.proofs.lemmas.List.{length-replicate}
use Rattle.wire_base.specs.Numbered.{numbered}
use Rattle.frag_session.specs.declared.answers.Verdict.TheVariants as shown
use Rattle.mc_group.specs.declared.group.Group.{Group}
use Rattle.image_slots.specs.Image.{is_image, firmware_of}
use Rattle.device_core.specs.Configuration.{Configuration}
use Rattle.device_core.specs.Deliver.{delivery}
use Rattle.device_core.specs.Device.{DeviceState, first_device}
use Rattle.device_core.specs.Events.{Event, Wakes, Receives, Migrates}
use Rattle.device_core.specs.SessionTable.{no_sessions}
use Rattle.campaign_server.specs.declared.stage.Request.TheVariants as request
use Rattle.campaign_server.specs.declared.stage.Stage.{Stage}
use Rattle.campaign_server.specs.declared.stage.Stage.TheVariants.{At as Asked}
use Rattle.campaign_server.specs.Plan.{Plan}
use Rattle.campaign_server.specs.Asking.{request_of}
use Rattle.campaign_server.specs.Fragments.{next_fragment, after_fragment, status_to_all, after_status_to_all}
use Rattle.campaign_server.proofs.LineItems.{numbered_push, within}
use Rattle.script_lines.specs.declared.forms.Form.{Form}
use Rattle.script_lines.specs.declared.forms.Form.TheVariants.{Header, Image, Group as GroupLine, WindowC, WindowB, Device, At, Wake, Migrate, Power, Ask, Frag, Status, Down, Raw, Air, RawAir, Up, End}
use Rattle.campaign_world.specs.declared.section.Section.{Section}
use Rattle.campaign_world.specs.declared.section.Section.TheVariants as section
use Rattle.campaign_world.specs.declared.numbered.SentPayload.{SentPayload}
use Rattle.campaign_world.specs.World.{WorldState, first_world}
use Rattle.campaign_world.specs.Said.{Said, Own, Elsewhere, Reached, Line}
use Rattle.campaign_world.specs.Honest.{has_raw, AreHonest}
use Rattle.campaign_world.specs.Causes.{may_reach, is_event_or_end, form_cause, said_cause, cause_of}
use Rattle.campaign_world.specs.Making.{with_plan, config_of, after_event_at, at_events, after_form, after_said}
use Rattle.campaign_world.specs.Script.{one_line_more, after_line, read_lines}
use Rattle.campaign_laws.specs.Fields.{LineFits, AllFit}
use Rattle.campaign_laws.specs.Once.{rank}
use Rattle.campaign_laws.proofs.Events.{fragment_sends, status_sends}
use Rattle.campaign_laws.proofs.HeadlineCommands.{cut_of, IsCut, firmware_small}
use Rattle.campaign_laws.proofs.HeadlineEnds.{fragment_to_all, status_to_each}
use Rattle.campaign_laws.proofs.HeadlineForms.{passes, late_cut, is_strange, reached_passes, is_odd, not_true, payload_there}
use Rattle.campaign_laws.proofs.HonestLines.{heard_said, Stands, first_stands, alone_at, goes_on_by, line_stands}
use Rattle.campaign_laws.proofs.Independence.{read_first, line_fine}
use Rattle.campaign_laws.proofs.Items.{number_first, all_numbered, is_there}
use Rattle.campaign_laws.proofs.Ledger.{Holds, device_sound, line_holds, first_holds}
use Rattle.campaign_laws.proofs.LedgerDevices.{IsSound}
use Rattle.campaign_laws.proofs.OwnSession.{none_at}
use Rattle.campaign_laws.proofs.PlanGroups.{is_planning, plan_at, made_settled}
use Rattle.exchange_laws.specs.Updating.{Fits}
use Rattle.exchange_laws.proofs.Facts.{core_of, HasVerdict, IsApt, Goes}
use Rattle.exchange_laws.proofs.Commands.{IsPlain}
use Rattle.exchange_laws.proofs.Delivering.{command_goes, timely_goes, crossed_goes, woken_goes, migrated_goes}
use Rattle.exchange_laws.proofs.Progress.{Carries, IsFor, IsServing, Playing, Plays, sends_play, asked_for_it, all_for_it, device_plays, up_plays}

-- ---- before the first event

-- nothing was sent or made, no stage has moved, and each device is as it is at first
pub record IsFresh (w : WorldState) : Type 0 where
  pub sent : w.sent ≡ []
  pub uplinks : w.uplinks ≡ []
  pub stages : w.server.stages ≡ replicate (length w.server.plan.devices) (Asked request.Version)
  pub devices : (id : ℕ) (d : DeviceState) → numbered w.devices id ≡ Some d → (d ≡ first_device d.config) × (d.config.groups ≡ 4)

get_replicated : {A : Type 0} (n k : ℕ) (x : A) → k < n → slice_get (replicate n x) k ≡ Some x
get_replicated zero k x few = absurd (omega (arith, few))
get_replicated (suc n) zero x few = refl
get_replicated (suc n) (suc k) x few = get_replicated n k x (omega (arith, few))

numbered_replicated : {A : Type 0} (n id : ℕ) (x : A) → 1 ≤ id → id ≤ n → numbered (replicate n x) id ≡ Some x
numbered_replicated n id x low high =
    let some : (id == 0) ≡ false = grind (arith, low) in
    rw some (get_replicated n (id - 1) x (omega (arith, low, high)))

no_session : (index : ℕ) (mark : ℕ) → {X : Type 0} → HasVerdict index no_sessions (shown.Complete mark) → X
no_session index mark h = let none : Path (Option _) None (Some h.session) = sym (none_at index) ∙ h.there in absurd cc

first_apt : (image : List ℕ) (plan : Plan) (config : Configuration) → Fits image plan config → config.groups ≡ 4 → IsApt image plan (core_of (first_device config))
first_apt image plan config fits groups = record {
  fits = fits;
  reboot = refl;
  groups = length-replicate {A = Option Group} config.groups None ∙ groups;
  known = fits.valid;
  offered = λ mark h. no_session plan.index mark h;
  told = tt;
}

no_version : (image : List ℕ) → is_image image ≡ true → 0 ≡ firmware_of image → ⊥
unfolding is_image
no_version image is none = grind (arith, is, none)

begun : (image : List ℕ) (id : ℕ) (w : WorldState) → is_image image ≡ true → length w.server.plan.devices ≡ length w.devices → IsFresh w → Plays image id w
begun image id w file even fresh d there fits =
    let its = fresh.devices id d there in
    let stage : numbered w.server.stages id ≡ Some (Asked request.Version) =
    ap (λ (xs : List Stage). numbered xs id) fresh.stages
    ∙ numbered_replicated (length w.server.plan.devices) id (Asked request.Version) (number_first w.devices id d there)
    (subst (λ (n : ℕ). id ≤ n) (sym even) (within w.devices id d there)) in (
      Asked request.Version,
      record {
        apt = subst (λ (x : DeviceState). IsApt image w.server.plan (core_of x)) (sym its.0) (first_apt image w.server.plan d.config fits its.1);
        there = stage;
        backs = record {
          grouped = λ far. absurd (omega (arith, far));
          has = λ far. absurd (omega (arith, far));
          runs = λ far. absurd (omega (arith, far));
          planned = λ at. ⊎_elim (λ is. cc) (λ is. cc) at;
        };
        late = λ runs. absurd (no_version image file (subst (λ (x : DeviceState). x.slots.version ≡ firmware_of image) its.0 runs.version));
        sent = subst (AllByRecursion (IsFor image w.server.plan id (core_of d) (Asked request.Version))) (sym fresh.sent) tt;
        uplinks = subst (AllByRecursion _) (sym fresh.uplinks) tt;
      },
    )

-- ---- what holds after each line

pub record Moves (image : List ℕ) (id : ℕ) (w : WorldState) : Type 0 where
  pub fresh : is_planning w.section ≡ true → IsFresh w
  pub plays : is_planning w.section ≡ false → Plays image id w

-- a line of the plan
planned : (image : List ℕ) (id : ℕ) (w : WorldState) (plan : Plan) (next : Section) → is_planning next ≡ true → is_planning w.section ≡ true → Moves image id w
    → Moves image id (with_plan w plan next)
planned image id w plan next still here k =
    let f = k.fresh here in
    record {
      fresh = λ now. record { sent = f.sent; uplinks = f.uplinks; stages = refl; devices = f.devices };
      plays = λ over. absurd (true≢false (sym still ∙ over));
    }

joined : (image : List ℕ) (id : ℕ) (w : WorldState) (config : Configuration) (flash : List ℕ) (plan : Plan) → config.groups ≡ 4 → is_planning w.section ≡ true → Moves image id w
    → Moves image id (with_plan (record w { devices = w.devices ++ first_device config ∷ []; flash = flash }) plan section.Devices)
joined image id w config flash plan groups here k =
    let f = k.fresh here in
    record {
      fresh = λ now. record { sent = f.sent; uplinks = f.uplinks; stages = refl; devices = everyone f };
      plays = λ over. absurd cc;
    }
  where
    everyone : IsFresh w → (n : ℕ) (d : DeviceState) → numbered (w.devices ++ first_device config ∷ []) n ≡ Some d → (d ≡ first_device d.config) × (d.config.groups ≡ 4)
    everyone f n d there = ⊎_elim (λ same. f.devices n d (sym same ∙ there))
        (λ last.
        let is : first_device config ≡ d = (let e : Some (first_device config) ≡ Some d = sym last.1 ∙ there in cc) in
        subst (λ (x : DeviceState). (x ≡ first_device x.config) × (x.config.groups ≡ 4)) is (refl, groups))
        (numbered_push w.devices (first_device config) n)

-- from the first event on
played : (image : List ℕ) (id : ℕ) (v : WorldState) → is_planning v.section ≡ false → Plays image id v → Moves image id v
played image id v over plays = record { fresh = λ still. absurd (true≢false (sym still ∙ over)); plays = λ now. plays }

now_plays : (image : List ℕ) (id : ℕ) (w : WorldState) → is_image image ≡ true → length w.server.plan.devices ≡ length w.devices → Moves image id w → Plays image id w
now_plays image id w file even k = by (is_planning w.section) refl
  where
    by : (b : Bool) → is_planning w.section ≡ b → Plays image id w
    by true here = begun image id w file even (k.fresh here)
    by false over = k.plays over

-- ---- what is known of the campaign

record Known (image : List ℕ) (index : ℕ) (w : WorldState) : Type 0 where
  bytes : All (λ b. b < 2 ^ 8) image
  file : is_image image ≡ true
  stands : Stands image index w
  holds : Holds image w

serving : (image : List ℕ) (index : ℕ) (w : WorldState) → Known image index w → IsCut image (cut_of w.server.plan) → IsServing image w.server.plan
serving image index w k cut = record { bytes = k.bytes; cut = cut; fit = k.stands.keyed.fit }

plain : (image : List ℕ) (index : ℕ) (w : WorldState) → Known image index w → IsCut image (cut_of w.server.plan) → IsPlain image w.server.plan
plain image index w k cut = record { bytes = k.bytes; file = k.file; small = firmware_small image k.bytes; index = cut.indexed }

-- ---- an event

reached_goes : (image : List ℕ) (id : ℕ) (w : WorldState) (index number word : ℕ) (d : DeviceState) (p : SentPayload) (stage : Stage) → Known image index w → IsCut image (cut_of w.server.plan)
    → numbered w.devices id ≡ Some d → numbered w.sent number ≡ Some p → may_reach id (Some p) ≡ true
    → Playing image w.server.plan id w.server.stages w.sent w.uplinks d stage
    → Goes image w.server.plan (6 ≤ rank stage) (core_of d) (core_of (delivery w.time word (w.lines + 1) p.down d).device)
reached_goes image id w index number word d p stage k cut there got may now =
    by (all_numbered (IsFor image w.server.plan id (core_of d) stage) w.sent number p now.sent got may)
  where
    by : Carries image w.server.plan (6 ≤ rank stage) (core_of d) p.down
        → Goes image w.server.plan (6 ≤ rank stage) (core_of d) (core_of (delivery w.time word (w.lines + 1) p.down d).device)
    by (inl timely) = timely_goes image w.server.plan (6 ≤ rank stage) w.time word (w.lines + 1) p.down d timely now.apt
    by (inr (x, port, read, needs)) =
        command_goes image w.server.plan (6 ≤ rank stage) w.time word (w.lines + 1) p.down d x (plain image index w k cut) port read needs
        (device_sound image w id d k.stands.keeps k.holds there) now.apt

form_plays : (image : List ℕ) (index id : ℕ) (w : WorldState) (form : Form) → Known image index w → form_cause w form ≡ None → is_strange form ≡ false → Plays image id w
    → is_event_or_end form ≡ true → Plays image id (after_form w form)
unfolding after_form
form_plays image index id w (At time) k fine honest plays event = plays
form_plays image index id w (Power n) k fine honest plays event = plays
form_plays image index id w End k fine honest plays event = plays
form_plays image index id w (Wake n) k fine honest plays event =
    let there = is_there w.devices n (passes w (Wake n) fine).names in
    let d : DeviceState = there.1.0 in
    subst (λ (o : Option DeviceState). Plays image id (at_events (after_event_at w n o (Some (Wakes w.time))))) (sym there.1.1)
    (device_plays image id w n d (Wakes w.time) there.1.1 (λ stage same now. woken_goes image w.server.plan (6 ≤ rank stage) w.time d now.apt) plays)
form_plays image index id w (Migrate n) k fine honest plays event =
    let there = is_there w.devices n (passes w (Migrate n) fine).names in
    let d : DeviceState = there.1.0 in
    subst (λ (o : Option DeviceState). Plays image id (at_events (after_event_at w n o (Some Migrates)))) (sym there.1.1)
    (device_plays image id w n d Migrates there.1.1
    (λ stage same now. migrated_goes image w.server.plan (6 ≤ rank stage) d (device_sound image w n d k.stands.keeps k.holds there.1.1).slots now.apt) plays)
form_plays image index id w (Ask n) k fine honest plays event =
    let cut = late_cut image w (Ask n) w.section refl (passes w (Ask n) fine).may k.stands.keeps.stands in
    sends_play image id w w.server (Some n) (request_of w.server n) (record { image = refl; plan = refl; stages = refl })
    (λ d stage there now. asked_for_it image w.server n id w.sent w.uplinks d stage (serving image index w k cut) k.stands.keeps.server.image_is (k.stands.keyed.planned id d there) now) plays
form_plays image index id w Frag k fine honest plays event =
    let cut = late_cut image w Frag w.section refl (passes w Frag fine).may k.stands.keeps.stands in
    sends_play image id w (after_fragment w.server) None (result_ok (next_fragment w.server)) (fragment_sends w.server)
    (λ d stage there now. all_for_it image w.server.plan id (core_of d) stage (result_ok (next_fragment w.server)) (serving image index w k cut) (fragment_to_all image w.server k.stands.keeps.server)) plays
form_plays image index id w Status k fine honest plays event =
    let cut = late_cut image w Status w.section refl (passes w Status fine).may k.stands.keeps.stands in
    sends_play image id w (after_status_to_all w.server) None (status_to_all w.server) (status_sends w.server)
    (λ d stage there now. all_for_it image w.server.plan id (core_of d) stage (status_to_all w.server) (serving image index w k cut) (status_to_each image w.server)) plays
form_plays image index id w (Down number n word) k fine honest plays event =
    let p = passes w (Down number n word) fine in
    let cut = late_cut image w (Down number n word) w.section refl p.may k.stands.keeps.stands in
    let there = is_there w.devices n p.names in
    let d : DeviceState = there.1.0 in
    let got = payload_there n (numbered w.sent number) p.come in
    let may : may_reach n (Some got.0) ≡ true = subst (λ (o : Option SentPayload). may_reach n o ≡ true) got.1 p.come in
    let event' : Event = Receives w.time word (w.lines + 1) got.0.down in
    rw (there.1.1, got.1) (device_plays image id w n d event' there.1.1
    (λ stage same now. reached_goes image id w index number word d got.0 stage k cut (subst (λ (i : ℕ). numbered w.devices i ≡ Some d) same there.1.1) got.1
    (subst (λ (i : ℕ). may_reach i (Some got.0) ≡ true) same may) now) plays)
form_plays image index id w (Up number) k fine honest plays event = up_plays image id w number (numbered w.uplinks number) refl k.stands.keeps.server.image_is plays
form_plays image index id w (Raw n port payload word) k fine honest plays event = absurd (true≢false honest)
form_plays image index id w (Air number n word) k fine honest plays event = absurd (true≢false honest)
form_plays image index id w (RawAir n bytes word) k fine honest plays event = absurd (true≢false honest)
form_plays image index id w form k fine honest plays event = absurd (true≢false (sym event))

-- ---- any form

event_moves : (image : List ℕ) (index id : ℕ) (w : WorldState) (form : Form) → Known image index w → form_cause w form ≡ None → is_strange form ≡ false
    → is_event_or_end form ≡ true → Moves image id w → Moves image id (after_form w form)
event_moves image index id w form k fine honest event m =
    played image id (after_form w form) (made_settled w form event).over
    (form_plays image index id w form k fine honest (now_plays image id w k.file k.stands.keyed.even m) event)

form_moves : (image : List ℕ) (index id : ℕ) (w : WorldState) (form : Form) → Known image index w → form_cause w form ≡ None → is_strange form ≡ false → Moves image id w
    → Moves image id (after_form w form)
unfolding after_form
form_moves image index id w Header k fine honest m =
    let here = plan_at w.section Header refl (passes w Header fine).may in
    let f = m.fresh here in
    record { fresh = λ now. record { sent = f.sent; uplinks = f.uplinks; stages = f.stages; devices = f.devices }; plays = λ over. absurd cc }
form_moves image index id w (Image frag_size parity its) k fine honest m =
    planned image id w _ section.Group refl (plan_at w.section (Image frag_size parity its) refl (passes w (Image frag_size parity its) fine).may) m
form_moves image index id w (GroupLine n addr key min max) k fine honest m =
    planned image id w _ section.Window refl (plan_at w.section (GroupLine n addr key min max) refl (passes w (GroupLine n addr key min max) fine).may) m
form_moves image index id w (WindowC start timeout freq dr) k fine honest m =
    planned image id w _ section.Device refl (plan_at w.section (WindowC start timeout freq dr) refl (passes w (WindowC start timeout freq dr) fine).may) m
form_moves image index id w (WindowB start periodicity timeout freq dr) k fine honest m =
    planned image id w _ section.Device refl (plan_at w.section (WindowB start periodicity timeout freq dr) refl (passes w (WindowB start periodicity timeout freq dr) fine).may) m
form_moves image index id w (Device dev) k fine honest m =
    joined image id w (config_of dev) _ _ refl (plan_at w.section (Device dev) refl (passes w (Device dev) fine).may) m
form_moves image index id w (At time) k fine honest m = event_moves image index id w (At time) k fine honest refl m
form_moves image index id w (Wake n) k fine honest m = event_moves image index id w (Wake n) k fine honest refl m
form_moves image index id w (Migrate n) k fine honest m = event_moves image index id w (Migrate n) k fine honest refl m
form_moves image index id w (Power n) k fine honest m = event_moves image index id w (Power n) k fine honest refl m
form_moves image index id w (Ask n) k fine honest m = event_moves image index id w (Ask n) k fine honest refl m
form_moves image index id w Frag k fine honest m = event_moves image index id w Frag k fine honest refl m
form_moves image index id w Status k fine honest m = event_moves image index id w Status k fine honest refl m
form_moves image index id w (Down number n word) k fine honest m = event_moves image index id w (Down number n word) k fine honest refl m
form_moves image index id w (Up number) k fine honest m = event_moves image index id w (Up number) k fine honest refl m
form_moves image index id w End k fine honest m = event_moves image index id w End k fine honest refl m
form_moves image index id w form k fine honest m = absurd (true≢false honest)

-- ---- what a line says

said_moves : (image : List ℕ) (index id : ℕ) (w : WorldState) (said : Said) → Known image index w → said_cause w said ≡ None → is_odd w.server.plan.index said ≡ false → Moves image id w
    → Moves image id (after_said w said)
said_moves image index id w (Own form) k fine honest m = form_moves image index id w form k fine honest m
said_moves image index id w Elsewhere k fine honest m = m
said_moves image index id w (Reached n word down) k fine honest m =
    let there = is_there w.devices n (reached_passes w n word down fine).1 in
    let d : DeviceState = there.1.0 in
    let plays = now_plays image id w k.file k.stands.keyed.even m in
    played image id _ refl
    (subst (λ (o : Option DeviceState). Plays image id (at_events (after_event_at w n o (Some (Receives w.time word (w.lines + 1) down))))) (sym there.1.1)
    (device_plays image id w n d (Receives w.time word (w.lines + 1) down) there.1.1
    (λ stage same now. crossed_goes image w.server.plan (6 ≤ rank stage) w.server.plan.index w.time word (w.lines + 1) down d (not_true _ honest)
    (alone_at image w k.stands.keeps n d there.1.1) now.apt) plays))

-- ---- all lines

-- what is known, and how far the device is
pub record Stays (image : List ℕ) (index id : ℕ) (w : WorldState) : Type 0 where
  pub bytes : All (λ b. b < 2 ^ 8) image
  pub file : is_image image ≡ true
  pub stands : Stands image index w
  pub holds : Holds image w
  pub moves : Moves image id w

moved_on : (image : List ℕ) (id : ℕ) (v : WorldState) → Moves image id v → Moves image id (one_line_more v)
moved_on image id v m = record {
  fresh = λ now. (let f = m.fresh now in record { sent = f.sent; uplinks = f.uplinks; stages = f.stages; devices = f.devices });
  plays = m.plays;
}

line_stays : (image : List ℕ) (index id : ℕ) (w : WorldState) (line : Line) → Stays image index id w → cause_of w line ≡ None → LineFits index line → has_raw index line ≡ false
    → Stays image index id (after_line w line)
line_stays image index id w (Err cause) k none fits honest = absurd (let fine = line_fine w (Err cause) none in cc)
line_stays image index id w (Ok said) k none fits honest =
    let fine = line_fine w (Ok said) none in
    let on = goes_on_by image index w (Ok said) said k.bytes k.stands refl none fits fine honest in
    let moves = said_moves image index id w (heard_said said) (record { bytes = k.bytes; file = k.file; stands = k.stands; holds = k.holds }) on.heard.fine on.heard.plain k.moves in
    record {
      bytes = k.bytes;
      file = k.file;
      stands = line_stands image index w (Ok said) k.bytes k.stands none fits fine honest;
      holds = line_holds image index w (Ok said) k.bytes k.file k.stands k.holds none fits fine honest;
      moves = subst (λ (v : WorldState). Moves image id (one_line_more v)) (sym on.heard.same) (moved_on image id _ moves);
    }

pub all_stay : (image : List ℕ) (index id : ℕ) (w end : WorldState) (lines : List Line) → Stays image index id w → AllFit index lines → AreHonest index lines
    → read_lines (Ok w) lines ≡ Ok end → Stays image index id end
unfolding read_lines
all_stay image index id w end [] k fits honest read = let same : w ≡ end = cc in subst (Stays image index id) same k
all_stay image index id w end (line ∷ lines) k fits honest read =
    let first = read_first w end line lines read in
    all_stay image index id (after_line w line) end lines (line_stays image index id w line k first.0 fits.0 honest.0) fits.1 honest.1 first.1

none_numbered : {A : Type 0} (n : ℕ) (x : A) → numbered {A = A} [] n ≡ Some x → ⊥
none_numbered {A} n x is = by (n == 0) is
  where
    by : (b : Bool) → cond b None None ≡ Some x → ⊥
    by true e = cc
    by false e = cc

pub first_stays : (image : List ℕ) (index id : ℕ) → All (λ b. b < 2 ^ 8) image → is_image image ≡ true → Stays image index id (first_world image)
first_stays image index id bytes file = record {
  bytes = bytes;
  file = file;
  stands = first_stands image index;
  holds = first_holds image;
  moves = record {
    fresh = λ now. record { sent = refl; uplinks = refl; stages = refl; devices = λ n d there. absurd (none_numbered n d there) };
    plays = λ over. absurd cc;
  };
}

-- from the first event on a device that suits plays
pub plays_there : (image : List ℕ) (index id : ℕ) (w : WorldState) → Stays image index id w → Plays image id w
plays_there image index id w k = now_plays image id w k.file k.stands.keyed.even k.moves

pub sound_there : (image : List ℕ) (index id : ℕ) (w : WorldState) (d : DeviceState) → Stays image index id w → numbered w.devices id ≡ Some d → IsSound image (cut_of w.server.plan) d
sound_there image index id w d k there = device_sound image w id d k.stands.keeps k.holds there
