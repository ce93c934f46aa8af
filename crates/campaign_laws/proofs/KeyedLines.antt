-- The keys and counts of a campaign hold after each form.
use Rattle.std.proofs.Common.{◌≡◌, inl, inr, ℕ, zero, suc, ◌+◌, ◌-◌, ◌^◌, ◌<◌, ◌≤◌, ◌&&◌, ◌==◌, nat_lt, nat_le, Bool, true, false, cond, List, [], ◌∷◌, ◌++◌, length, slice_get, replicate, Option, None, Some, IfSome, Ok, refl, sym, ap, ◌∙◌, subst, arith, true≢false}
use Rattle.std.proofs.lemmas.Bool.{and_parts, ltb-true, leb-true}
use Rattle.std.proofs.lemmas.List.{length-set, length_push}
use Rattle.std.specs.List.{AllByRecursion, slice_set}
use Rattle.std.specs.Result.{result_ok}
use Rattle.wire_base.specs.Numbered.{numbered}
use Rattle.aes_block.specs.Cipher.{IsBlock}
use Rattle.mc_group.specs.Groups.{group_at}
use Rattle.device_core.specs.Configuration.{Configuration}
use Rattle.device_core.specs.Device.{DeviceState, first_device}
use Rattle.device_core.specs.Events.{Event, Wakes, Receives, Migrates, event_step, after_event}
use Rattle.device_core.proofs.HeardSessions.{event_config}
use Rattle.campaign_server.specs.declared.plan.Kind.TheVariants as kind
use Rattle.campaign_server.specs.declared.plan.PlanDevice.{PlanDevice}
use Rattle.campaign_server.specs.declared.plan.PlanGroup.{PlanGroup}
use Rattle.campaign_server.specs.Plan.{Plan, fits_bits}
use Rattle.campaign_server.specs.Server.{ServerState, DownlinkCommand, first_server, downlink_of, ledger}
use Rattle.campaign_server.specs.Asking.{by_unicast, request_of}
use Rattle.campaign_server.specs.Fragments.{next_fragment, after_fragment, status_to_all, after_status_to_all}
use Rattle.campaign_server.specs.Time.{time_answer}
use Rattle.campaign_server.specs.Uplinks.{with_answers}
use Rattle.campaign_server.proofs.LineItems.{numbered_more, numbered_push, numbered_put, numbered_there}
use Rattle.script_lines.specs.declared.forms.Form.{Form}
use Rattle.script_lines.specs.declared.forms.Form.TheVariants.{Header, Image, Group, WindowC, WindowB, Device, At, Wake, Migrate, Power, Ask, Frag, Status, Down, Raw, Air, RawAir, Up, End}
use Rattle.script_lines.specs.Ranges.{in_range}
use Rattle.campaign_world.specs.declared.section.Section.{Section}
use Rattle.campaign_world.specs.declared.section.Section.TheVariants as section
use Rattle.campaign_world.specs.declared.numbered.SentPayload.{SentPayload}
use Rattle.campaign_world.specs.declared.numbered.NumberedUplink.{NumberedUplink}
use Rattle.campaign_world.specs.World.{WorldState, first_world}
use Rattle.campaign_world.specs.Said.{Said, Own, Elsewhere, Reached}
use Rattle.campaign_world.specs.Causes.{may_reach, form_cause, said_cause}
use Rattle.campaign_world.specs.Making.{config_of, with_sent, with_device, with_event_of, after_up, at_events, after_form, after_said}
use Rattle.campaign_world.proofs.Steps.{numbered_at}
use Rattle.campaign_laws.proofs.HeadlineForms.{passes, payload_there, is_strange, reached_passes, is_odd, not_true}
use Rattle.campaign_laws.proofs.PlanGroups.{is_planning, plan_at, answers_plan}
use Rattle.campaign_laws.specs.Fields.{HasFields, LineFits}
use Rattle.campaign_laws.specs.Headline.{HasNoOther}
use Rattle.campaign_laws.proofs.Crossing.{crossing_groups}
use Rattle.campaign_laws.proofs.OwnGroups.{HasOwn, delivery_own, waking_own, migration_own}
use Rattle.campaign_laws.proofs.Keyed.{FitsGroup, IsFit, IsPlanned, IsKept, IsNext, IsKeyed, next_later, first_next, fragment_next, status_next, answers_next, asked_kept, fragment_kept, status_kept, time_kept}
use Rattle.campaign_world.proofs.Zips.{all_more}
use Rattle.campaign_laws.proofs.Events.{up_by, fragment_sends, status_sends}
use Rattle.campaign_laws.proofs.Items.{all_numbered, is_there}

-- the last item
last_get : {A : Type 0} (xs : List A) (y : A) → slice_get (xs ++ y ∷ []) (length xs) ≡ Some y
last_get [] y = refl
last_get (x ∷ xs) y = last_get xs y

numbered_last : {A : Type 0} (xs : List A) (y : A) → numbered (xs ++ y ∷ []) (length xs + 1) ≡ Some y
numbered_last xs y =
    let at : length xs + 1 - 1 ≡ length xs = omega arith in
    numbered_at (xs ++ y ∷ []) (length xs + 1) y (omega arith)
    (ap (λ (k : ℕ). slice_get (xs ++ y ∷ []) k) at ∙ last_get xs y)

-- what holds of a campaign after so many lines
abbrev pub Keyed : (lines : ℕ) → WorldState → Type 0
Keyed lines w = IsKeyed lines w.section w.server w.devices w.sent

-- ---- the plan

plan_keyed : (w : WorldState) (plan : Plan) (next : Section) → is_planning w.section ≡ true → IsFit plan
    → plan.devices ≡ w.server.plan.devices → Keyed w.lines w
    → IsKeyed (w.lines + 1) next (first_server w.server.image plan) w.devices w.sent
plan_keyed w plan next here fit devices k = record {
  fit = fit;
  even = ap length devices ∙ k.even;
  none_sent = λ still. k.none_sent here;
  fresh = λ still. k.fresh here;
  own = λ id d there i g is. let none : Path (Option _) None (Some g) = sym (k.fresh here id d there i) ∙ is in absurd cc;
  planned = λ id d there.
      let its = k.planned id d there in
      (subst (λ (ds : List PlanDevice). numbered ds id ≡ Some (record { key = d.config.key; root = d.config.root })) (sym devices) its.0, its.1);
  kept = subst (AllByRecursion (IsKept plan)) (sym (k.none_sent here)) tt;
  next = first_next plan.group (w.lines + 1) fit.group;
}

-- one device more
none_at_first : (config : Configuration) (i : ℕ) → group_at (first_device config).groups i ≡ None
none_at_first config i = all_none config.groups i
  where
    all_none : (n i : ℕ) → group_at (replicate n None) i ≡ None
    all_none zero i = refl
    all_none (suc n) zero = refl
    all_none (suc n) (suc i) = all_none n i

joined_keyed : (w : WorldState) (config : Configuration) → is_planning w.section ≡ true → IsBlock config.key → Keyed w.lines w
    → IsKeyed (w.lines + 1) section.Devices
    (first_server w.server.image
    (record w.server.plan { devices = w.server.plan.devices ++ record { key = config.key; root = config.root } ∷ [] }))
    (w.devices ++ first_device config ∷ []) w.sent
joined_keyed w config here key k = record {
  fit = record { group = k.fit.group; window = k.fit.window };
  even = length_push w.server.plan.devices _ ∙ ap (λ (n : ℕ). n + 1) k.even ∙ sym (length_push w.devices _);
  none_sent = λ still. k.none_sent here;
  fresh = λ still. unset;
  own = λ id d there i g is. let none : Path (Option _) None (Some g) = sym (unset id d there i) ∙ is in absurd cc;
  planned = both;
  kept = subst (AllByRecursion (IsKept _)) (sym (k.none_sent here)) tt;
  next = first_next w.server.plan.group (w.lines + 1) k.fit.group;
}
  where
    new : DeviceState
    new = first_device config

    unset : (id : ℕ) (d : DeviceState) → numbered (w.devices ++ new ∷ []) id ≡ Some d → (i : ℕ) → group_at d.groups i ≡ None
    unset id d there i = elim (numbered_push w.devices new id) [
      | inl same ↦ k.fresh here id d (sym same ∙ there) i
      | inr last ↦
          let is : new ≡ d = (let e : Some new ≡ Some d = sym last.1 ∙ there in cc) in
          subst (λ (x : DeviceState). group_at x.groups i ≡ None) is (none_at_first config i)
    ]

    both : (id : ℕ) (d : DeviceState) → numbered (w.devices ++ new ∷ []) id ≡ Some d
        → IsPlanned (record w.server.plan { devices = w.server.plan.devices ++ record { key = config.key; root = config.root } ∷ [] }) id d.config
        × IsBlock d.config.key
    both id d there = elim (numbered_push w.devices new id) [
      | inl same ↦
          let its = k.planned id d (sym same ∙ there) in
          (numbered_more w.server.plan.devices _ id _ its.0, its.1)
      | inr last ↦
          let is : new ≡ d = (let e : Some new ≡ Some d = sym last.1 ∙ there in cc) in
          let at : id ≡ length w.server.plan.devices + 1 = last.2 ∙ ap (λ (n : ℕ). n + 1) (sym k.even) in
          subst (λ (x : DeviceState). IsPlanned
          (record w.server.plan { devices = w.server.plan.devices ++ record { key = config.key; root = config.root } ∷ [] }) id x.config
          × IsBlock x.config.key) is (pushed id at, key)
    ]
      where
        pushed : (id : ℕ) → id ≡ length w.server.plan.devices + 1
            → numbered (w.server.plan.devices ++ record { key = config.key; root = config.root } ∷ []) id
            ≡ Some (record { key = config.key; root = config.root })
        pushed id at = ap (λ (i : ℕ). numbered (w.server.plan.devices ++ record { key = config.key; root = config.root } ∷ []) i) at
            ∙ numbered_last w.server.plan.devices (record { key = config.key; root = config.root })

-- ---- events

-- nothing is sent, and nothing happens at a device
still_keyed : (lines : ℕ) (here next : Section) (server : ServerState) (ds : List DeviceState) (sent : List SentPayload)
    → (is_planning next ≡ true → is_planning here ≡ true) → IsKeyed lines here server ds sent
    → IsKeyed (lines + 1) next server ds sent
still_keyed lines here next server ds sent early k = record {
  fit = k.fit;
  even = k.even;
  none_sent = λ plan. k.none_sent (early plan);
  fresh = λ plan. k.fresh (early plan);
  own = k.own;
  planned = k.planned;
  kept = k.kept;
  next = next_later server.plan.group server.count lines k.next;
}

-- an event at a device
device_keyed : (w : WorldState) (n : ℕ) (d : DeviceState) (e : Event) → 1 ≤ n → numbered w.devices n ≡ Some d
    → HasOwn w.server.plan.group (event_step d e).groups → Keyed w.lines w
    → Keyed (w.lines + 1) (at_events (with_device w n (event_step d e)))
unfolding with_device
device_keyed w n d e first there own k = record {
  fit = k.fit;
  even = k.even ∙ sym (length-set w.devices (n - 1) (after_event d e));
  none_sent = λ plan. absurd (true≢false (sym plan));
  fresh = λ plan. absurd (true≢false (sym plan));
  own = λ id x is. elim (numbered_put w.devices n id (after_event d e) first) [
    | inl same ↦ subst (λ (y : DeviceState). HasOwn w.server.plan.group y.groups) (put id x same is) own
    | inr other ↦ k.own id x (sym other ∙ is)
  ];
  planned = λ id x is. elim (numbered_put w.devices n id (after_event d e) first) [
    | inl same ↦
        let its = k.planned n d there in
        subst (λ (y : DeviceState). IsPlanned w.server.plan id y.config × IsBlock y.config.key) (put id x same is)
        (subst (λ (i : ℕ). IsPlanned w.server.plan i (after_event d e).config × IsBlock (after_event d e).config.key) (sym same)
        (subst (λ (c : Configuration). IsPlanned w.server.plan n c × IsBlock c.key) (sym (event_config d e)) its))
    | inr other ↦ k.planned id x (sym other ∙ is)
  ];
  kept = k.kept;
  next = next_later w.server.plan.group w.server.count w.lines k.next;
}
  where
    put : (id : ℕ) (x : DeviceState) → id ≡ n → numbered (slice_set w.devices (n - 1) (after_event d e)) id ≡ Some x
        → after_event d e ≡ x
    put id x same is =
        let here : numbered (slice_set w.devices (n - 1) (after_event d e)) id ≡ Some (after_event d e) =
        ap (λ (i : ℕ). numbered (slice_set w.devices (n - 1) (after_event d e)) i) same
        ∙ numbered_there w.devices n d (after_event d e) there in
        let both : Some (after_event d e) ≡ Some x = sym here ∙ is in cc

-- a payload is sent
sent_keyed : (w : WorldState) (s : ServerState) (sent : List SentPayload) → s.plan ≡ w.server.plan → IsNext s.plan.group s.count (w.lines + 1)
    → AllByRecursion (IsKept w.server.plan) sent → Keyed w.lines w → Keyed (w.lines + 1) (at_events (record w { server = s; sent = sent }))
sent_keyed w s sent same next kept k = record {
  fit = subst IsFit (sym same) k.fit;
  even = ap (λ (p : Plan). length p.devices) same ∙ k.even;
  none_sent = λ plan. absurd (true≢false (sym plan));
  fresh = λ plan. absurd (true≢false (sym plan));
  own = λ id d there. subst (λ (p : Plan). HasOwn p.group d.groups) (sym same) (k.own id d there);
  planned = λ id d there. subst (λ (p : Plan). IsPlanned p id d.config × IsBlock d.config.key) (sym same) (k.planned id d there);
  kept = subst (λ (p : Plan). AllByRecursion (IsKept p) sent) (sym same) kept;
  next = next;
}

sends_keyed : (w : WorldState) (s : ServerState) (to : Option ℕ) (o : Option DownlinkCommand) → s.plan ≡ w.server.plan
    → IsNext s.plan.group s.count (w.lines + 1)
    → IfSome o (λ x. IsKept w.server.plan (record { receiver = to; down = downlink_of x })) → Keyed w.lines w
    → Keyed (w.lines + 1) (at_events (with_sent (record w { server = s }) to o))
sends_keyed w s to None same next kept k = sent_keyed w s w.sent same next k.kept k
sends_keyed w s to (Some down) same next kept k =
    sent_keyed w s (w.sent ++ record { receiver = to; down = downlink_of down } ∷ []) same next
    (all_more (IsKept w.server.plan) w.sent _ k.kept kept) k

up_keyed : (w : WorldState) (o : Option NumberedUplink) → Keyed w.lines w → Keyed (w.lines + 1) (at_events (after_up w o))
up_keyed w o k =
    up_by (Keyed (w.lines + 1)) w
    (still_keyed w.lines w.section section.Events w.server w.devices w.sent (λ plan. absurd (true≢false (sym plan))) k)
    (λ dev cs. sends_keyed w (with_answers w.server dev cs (ledger w.server dev)) (Some dev) (by_unicast (time_answer w.time cs))
    (answers_plan w.server dev cs (ledger w.server dev))
    (answers_next w.server dev w.lines cs (ledger w.server dev) k.next) (time_kept w.server.plan (Some dev) w.time cs) k) o

reached_keyed : (w : WorldState) (number n word : ℕ) (d : DeviceState) (p : SentPayload) → 1 ≤ n → numbered w.devices n ≡ Some d
    → numbered w.sent number ≡ Some p → may_reach n (Some p) ≡ true → Keyed w.lines w
    → Keyed (w.lines + 1) (with_event_of w n (Down number n word))
reached_keyed w number n word d p first there got may k =
    let e : Event = Receives w.time word (w.lines + 1) p.down in
    let its = k.planned n d there in
    let kept = all_numbered (IsKept w.server.plan) w.sent number p k.kept got in
    let own = delivery_own w.server.plan.group w.time word (w.lines + 1) p.down d (kept.own n d.config may its.0 its.1)
    (k.own n d there) in
    rw (there, got) (device_keyed w n d e first there own k)

-- ---- each form

window_fits : (w : WorldState) (plan : Plan) → IsFit w.server.plan → plan.group ≡ w.server.plan.group
    → IfSome plan.window (λ x. fits_bits x ≡ true) → IsFit plan
window_fits w plan fit group window = record { group = subst (λ (g : Option PlanGroup). IfSome g FitsGroup) (sym group) fit.group; window = window }

pub form_keyed : (index : ℕ) (w : WorldState) (form : Form) → form_cause w form ≡ None → HasFields index form → is_strange form ≡ false
    → w.lines < 20000 → Keyed w.lines w → Keyed (w.lines + 1) (after_form w form)
unfolding after_form in_range
form_keyed index w Header fine fits plain few k =
    let here = plan_at w.section Header refl (passes w Header fine).may in
    still_keyed w.lines w.section section.Image w.server w.devices w.sent (λ plan. here) k
form_keyed index w (Image frag_size parity its) fine fits plain few k =
    let here = plan_at w.section (Image frag_size parity its) refl (passes w (Image frag_size parity its) fine).may in
    plan_keyed w (record w.server.plan { frag_size = frag_size; parity = parity; index = its }) section.Group here
    (record { group = k.fit.group; window = k.fit.window }) refl k
form_keyed index w (Group id addr key min max) fine fits plain few k =
    let p = passes w (Group id addr key min max) fine in
    let here = plan_at w.section (Group id addr key min max) refl p.may in
    let whole = and_parts (nat_lt min (2 ^ 32) && nat_lt max (2 ^ 32) && nat_lt min max && nat_le id 3) true p.ranged in
    let both = and_parts (nat_lt min (2 ^ 32) && nat_lt max (2 ^ 32) && nat_lt min max) (nat_le id 3) whole.0 in
    let last = and_parts (nat_lt min (2 ^ 32) && nat_lt max (2 ^ 32)) (nat_lt min max) both.0 in
    let first = and_parts (nat_lt min (2 ^ 32)) (nat_lt max (2 ^ 32)) last.0 in
    let own : PlanGroup = record { id = id; addr = addr; key = key; min = min; max = max } in
    plan_keyed w (record w.server.plan { group = Some own }) section.Window here
    (record {
      group = record { id = leb-true _ _ both.1; addr = fits.0; key = fits.1; min = ltb-true _ _ first.0; max = ltb-true _ _ first.1; some = ltb-true _ _ last.1 };
      window = k.fit.window;
    }) refl k
form_keyed index w (WindowC start timeout freq dr) fine fits plain few k =
    let p = passes w (WindowC start timeout freq dr) fine in
    let here = plan_at w.section (WindowC start timeout freq dr) refl p.may in
    let both = and_parts (nat_lt start (2 ^ 32) && nat_le timeout 15 && nat_lt freq (2 ^ 24) && nat_le dr 255) true p.ranged in
    plan_keyed w (record w.server.plan { window = Some (record { kind = kind.C; start = start; timeout = timeout; freq = freq; dr = dr }) })
    section.Device here (record { group = k.fit.group; window = both.0 }) refl k
form_keyed index w (WindowB start periodicity timeout freq dr) fine fits plain few k =
    let p = passes w (WindowB start periodicity timeout freq dr) fine in
    let here = plan_at w.section (WindowB start periodicity timeout freq dr) refl p.may in
    let both = and_parts (nat_lt start (2 ^ 32) && nat_le timeout 15 && nat_lt freq (2 ^ 24) && nat_le dr 255 && nat_le periodicity 7) true p.ranged in
    plan_keyed w (record w.server.plan { window = Some (record { kind = kind.B periodicity; start = start; timeout = timeout; freq = freq; dr = dr }) })
    section.Device here (record { group = k.fit.group; window = turned start periodicity timeout freq dr both.0 }) refl k
  where
    turned : (start periodicity timeout freq dr : ℕ)
        → (nat_lt start (2 ^ 32) && nat_le timeout 15 && nat_lt freq (2 ^ 24) && nat_le dr 255 && nat_le periodicity 7) ≡ true
        → (nat_le periodicity 7 && nat_lt start (2 ^ 32) && nat_le timeout 15 && nat_lt freq (2 ^ 24) && nat_le dr 255) ≡ true
    turned start periodicity timeout freq dr is =
        let both = and_parts (nat_lt start (2 ^ 32) && nat_le timeout 15 && nat_lt freq (2 ^ 24) && nat_le dr 255) (nat_le periodicity 7) is in
        rw (both.1) both.0
form_keyed index w (Device dev) fine fits plain few k =
    let form : Form = Device dev in
    let here = plan_at w.section form refl (passes w form fine).may in
    joined_keyed w (config_of dev) here fits k
form_keyed index w (At time) fine fits plain few k =
    still_keyed w.lines w.section section.Events w.server w.devices w.sent (λ plan. absurd (true≢false (sym plan))) k
form_keyed index w (Power n) fine fits plain few k =
    still_keyed w.lines w.section section.Events w.server w.devices w.sent (λ plan. absurd (true≢false (sym plan))) k
form_keyed index w (Wake n) fine fits plain few k =
    let there = is_there w.devices n (passes w (Wake n) fine).names in
    let own = waking_own w.server.plan.group w.time there.1.0 (k.own n there.1.0 there.1.1) in
    rw (there.1.1) (device_keyed w n there.1.0 (Wakes w.time) there.0 there.1.1 own k)
form_keyed index w (Migrate n) fine fits plain few k =
    let there = is_there w.devices n (passes w (Migrate n) fine).names in
    let own = migration_own w.server.plan.group there.1.0 (k.own n there.1.0 there.1.1) in
    rw (there.1.1) (device_keyed w n there.1.0 Migrates there.0 there.1.1 own k)
form_keyed index w (Ask n) fine fits plain few k =
    sends_keyed w w.server (Some n) (request_of w.server n) refl (next_later w.server.plan.group w.server.count w.lines k.next)
    (asked_kept w.server n k.fit) k
form_keyed index w Frag fine fits plain few k =
    sends_keyed w (after_fragment w.server) None (result_ok (next_fragment w.server)) (fragment_sends w.server).plan
    (fragment_next w.server w.lines k.next) (fragment_kept w.server w.lines k.next few) k
form_keyed index w Status fine fits plain few k =
    sends_keyed w (after_status_to_all w.server) None (status_to_all w.server) (status_sends w.server).plan
    (status_next w.server w.lines k.next) (status_kept w.server w.lines k.next few) k
form_keyed index w (Down number n word) fine fits plain few k =
    let p = passes w (Down number n word) fine in
    let there = is_there w.devices n p.names in
    let got = payload_there n (numbered w.sent number) p.come in
    let may : may_reach n (Some got.0) ≡ true = subst (λ (o : Option SentPayload). may_reach n o ≡ true) got.1 p.come in
    reached_keyed w number n word there.1.0 got.0 there.0 there.1.1 got.1 may k
form_keyed index w (Raw n port payload word) fine fits plain few k = absurd (true≢false plain)
form_keyed index w (Air number n word) fine fits plain few k = absurd (true≢false plain)
form_keyed index w (RawAir n bytes word) fine fits plain few k = absurd (true≢false plain)
form_keyed index w (Up number) fine fits plain few k = up_keyed w (numbered w.uplinks number) k
form_keyed index w End fine fits plain few k =
    still_keyed w.lines w.section section.Ended w.server w.devices w.sent (λ plan. absurd (true≢false (sym plan))) k

-- ---- what a line says

pub said_keyed : (index : ℕ) (w : WorldState) (said : Said) → said_cause w said ≡ None → LineFits index (Ok said)
    → is_odd w.server.plan.index said ≡ false
    → w.lines < 20000 → ((id : ℕ) (d : DeviceState) → numbered w.devices id ≡ Some d → HasNoOther w.server.plan.index d.sessions)
    → Keyed w.lines w → Keyed (w.lines + 1) (after_said w said)
said_keyed index w (Own form) fine fits plain few alone k = form_keyed index w form fine fits plain few k
said_keyed index w Elsewhere fine fits plain few alone k =
    still_keyed w.lines w.section w.section w.server w.devices w.sent (λ plan. plan) k
said_keyed index w (Reached n word down) fine fits plain few alone k =
    let there = is_there w.devices n (reached_passes w n word down fine).1 in
    let groups = crossing_groups w.server.plan.index w.time word (w.lines + 1) down there.1.0 (not_true _ plain) (alone n there.1.0 there.1.1) in
    let own = subst (HasOwn w.server.plan.group) (sym groups) (k.own n there.1.0 there.1.1) in
    rw (there.1.1) (device_keyed w n there.1.0 (Receives w.time word (w.lines + 1) down) there.0 there.1.1 own k)

-- ---- before any line

nobody_there : (id : ℕ) (d : DeviceState) → numbered [] id ≡ Some d → ⊥
nobody_there id d is = by (id == 0) is
  where
    by : (b : Bool) → cond b None None ≡ Some d → ⊥
    by true is = cc
    by false is = cc

pub first_keyed : (image : List ℕ) → Keyed 0 (first_world image)
first_keyed image = record {
  fit = record { group = tt; window = tt };
  even = refl;
  none_sent = λ plan. refl;
  fresh = λ plan id d there. absurd (nobody_there id d there);
  own = λ id d there. absurd (nobody_there id d there);
  planned = λ id d there. absurd (nobody_there id d there);
  kept = tt;
  next = tt;
}
