-- What holds of each campaign of an image file, and so the ledger is true.
use Rattle.std.proofs.Common.{◌≡◌, inl, inr, ⊎_elim, ℕ, zero, suc, ◌+◌, ◌-◌, ◌^◌, ◌<◌, Bool, true, false, cond, ◌==◌, ◌&&◌, nat_lt, nat_le, List, [], ◌∷◌, ◌++◌, length, map, replicate, slice_get, All, Option, None, Some, IfSome, Ok, Err, refl, sym, ap, ◌∙◌, subst, arith, eqb-true, true≢false}
use Rattle.std.proofs.lemmas.Bool.{and_parts, ltb-true}
use Rattle.std.specs.List.{AllByRecursion, slice_set}
use Rattle.std.specs.Result.{result_ok}
use Rattle.wire_base.specs.declared.refusal.Direction.TheVariants.{Down as Downward, Up as Upward}
use Rattle.image_slots.specs.Image.{is_image}
use Rattle.package_grammar.specs.declared.command.Command.{Command}
use Rattle.package_grammar.specs.declared.downlink.Downlink.{Downlink}
use Rattle.package_grammar.specs.Reading.{Reading, reading_of}
use Rattle.device_core.specs.declared.uplink.Uplink.{Uplink}
use Rattle.device_core.specs.Device.{DeviceState}
use Rattle.device_core.specs.Deliver.{delivery, waking}
use Rattle.device_core.specs.Firmware.{after_migration}
use Rattle.device_core.specs.Events.{Wakes, Migrates}
use Rattle.campaign_server.specs.declared.stage.Stage.{Stage}
use Rattle.campaign_server.specs.declared.stage.Stage.TheVariants.{At as Asked, Updated}
use Rattle.campaign_server.specs.declared.stage.Request.TheVariants.{Version}
use Rattle.campaign_server.specs.Plan.{Plan}
use Rattle.campaign_server.specs.Server.{ServerState, DownlinkCommand, port_of, downlink_of, ledger}
use Rattle.wire_base.specs.Numbered.{numbered}
use Rattle.campaign_server.specs.Asking.{by_unicast, request_of}
use Rattle.campaign_server.specs.Fragments.{next_fragment, after_fragment, status_to_all, after_status_to_all}
use Rattle.campaign_server.specs.Time.{time_answer}
use Rattle.campaign_server.specs.Answers.{stage_after_all}
use Rattle.campaign_server.specs.Uplinks.{with_answers, read_uplink, uplink_step}
use Rattle.script_lines.specs.declared.forms.Form.{Form}
use Rattle.script_lines.specs.declared.forms.Form.TheVariants.{Header, Image, Group, WindowC, WindowB, Device, At, Wake, Migrate, Power, Ask, Frag, Status, Down, Raw, Air, RawAir, Up, End}
use Rattle.script_lines.specs.Limits.{max_rows, max_devices}
use Rattle.script_lines.specs.Ranges.{in_range}
use Rattle.campaign_world.specs.declared.section.Section.{Section}
use Rattle.campaign_world.specs.declared.numbered.SentPayload.{SentPayload}
use Rattle.campaign_world.specs.declared.numbered.NumberedUplink.{NumberedUplink}
use Rattle.campaign_world.specs.World.{WorldState, first_world}
use Rattle.campaign_world.specs.Said.{Said, Own, Elsewhere, Reached, Line}
use Rattle.campaign_world.specs.Causes.{form_cause, said_cause, line_cause, cause_of, fits_script}
use Rattle.campaign_world.specs.Making.{with_plan, with_sent, made_by, with_device, with_event, with_event_of, after_answer, after_up, at_events, after_form, after_said}
use Rattle.campaign_world.specs.Script.{one_line_more, after_line, read_lines, campaign_of}
use Rattle.campaign_world.specs.Honest.{has_raw, AreHonest}
use Rattle.campaign_laws.specs.Ledger.{IsRunning, Runs, TheLedgerIsTrue}
use Rattle.campaign_server.proofs.LineItems.{if_some, numbered_more, numbered_push, numbered_put, numbered_there}
use Rattle.campaign_laws.proofs.HeadlineCommands.{Cut, cut_of, IsCut}
use Rattle.campaign_laws.proofs.HeadlineEnds.{IsDeviceFor}
use Rattle.campaign_laws.proofs.HeadlineWorlds.{IsPayloadOf, Keeps, Turns}
use Rattle.campaign_laws.proofs.HeadlineForms.{passes, is_strange, form_turn, reached_passes, is_odd, not_true, payload_there}
use Rattle.campaign_laws.specs.Fields.{LineFits, AllFit}
use Rattle.campaign_laws.proofs.Crossing.{crossing_goes}
use Rattle.campaign_laws.proofs.HonestLines.{heard_said, Stands, first_stands, goes_on_by, line_stands}
use Rattle.campaign_laws.proofs.HeadlineLines.{end_is}
use Rattle.campaign_laws.proofs.Independence.{read_first, line_fine}
use Rattle.campaign_laws.proofs.LedgerDevices.{IsSound, Goes, ReadsAs, delivery_goes, waking_goes, migration_goes}
use Rattle.campaign_laws.proofs.LedgerSlots.{HasSlots, Tells, TellsTruly, tells_on}
use Rattle.campaign_laws.proofs.LedgerServers.{updated_by, IsOwn, ask_own, fragment_own, status_own, time_own, asked_reads, sent_reads}
use Rattle.campaign_laws.proofs.Items.{all_both, number_first, all_numbered, is_there}

-- ---- items

get_same : {A : Type 0} (n k : ℕ) (x y : A) → slice_get (replicate n x) k ≡ Some y → x ≡ y
get_same zero k x y is = absurd cc
get_same (suc n) zero x y is = cc
get_same (suc n) (suc k) x y is = get_same n k x y is

same_by : {A : Type 0} (n k : ℕ) (x y : A) (b : Bool) → cond b None (slice_get (replicate n x) k) ≡ Some y → x ≡ y
same_by n k x y true is = absurd cc
same_by n k x y false is = get_same n k x y is

-- at its start no device is updated
none_updated : (n id : ℕ) → numbered (replicate n (Asked Version)) id ≡ Some Updated → ⊥
none_updated n id is =
    let same : Asked Version ≡ Updated = same_by n (id - 1) (Asked Version) Updated (id == 0) is in cc

-- ---- a campaign

-- its hardware version has its bits, and its slots are the image's
pub record IsFit (image : List ℕ) (d : DeviceState) : Type 0 where
  pub hardware : d.config.hw < 2 ^ 32
  slots : HasSlots image d.slots

-- it is a command of the server's, and on port 203 one of those that it asks of firmware management
abbrev pub IsOwnPayload : SentPayload → Type 0
IsOwnPayload p = (down : DownlinkCommand) × IsOwn down × (p.down ≡ downlink_of down)

-- where an uplink tells the image's version, its device runs the image
abbrev pub MadeTruly : List ℕ → List DeviceState → NumberedUplink → Type 0
MadeTruly image ds made = TellsTruly image (Runs image ds made.device) made.uplink

-- what holds after each line
pub record Holds (image : List ℕ) (w : WorldState) : Type 0 where
  pub devices : (id : ℕ) (d : DeviceState) → numbered w.devices id ≡ Some d → IsFit image d
  pub sent : AllByRecursion IsOwnPayload w.sent
  pub uplinks : AllByRecursion (MadeTruly image w.devices) w.uplinks
  pub ledger : (id : ℕ) → numbered w.server.stages id ≡ Some Updated → Runs image w.devices id

-- ---- a payload is sent

-- the stages of a server are true
abbrev AreTrue : List ℕ → List DeviceState → ServerState → Type 0
AreTrue image ds server = (id : ℕ) → numbered server.stages id ≡ Some Updated → Runs image ds id

sends_hold : (image : List ℕ) (w : WorldState) (server : ServerState) (to : Option ℕ) (down : Option DownlinkCommand)
    → Holds image w → AreTrue image w.devices server → IfSome down IsOwn
    → Holds image (at_events (with_sent (record w { server = server }) to down))
sends_hold image w server to None h stood own =
    record { devices = h.devices; sent = h.sent; uplinks = h.uplinks; ledger = stood }
sends_hold image w server to (Some down) h stood own = record {
  devices = h.devices;
  sent = all_both IsOwnPayload w.sent (record { receiver = to; down = downlink_of down } ∷ []) h.sent
      ((down, own, refl), tt);
  uplinks = h.uplinks;
  ledger = stood;
}

counts_true : (image : List ℕ) (ds : List DeviceState) (server counted : ServerState) (b : Bool)
    → counted.stages ≡ server.stages
    → AreTrue image ds server → AreTrue image ds (cond b counted server)
counts_true image ds server counted true same stood =
    λ id is. stood id (ap (λ (xs : List Stage). numbered xs id) (sym same) ∙ is)
counts_true image ds server counted false same stood = stood

fragment_true : (image : List ℕ) (ds : List DeviceState) (server : ServerState) → AreTrue image ds server
    → AreTrue image ds (after_fragment server)
unfolding after_fragment
fragment_true image ds server stood = counts_true image ds server _ _ refl stood

status_true : (image : List ℕ) (ds : List DeviceState) (server : ServerState) → AreTrue image ds server
    → AreTrue image ds (after_status_to_all server)
unfolding after_status_to_all
status_true image ds server stood = counts_true image ds server _ _ refl stood

-- ---- an uplink comes

answers_true : (image : List ℕ) (ds : List DeviceState) (server : ServerState) (dev : ℕ) (cs : List Command)
    (old : Option Stage)
    → server.image ≡ image → numbered server.stages dev ≡ old → AllByRecursion (Tells image (Runs image ds dev)) cs
    → AreTrue image ds server → AreTrue image ds (with_answers server dev cs old)
answers_true image ds server dev cs None is there told stood = stood
answers_true image ds server dev cs (Some old) is there told stood = λ id at.
    let new : Stage = stage_after_all server.plan server.image old cs in
    ⊎_elim
    (λ same.
    let here : numbered server.stages id ≡ Some old = ap (λ (n : ℕ). numbered server.stages n) same ∙ there in
    let put : numbered (slice_set server.stages (dev - 1) new) id ≡ Some new =
    ap (λ (n : ℕ). numbered (slice_set server.stages (dev - 1) new) n) same
    ∙ numbered_there server.stages dev old new there in
    let up : stage_after_all server.plan server.image old cs ≡ Updated = cc in
    ⊎_elim (λ was. stood id (here ∙ ap (λ (x : Stage). Some x) was))
    (λ runs. subst (Runs image ds) (sym same) runs)
    (updated_by server.plan server.image (Runs image ds dev) cs old
    (subst (λ (i : List ℕ). AllByRecursion (Tells i (Runs image ds dev)) cs) (sym is) told) up))
    (λ other. stood id (sym other ∙ at))
    (numbered_put server.stages dev id new (number_first server.stages dev old there))

read_holds : (image : List ℕ) (w : WorldState) (made : NumberedUplink) (r : Reading) → w.server.image ≡ image
    → Holds image w
    → MadeTruly image w.devices made → reading_of made.uplink.port Upward made.uplink.payload ≡ r
    → Holds image (at_events (after_answer w made.device (read_uplink w.server made.device w.time r)))
unfolding read_uplink
read_holds image w made (Ok cs) is h told read =
    sends_hold image w (with_answers w.server made.device cs (ledger w.server made.device)) (Some made.device)
    (by_unicast (time_answer w.time cs)) h
    (answers_true image w.devices w.server made.device cs (ledger w.server made.device) is refl
    (told cs read) h.ledger)
    (time_own w.time cs)
read_holds image w made (Err refusal) is h told read =
    record { devices = h.devices; sent = h.sent; uplinks = h.uplinks; ledger = h.ledger }

up_holds : (image : List ℕ) (w : WorldState) (number : ℕ) (o : Option NumberedUplink) → numbered w.uplinks number ≡ o
    → w.server.image ≡ image → Holds image w → Holds image (at_events (after_up w o))
unfolding uplink_step
up_holds image w number None there is h =
    record { devices = h.devices; sent = h.sent; uplinks = h.uplinks; ledger = h.ledger }
up_holds image w number (Some made) there is h =
    read_holds image w made (reading_of made.uplink.port Upward made.uplink.payload) is h
    (all_numbered (MadeTruly image w.devices) w.uplinks number made h.uplinks there) refl

-- ---- an event at a device

-- what runs the image runs it on
runs_put : (image : List ℕ) (cut : Cut) (ds : List DeviceState) (n id : ℕ) (d e new : DeviceState)
    → numbered ds n ≡ Some d
    → Goes image cut d e → new.slots ≡ e.slots → Runs image ds id → Runs image (slice_set ds (n - 1) new) id
runs_put image cut ds n id d e new there goes slots (x, is, runs) =
    ⊎_elim
    (λ same.
    let here : numbered ds n ≡ Some x = ap (λ (k : ℕ). numbered ds k) (sym same) ∙ is in
    let e_is : x ≡ d = cc in
    let now : IsRunning image new.slots =
    subst (IsRunning image) (sym slots)
    (goes.runs (subst (λ (y : DeviceState). IsRunning image y.slots) e_is runs)) in (
      new,
      ap (λ (k : ℕ). numbered (slice_set ds (n - 1) new) k) same ∙ numbered_there ds n d new there,
      now,
    ))
    (λ other. (x, other ∙ is, runs))
    (numbered_put ds n id new (number_first ds n d there))

made_on : (image : List ℕ) (ds later : List DeviceState) (us : List NumberedUplink)
    → ((id : ℕ) → Runs image ds id → Runs image later id) → AllByRecursion (MadeTruly image ds) us
    → AllByRecursion (MadeTruly image later) us
made_on image ds later [] on all = tt
made_on image ds later (u ∷ us) on all =
    let one = tells_on image (Runs image ds u.device) (Runs image later u.device) (on u.device) (u.uplink ∷ [])
    (all.0, tt) in
    (one.0, made_on image ds later us on all.1)

-- uplinks of device n
all_made : (image : List ℕ) (ds : List DeviceState) (n : ℕ) (us : List Uplink)
    → AllByRecursion (TellsTruly image (Runs image ds n)) us
    → AllByRecursion (MadeTruly image ds) (map (λ uplink. made_by n uplink) us)
all_made image ds n [] all = tt
all_made image ds n (u ∷ us) all = (all.0, all_made image ds n us all.1)

put_fits : (image : List ℕ) (ds : List DeviceState) (n : ℕ) (d new : DeviceState) → numbered ds n ≡ Some d
    → IsFit image new
    → ((id : ℕ) (x : DeviceState) → numbered ds id ≡ Some x → IsFit image x)
    → (id : ℕ) (x : DeviceState) → numbered (slice_set ds (n - 1) new) id ≡ Some x → IsFit image x
put_fits image ds n d new there fit all id x is =
    ⊎_elim
    (λ same.
    let put : numbered (slice_set ds (n - 1) new) id ≡ Some new =
    ap (λ (k : ℕ). numbered (slice_set ds (n - 1) new) k) same ∙ numbered_there ds n d new there in
    let e : new ≡ x = cc in subst (IsFit image) e fit)
    (λ other. all id x (sym other ∙ is))
    (numbered_put ds n id new (number_first ds n d there))

device_holds : (image : List ℕ) (cut : Cut) (w : WorldState) (n : ℕ) (d e : DeviceState)
    → numbered w.devices n ≡ Some d
    → Goes image cut d e → Holds image w → Holds image (at_events (with_device w n e))
unfolding with_device
device_holds image cut w n d e there goes h =
    let new : DeviceState = record e { outbox = [] } in
    let now : List DeviceState = slice_set w.devices (n - 1) new in
    let here : numbered now n ≡ Some new = numbered_there w.devices n d new there in
    record {
      devices = put_fits image w.devices n d new there
          (record { hardware = goes.sound.hardware; slots = goes.sound.slots }) h.devices;
      sent = h.sent;
      uplinks = all_both (MadeTruly image now) w.uplinks (map (λ uplink. made_by n uplink) e.outbox)
          (made_on image w.devices now w.uplinks
          (λ id. runs_put image cut w.devices n id d e new there goes refl) h.uplinks)
          (all_made image now n e.outbox
          (tells_on image (IsRunning image e.slots) (Runs image now n)
          (λ runs. (new, here, runs)) e.outbox goes.sound.outbox));
      ledger = λ id is. runs_put image cut w.devices n id d e new there goes refl (h.ledger id is);
    }

sound_of : (image : List ℕ) (cut : Cut) (d : DeviceState) → IsDeviceFor image cut d → IsFit image d
    → IsSound image cut d
sound_of image cut d k fit = record {
  hardware = fit.hardware;
  session = k.session;
  slots = fit.slots;
  outbox = subst (AllByRecursion (TellsTruly image (IsRunning image d.slots))) (sym k.empty) tt;
}

pub device_sound : (image : List ℕ) (w : WorldState) (n : ℕ) (d : DeviceState) → Keeps image w → Holds image w
    → numbered w.devices n ≡ Some d → IsSound image (cut_of w.server.plan) d
device_sound image w n d k h there =
    sound_of image (cut_of w.server.plan) d
    (if_some (IsDeviceFor image (cut_of w.server.plan)) (numbered w.devices n) d there (k.devices n))
    (h.devices n d there)

-- what is read of a sent payload
payload_by : (image : List ℕ) (cut : Cut) (p : SentPayload) (b : Bool) → (p.down.port == 203) ≡ b
    → All (λ b. b < 2 ^ 8) image
    → IsCut image cut → IsPayloadOf image cut p → IsOwnPayload p
    → ReadsAs image cut p.down.port (reading_of p.down.port Downward p.down.payload)
payload_by image cut p true port bytes is sent own =
    let same : port_of own.0.command ≡ 203 = ap (λ (x : Downlink). x.port) (sym own.2) ∙ eqb-true _ _ port in
    subst (λ (x : Downlink). ReadsAs image cut x.port (reading_of x.port Downward x.payload)) (sym own.2)
    (asked_reads image cut own.0.command (own.1 same))
payload_by image cut p false port bytes is sent own =
    let other : port_of sent.0.command ≡ 203 → ⊥ =
    λ same. let here : p.down.port ≡ 203 = ap (λ (x : Downlink). x.port) sent.2 ∙ same in grind (arith, port, here) in
    subst (λ (x : Downlink). ReadsAs image cut x.port (reading_of x.port Downward x.payload)) (sym sent.2)
    (sent_reads image cut sent.0 bytes is sent.1 (λ same. absurd (other same)))

-- the image is cut where a payload reaches a device
reached_cut : (image : List ℕ) (w v : WorldState) (number n word : ℕ) → Turns image (Own (Down number n word)) w v
    → IsCut image (cut_of w.server.plan)
reached_cut image w v number n word turn = elim turn.how [
  | inl q ↦ absurd (true≢false q.other)
  | inr other ↦ elim other [
    | inl b ↦ absurd (true≢false b.other)
    | inr another ↦ elim another [
      | inl j ↦ absurd (true≢false j.other)
      | inr r ↦ r.is_cut
    ]
  ]
]

woken_holds : (image : List ℕ) (w : WorldState) (n : ℕ) (d : DeviceState) → Keeps image w → Holds image w
    → numbered w.devices n ≡ Some d → Holds image (with_event w n (Some (Wakes w.time)))
woken_holds image w n d k h there = rw (there)
    (device_holds image (cut_of w.server.plan) w n d (waking w.time d).device there
    (waking_goes image (cut_of w.server.plan) w.time d (device_sound image w n d k h there)) h)

migrated_holds : (image : List ℕ) (w : WorldState) (n : ℕ) (d : DeviceState) → Keeps image w → Holds image w
    → numbered w.devices n ≡ Some d → Holds image (with_event w n (Some Migrates))
migrated_holds image w n d k h there = rw (there)
    (device_holds image (cut_of w.server.plan) w n d (after_migration d) there
    (migration_goes image (cut_of w.server.plan) d (device_sound image w n d k h there)) h)

reached_holds : (image : List ℕ) (w : WorldState) (number n word : ℕ) (d : DeviceState) (p : SentPayload)
    → All (λ b. b < 2 ^ 8) image → is_image image ≡ true → IsCut image (cut_of w.server.plan) → Keeps image w
    → Holds image w
    → numbered w.devices n ≡ Some d → numbered w.sent number ≡ Some p
    → Holds image (with_event_of w n (Down number n word))
reached_holds image w number n word d p bytes is cut k h there got =
    let whole : Cut = cut_of w.server.plan in
    let reads = payload_by image whole p _ refl bytes cut
    (all_numbered (IsPayloadOf image whole) w.sent number p k.sent got)
    (all_numbered IsOwnPayload w.sent number p h.sent got) in
    rw (there, got) (device_holds image whole w n d (delivery w.time word (w.lines + 1) p.down d).device there
    (delivery_goes image whole w.time word (w.lines + 1) p.down d bytes is reads
    (device_sound image w n d k h there)) h)

-- ---- the plan

plan_holds : (image : List ℕ) (w : WorldState) (plan : Plan) (next : Section) → Holds image w
    → Holds image (with_plan w plan next)
plan_holds image w plan next h = record {
  devices = h.devices;
  sent = h.sent;
  uplinks = h.uplinks;
  ledger = λ id is. absurd (none_updated (length plan.devices) id is);
}

joined_holds : (image : List ℕ) (w : WorldState) (d : DeviceState) → IsFit image d → Holds image w
    → (id : ℕ) (x : DeviceState) → numbered (w.devices ++ d ∷ []) id ≡ Some x → IsFit image x
joined_holds image w d fit h id x is =
    ⊎_elim (λ same. h.devices id x (sym same ∙ is)) (λ new. let e : d ≡ x = cc in subst (IsFit image) e fit)
    (numbered_push w.devices d id)

device_joins : (image : List ℕ) (w : WorldState) (d : DeviceState) (flash : List ℕ) (plan : Plan) (next : Section)
    → IsFit image d → Holds image w
    → Holds image (with_plan (record w { devices = w.devices ++ d ∷ []; flash = flash }) plan next)
device_joins image w d flash plan next fit h = record {
  devices = joined_holds image w d fit h;
  sent = h.sent;
  uplinks = made_on image w.devices (w.devices ++ d ∷ []) w.uplinks
      (λ id runs. (runs.0, numbered_more w.devices (d ∷ []) id runs.0 runs.1, runs.2)) h.uplinks;
  ledger = λ id is. absurd (none_updated (length plan.devices) id is);
}

-- ---- a form

still_holds : (image : List ℕ) (w v : WorldState) → v.devices ≡ w.devices → v.sent ≡ w.sent → v.uplinks ≡ w.uplinks
    → v.server ≡ w.server → Holds image w → Holds image v
still_holds image w v devices sent uplinks server h = record {
  devices = λ id d is. h.devices id d (ap (λ (ds : List DeviceState). numbered ds id) (sym devices) ∙ is);
  sent = subst (AllByRecursion IsOwnPayload) (sym sent) h.sent;
  uplinks = subst (λ (ds : List DeviceState). AllByRecursion (MadeTruly image ds) v.uplinks) (sym devices)
      (subst (AllByRecursion (MadeTruly image w.devices)) (sym uplinks) h.uplinks);
  ledger = λ id is. subst (λ (ds : List DeviceState). Runs image ds id) (sym devices)
      (h.ledger id (ap (λ (s : ServerState). numbered s.stages id) (sym server) ∙ is));
}

hw_small : (a b c d e : Bool) → (a && b && c && d && e) ≡ true → c ≡ true
hw_small a b true d e is = refl
hw_small true true false d e is = absurd cc
hw_small true false false d e is = absurd cc
hw_small false b false d e is = absurd cc

form_holds : (image : List ℕ) (w : WorldState) (form : Form) → All (λ b. b < 2 ^ 8) image → is_image image ≡ true
    → Keeps image w → Holds image w → form_cause w form ≡ None → is_strange form ≡ false → Holds image (after_form w form)
unfolding after_form in_range
form_holds image w Header bytes is k h fine honest = still_holds image w _ refl refl refl refl h
form_holds image w (Image frag_size parity index) bytes is k h fine honest = plan_holds image w _ _ h
form_holds image w (Group id addr key min max) bytes is k h fine honest = plan_holds image w _ _ h
form_holds image w (WindowC start timeout freq dr) bytes is k h fine honest = plan_holds image w _ _ h
form_holds image w (WindowB start periodicity timeout freq dr) bytes is k h fine honest = plan_holds image w _ _ h
form_holds image w (Device dev) bytes is k h fine honest =
    let form : Form = Device dev in
    let both = and_parts (in_range form) (fits_script (length w.server.image) (length w.devices) form)
    (passes w form fine).ranged in
    let small : dev.hw < 2 ^ 32 = ltb-true dev.hw (2 ^ 32)
    (hw_small (nat_le 1 dev.id) (nat_le dev.id max_devices) (nat_lt dev.hw (2 ^ 32)) (nat_le dev.rows max_rows)
    (nat_lt dev.offset (2 ^ 32)) both.0) in
    device_joins image w _ _ _ _ (record {
      hardware = small;
      slots = record { running = inl refl; next = inl refl };
    }) h
form_holds image w (At time) bytes is k h fine honest = still_holds image w _ refl refl refl refl h
form_holds image w (Power device) bytes is k h fine honest = still_holds image w _ refl refl refl refl h
form_holds image w (Wake device) bytes is k h fine honest =
    let d = is_there w.devices device (passes w (Wake device) fine).names in
    woken_holds image w device d.1.0 k h d.1.1
form_holds image w (Migrate device) bytes is k h fine honest =
    let d = is_there w.devices device (passes w (Migrate device) fine).names in
    migrated_holds image w device d.1.0 k h d.1.1
form_holds image w (Ask device) bytes is k h fine honest =
    sends_hold image w w.server (Some device) (request_of w.server device) h h.ledger (ask_own w.server device)
form_holds image w Frag bytes is k h fine honest =
    sends_hold image w (after_fragment w.server) None (result_ok (next_fragment w.server)) h
    (fragment_true image w.devices w.server h.ledger) (fragment_own w.server)
form_holds image w Status bytes is k h fine honest =
    sends_hold image w (after_status_to_all w.server) None (status_to_all w.server) h
    (status_true image w.devices w.server h.ledger) (status_own w.server)
form_holds image w (Down number device word) bytes is k h fine honest =
    let p = passes w (Down number device word) fine in
    let d = is_there w.devices device p.names in
    let s = payload_there device (numbered w.sent number) p.come in
    let cut = reached_cut image w _ number device word (form_turn image w (Down number device word) bytes k fine refl) in
    reached_holds image w number device word d.1.0 s.0 bytes is cut k h d.1.1 s.1
form_holds image w (Raw device port payload word) bytes is k h fine honest = absurd (true≢false honest)
form_holds image w (Air number device word) bytes is k h fine honest = absurd (true≢false honest)
form_holds image w (RawAir device bytes word) all is k h fine honest = absurd (true≢false honest)
form_holds image w (Up number) bytes is k h fine honest = up_holds image w number
    (numbered w.uplinks number) refl k.server.image_is h
form_holds image w End bytes is k h fine honest = still_holds image w _ refl refl refl refl h

-- ---- all lines

-- what a line says
said_holds : (image : List ℕ) (w : WorldState) (said : Said) → All (λ b. b < 2 ^ 8) image → is_image image ≡ true
    → Keeps image w → Holds image w → said_cause w said ≡ None → is_odd w.server.plan.index said ≡ false → Holds image (after_said w said)
said_holds image w (Own form) bytes is k h fine honest = form_holds image w form bytes is k h fine honest
said_holds image w Elsewhere bytes is k h fine honest = h
said_holds image w (Reached n word down) bytes is k h fine honest =
    let d = is_there w.devices n (reached_passes w n word down fine).1 in
    let alone = (if_some (IsDeviceFor image (cut_of w.server.plan)) (numbered w.devices n) d.1.0 d.1.1 (k.devices n)).alone in
    rw (d.1.1) (device_holds image (cut_of w.server.plan) w n d.1.0 (delivery w.time word (w.lines + 1) down d.1.0).device d.1.1
    (crossing_goes image (cut_of w.server.plan) w.server.plan.index w.time word (w.lines + 1) down d.1.0 (not_true _ honest) alone
    (device_sound image w n d.1.0 k h d.1.1)) h)

pub line_holds : (image : List ℕ) (index : ℕ) (w : WorldState) (line : Line) → All (λ b. b < 2 ^ 8) image
    → is_image image ≡ true → Stands image index w → Holds image w → cause_of w line ≡ None → LineFits index line
    → line_cause w line ≡ None → has_raw index line ≡ false → Holds image (after_line w line)
line_holds image index w (Err cause) bytes is k h none fits fine honest = absurd cc
line_holds image index w (Ok said) bytes is k h none fits fine honest =
    let on = goes_on_by image index w (Ok said) said bytes k refl none fits fine honest in
    let holds = said_holds image w (heard_said said) bytes is k.keeps h on.heard.fine on.heard.plain in
    subst (λ (v : WorldState). Holds image (one_line_more v)) (sym on.heard.same)
    (record { devices = holds.devices; sent = holds.sent; uplinks = holds.uplinks; ledger = holds.ledger })

all_hold : (image : List ℕ) (index : ℕ) (w end : WorldState) (lines : List Line) → All (λ b. b < 2 ^ 8) image
    → is_image image ≡ true
    → Stands image index w → Holds image w → AllFit index lines → AreHonest index lines → read_lines (Ok w) lines ≡ Ok end → Holds image end
unfolding read_lines
all_hold image index w end [] bytes is k h fits honest read = let same : w ≡ end = cc in subst (Holds image) same h
all_hold image index w end (line ∷ lines) bytes is k h fits honest read =
    let first = read_first w end line lines read in
    let fine = line_fine w line first.0 in
    all_hold image index (after_line w line) end lines bytes is
    (line_stands image index w line bytes k first.0 fits.0 fine honest.0)
    (line_holds image index w line bytes is k h first.0 fits.0 fine honest.0) fits.1 honest.1 first.1

none_by : (d : DeviceState) (b : Bool) → cond b None None ≡ Some d → ⊥
none_by d true is = cc
none_by d false is = cc

pub first_holds : (image : List ℕ) → Holds image (first_world image)
first_holds image = record {
  devices = λ id d is. absurd (none_by d (id == 0) is);
  sent = tt;
  uplinks = tt;
  ledger = λ id is. absurd (none_updated 0 id is);
}

pub the_ledger_is_true : TheLedgerIsTrue
unfolding campaign_of
the_ledger_is_true image lines world id bytes is fits honest accepted at =
    (all_hold image world.server.plan.index (first_world image) world lines bytes is (first_stands image world.server.plan.index) (first_holds image) fits honest
    (end_is (read_lines (Ok (first_world image)) lines) world accepted)).ledger id at

-- so it is with the uplinks that there are after any lines
pub uplinks_are_true : (image : List ℕ) (index : ℕ) (w : WorldState) (lines : List Line) → All (λ b. b < 2 ^ 8) image
    → is_image image ≡ true → AllFit index lines → AreHonest index lines → read_lines (Ok (first_world image)) lines ≡ Ok w
    → AllByRecursion (MadeTruly image w.devices) w.uplinks
uplinks_are_true image index w lines bytes is fits honest read =
    (all_hold image index (first_world image) w lines bytes is (first_stands image index) (first_holds image) fits honest read).uplinks
