-- While the server has not asked a device for more than its version, the device runs no file.
use Rattle.std.proofs.Common.{◌≡◌, inl, inr, ⊎_elim, ℕ, ◌+◌, ◌^◌, ◌<◌, ◌≤◌, All, ◌==◌, Bool, true, false, cond, List, [], ◌∷◌, ◌++◌, Option, None, Some, IfSome, Result, Ok, Err, refl, sym, ap, ◌∙◌, subst, arith, true≢false}
use Rattle.std.specs.List.{AllByRecursion}
use Rattle.std.specs.Result.{result_ok}
use Rattle.package_grammar.specs.declared.command.Command.{Command}
use Rattle.device_core.specs.Device.{DeviceState}
use Rattle.device_core.specs.Deliver.{delivery, waking}
use Rattle.device_core.specs.Firmware.{after_migration}
use Rattle.device_core.specs.Events.{Wakes, Receives, Migrates}
use Rattle.image_slots.specs.Slots.{after_raise}
use Rattle.campaign_server.specs.declared.plan.PlanDevice.{PlanDevice}
use Rattle.campaign_server.specs.declared.stage.Stage.{Stage}
use Rattle.campaign_server.specs.declared.stage.Stage.TheVariants.{At}
use Rattle.campaign_server.specs.declared.stage.Request.TheVariants as request
use Rattle.campaign_server.specs.Plan.{Plan}
use Rattle.campaign_server.specs.Server.{ServerState, DownlinkCommand, port_of, downlink_of, ledger}
use Rattle.wire_base.specs.Numbered.{numbered}
use Rattle.campaign_server.specs.Asking.{request_at, command_for, by_unicast, request_of}
use Rattle.campaign_server.specs.Answers.{stage_after_all}
use Rattle.campaign_server.specs.declared.fragments.Spent.{Spent}
use Rattle.campaign_server.specs.declared.fragments.Spent.TheVariants.{Fragments, Counts}
use Rattle.campaign_server.specs.Fragments.{next_fragment, after_fragment, status_to_all, after_status_to_all}
use Rattle.campaign_server.specs.Time.{time_answer}
use Rattle.campaign_server.specs.Uplinks.{with_answers}
use Rattle.script_lines.specs.declared.forms.Form.{Form}
use Rattle.script_lines.specs.declared.forms.Form.TheVariants.{Header, Image, Group, WindowC, WindowB, Device, At as AtTime, Wake, Migrate, Power, Ask, Frag, Status, Down, Raw, Air, RawAir, Up, End}
use Rattle.campaign_world.specs.declared.section.Section.{Section}
use Rattle.campaign_world.specs.declared.section.Section.TheVariants as section
use Rattle.campaign_world.specs.declared.numbered.SentPayload.{SentPayload}
use Rattle.campaign_world.specs.declared.numbered.NumberedUplink.{NumberedUplink}
use Rattle.campaign_world.specs.World.{WorldState, first_world}
use Rattle.campaign_world.specs.Said.{Said, Own, Elsewhere, Reached, Line}
use Rattle.campaign_world.specs.Honest.{has_raw, AreHonest}
use Rattle.campaign_world.specs.Causes.{may_reach, form_cause, said_cause, line_cause, cause_of}
use Rattle.campaign_world.specs.Making.{with_plan, with_sent, with_device, after_event_at, after_up, at_events, device_of, after_form, after_said}
use Rattle.campaign_world.specs.Script.{one_line_more, after_line, read_lines}
use Rattle.campaign_server.proofs.LineItems.{numbered_push}
use Rattle.campaign_laws.proofs.HeadlineForms.{passes, is_strange, reached_passes, is_odd, not_true, payload_there}
use Rattle.campaign_laws.specs.Headline.{HasNoOther}
use Rattle.campaign_laws.specs.Fields.{LineFits, AllFit}
use Rattle.campaign_laws.proofs.Crossing.{crossing_calm}
use Rattle.campaign_laws.proofs.HonestLines.{heard_said, Stands, first_stands, alone_at, goes_on_by, line_stands}
use Rattle.campaign_laws.proofs.Keyed.{time_port}
use Rattle.campaign_laws.proofs.PlanGroups.{is_planning, plan_at}
use Rattle.campaign_laws.proofs.Independence.{read_first, line_fine}
use Rattle.campaign_laws.specs.Once.{rank}
use Rattle.campaign_laws.proofs.Stands.{put_cases}
use Rattle.campaign_laws.proofs.Ranks.{ranks_up}
use Rattle.campaign_laws.proofs.Calm.{IsUntouched, IsCalm, delivery_calm, waking_calm}
use Rattle.campaign_world.proofs.Zips.{all_more}
use Rattle.campaign_laws.proofs.Items.{number_first, is_there, all_numbered}
use Rattle.campaign_laws.proofs.Events.{up_by, fragment_sends, status_sends}

-- ---- what holds after each line

-- where this device may hear it, and is asked for its version, it asks for no more
abbrev IsFor : List Stage → SentPayload → Type 0
IsFor stages p = (id : ℕ) → may_reach id (Some p) ≡ true → numbered stages id ≡ Some (At request.Version) → IsCalm p.down

pub record Waits (w : WorldState) : Type 0 where
  pub none_sent : is_planning w.section ≡ true → w.sent ≡ []
  pub all : is_planning w.section ≡ true → (id : ℕ) (d : DeviceState) → numbered w.devices id ≡ Some d → IsUntouched d
  pub devices : (id : ℕ) (d : DeviceState) → numbered w.devices id ≡ Some d → numbered w.server.stages id ≡ Some (At request.Version) → IsUntouched d
  pub sent : AllByRecursion (IsFor w.server.stages) w.sent

-- ---- a payload is sent

-- where the new stages are at version, so were the old
abbrev Begin : (old new : List Stage) → Type 0
Begin old new = (id : ℕ) → numbered new id ≡ Some (At request.Version) → numbered old id ≡ Some (At request.Version)

older : (old new : List Stage) (ps : List SentPayload) → Begin old new → AllByRecursion (IsFor old) ps → AllByRecursion (IsFor new) ps
older old new [] back all = tt
older old new (p ∷ ps) back all = (λ id may at. all.0 id may (back id at), older old new ps back all.1)

sent_wait : (w : WorldState) (server : ServerState) (sent : List SentPayload) → Waits w → Begin w.server.stages server.stages
    → AllByRecursion (IsFor server.stages) sent → Waits (at_events (record w { server = server; sent = sent }))
sent_wait w server sent k back all = record {
  none_sent = λ plan. absurd cc;
  all = λ plan. absurd cc;
  devices = λ id d there at. k.devices id d there (back id at);
  sent = all;
}

sends_wait : (w : WorldState) (server : ServerState) (to : Option ℕ) (down : Option DownlinkCommand) → Waits w → Begin w.server.stages server.stages
    → IfSome down (λ x. IsFor server.stages (record { receiver = to; down = downlink_of x })) → Waits (at_events (with_sent (record w { server = server }) to down))
sends_wait w server to None k back own = sent_wait w server w.sent k back (older w.server.stages server.stages w.sent back k.sent)
sends_wait w server to (Some down) k back own =
    sent_wait w server (w.sent ++ record { receiver = to; down = downlink_of down } ∷ []) k back
    (all_more (IsFor server.stages) w.sent _ (older w.server.stages server.stages w.sent back k.sent) own)

-- a request
far_from : (n : ℕ) (stages : List Stage) (stage : Stage) (o : Option Command) → numbered stages n ≡ Some stage → (stage ≡ At request.Version → ⊥)
    → IfSome (by_unicast o) (λ x. IsFor stages (record { receiver = Some n; down = downlink_of x }))
far_from n stages stage None at other = tt
far_from n stages stage (Some x) at other = λ id may here.
    let same : n ≡ id = grind (arith, may) in
    absurd (other (let e : Some stage ≡ Some (At request.Version) = sym at ∙ subst (λ (i : ℕ). numbered stages i ≡ Some (At request.Version)) (sym same) here in cc))

asked_by : (plan : Plan) (image : List ℕ) (n : ℕ) (stages : List Stage) (k : PlanDevice) (stage : Stage) → numbered stages n ≡ Some stage
    → IfSome (by_unicast (request_at plan image k stage)) (λ x. IsFor stages (record { receiver = Some n; down = downlink_of x }))
unfolding request_at
asked_by plan image n stages k (At request.Version) at = λ id may here. inr (refl, refl)
asked_by plan image n stages k stage at = far_from n stages stage (request_at plan image k stage) at (λ e. cc)

asked_calm : (server : ServerState) (n : ℕ) → IfSome (request_of server n) (λ x. IsFor server.stages (record { receiver = Some n; down = downlink_of x }))
unfolding request_of
asked_calm server n = by (numbered server.plan.devices n) (numbered server.stages n) refl
  where
    by : (k : Option PlanDevice) (stage : Option Stage) → numbered server.stages n ≡ stage
        → IfSome (by_unicast (command_for server.plan server.image k stage)) (λ x. IsFor server.stages (record { receiver = Some n; down = downlink_of x }))
    by None stage at = tt
    by (Some k) None at = tt
    by (Some k) (Some stage) at = asked_by server.plan server.image n server.stages k stage at

-- what is on another port
other_port : (stages : List Stage) (to : Option ℕ) (x : DownlinkCommand) → (port_of x.command ≡ 203 → ⊥) → IsFor stages (record { receiver = to; down = downlink_of x })
other_port stages to x far = λ id may at. inl far

fragment_by : (stages : List Stage) (a b : Bool) (x : DownlinkCommand) → (port_of x.command ≡ 203 → ⊥)
    → IfSome (result_ok (cond {A = Result DownlinkCommand Spent} a (Err Fragments) (cond b (Err Counts) (Ok x)))) (λ y. IsFor stages (record { receiver = None; down = downlink_of y }))
fragment_by stages true b x far = tt
fragment_by stages false true x far = tt
fragment_by stages false false x far = other_port stages None x far

fragment_calm : (stages : List Stage) (server : ServerState) → IfSome (result_ok (next_fragment server)) (λ x. IsFor stages (record { receiver = None; down = downlink_of x }))
unfolding next_fragment
fragment_calm stages server = fragment_by stages _ _ _ (λ same. omega (arith, same))

status_by : (stages : List Stage) (a : Bool) (x : DownlinkCommand) → (port_of x.command ≡ 203 → ⊥)
    → IfSome (cond a None (Some x)) (λ y. IsFor stages (record { receiver = None; down = downlink_of y }))
status_by stages true x far = tt
status_by stages false x far = other_port stages None x far

status_calm : (stages : List Stage) (server : ServerState) → IfSome (status_to_all server) (λ x. IsFor stages (record { receiver = None; down = downlink_of x }))
unfolding status_to_all
status_calm stages server = status_by stages _ _ (λ same. omega (arith, same))

same_begin : (old new : List Stage) → new ≡ old → Begin old new
same_begin old new same id at = ap (λ (xs : List Stage). numbered xs id) (sym same) ∙ at

-- ---- an uplink comes

first_rank : (stage : Stage) → rank stage ≤ 0 → stage ≡ At request.Version
first_rank (At request.Version) low = refl
first_rank stage low = absurd (omega (arith, low))

answers_begin : (server : ServerState) (dev : ℕ) (cs : List Command) (old : Option Stage) → numbered server.stages dev ≡ old → Begin server.stages (with_answers server dev cs old).stages
answers_begin server dev cs None there id at = at
answers_begin server dev cs (Some old) there id at =
    let new : Stage = stage_after_all server.plan server.image old cs in
    ⊎_elim
    (λ here.
    let is : new ≡ At request.Version = (let e : Some new ≡ Some (At request.Version) = sym here.1 ∙ at in cc) in
    let up = ranks_up server.plan server.image old cs in
    let low : rank new ≡ 0 = ap rank is in
    let was : old ≡ At request.Version = first_rank old (omega (arith, up, low)) in
    subst (λ (i : ℕ). numbered server.stages i ≡ Some (At request.Version)) here.0 (there ∙ ap (λ (x : Stage). Some x) was))
    (λ other. sym other.1 ∙ at)
    (put_cases server.stages dev id old new (number_first server.stages dev old there) there)

time_calm : (stages : List Stage) (to : Option ℕ) (o : Option Command) → IfSome o (λ y. port_of y ≡ 202) → IfSome (by_unicast o) (λ x. IsFor stages (record { receiver = to; down = downlink_of x }))
time_calm stages to None port = tt
time_calm stages to (Some x) port = λ id may at. inl (λ same. omega (arith, same, port))

up_waits : (w : WorldState) (o : Option NumberedUplink) → Waits w → Waits (at_events (after_up w o))
up_waits w o k =
    up_by Waits w (record { none_sent = λ plan. absurd cc; all = λ plan. absurd cc; devices = k.devices; sent = k.sent })
    (λ dev cs. sends_wait w (with_answers w.server dev cs (ledger w.server dev)) (Some dev) (by_unicast (time_answer w.time cs)) k
    (answers_begin w.server dev cs (ledger w.server dev) refl)
    (time_calm (with_answers w.server dev cs (ledger w.server dev)).stages (Some dev) (time_answer w.time cs) (time_port w.time cs))) o

-- ---- an event at a device

device_waits : (w : WorldState) (n : ℕ) (d e : DeviceState) → numbered w.devices n ≡ Some d → (numbered w.server.stages n ≡ Some (At request.Version) → IsUntouched e) → Waits w
    → Waits (at_events (with_device w n e))
unfolding with_device
device_waits w n d e there calm k = record {
  none_sent = λ plan. absurd cc;
  all = λ plan. absurd cc;
  devices = λ id x is at.
      ⊎_elim
      (λ here.
      let same : record e { outbox = [] } ≡ x = (let y : Some (record e { outbox = [] }) ≡ Some x = sym here.1 ∙ is in cc) in
      let u = calm (subst (λ (i : ℕ). numbered w.server.stages i ≡ Some (At request.Version)) (sym here.0) at) in
      subst IsUntouched same (record { reboot = u.reboot; version = u.version }))
      (λ other. k.devices id x (sym other.1 ∙ is) at)
      (put_cases w.devices n id d (record e { outbox = [] }) (number_first w.devices n d there) there);
  sent = k.sent;
}

migration_calm : (d : DeviceState) → IsUntouched d → IsUntouched (after_migration d)
unfolding after_migration after_raise
migration_calm d k = record { reboot = k.reboot; version = k.version }

-- ---- a form

-- a line of the plan
plan_waits : (w : WorldState) (plan : Plan) (next : Section) → is_planning w.section ≡ true → Waits w → Waits (with_plan w plan next)
plan_waits w plan next here k = record {
  none_sent = λ still. k.none_sent here;
  all = λ still. k.all here;
  devices = λ id d there at. k.all here id d there;
  sent = subst (AllByRecursion (IsFor _)) (sym (k.none_sent here)) tt;
}

joins_wait : (w : WorldState) (new : DeviceState) (flash : List ℕ) (plan : Plan) → is_planning w.section ≡ true → IsUntouched new → Waits w
    → Waits (with_plan (record w { devices = w.devices ++ new ∷ []; flash = flash }) plan section.Devices)
joins_wait w new flash plan here fresh k = record {
  none_sent = λ still. k.none_sent here;
  all = λ still. everyone;
  devices = λ id d there at. everyone id d there;
  sent = subst (AllByRecursion (IsFor _)) (sym (k.none_sent here)) tt;
}
  where
    everyone : (id : ℕ) (d : DeviceState) → numbered (w.devices ++ new ∷ []) id ≡ Some d → IsUntouched d
    everyone id d there = ⊎_elim (λ same. k.all here id d (sym same ∙ there))
        (λ last. let e : new ≡ d = (let y : Some new ≡ Some d = sym last.1 ∙ there in cc) in subst IsUntouched e fresh) (numbered_push w.devices new id)

form_waits : (w : WorldState) (form : Form) → form_cause w form ≡ None → is_strange form ≡ false → Waits w → Waits (after_form w form)
unfolding after_form
form_waits w Header fine honest k =
    let here = plan_at w.section Header refl (passes w Header fine).may in
    record { none_sent = λ still. k.none_sent here; all = λ still. k.all here; devices = k.devices; sent = k.sent }
form_waits w (Image frag_size parity index) fine honest k = plan_waits w _ section.Group (plan_at w.section (Image frag_size parity index) refl (passes w (Image frag_size parity index) fine).may) k
form_waits w (Group id addr key min max) fine honest k = plan_waits w _ section.Window (plan_at w.section (Group id addr key min max) refl (passes w (Group id addr key min max) fine).may) k
form_waits w (WindowC start timeout freq dr) fine honest k = plan_waits w _ section.Device (plan_at w.section (WindowC start timeout freq dr) refl (passes w (WindowC start timeout freq dr) fine).may) k
form_waits w (WindowB start periodicity timeout freq dr) fine honest k =
    plan_waits w _ section.Device (plan_at w.section (WindowB start periodicity timeout freq dr) refl (passes w (WindowB start periodicity timeout freq dr) fine).may) k
form_waits w (Device dev) fine honest k =
    joins_wait w (device_of dev) _ _ (plan_at w.section (Device dev) refl (passes w (Device dev) fine).may)
    (record { reboot = refl; version = refl }) k
form_waits w (AtTime time) fine honest k = record { none_sent = λ plan. absurd cc; all = λ plan. absurd cc; devices = k.devices; sent = k.sent }
form_waits w (Power n) fine honest k = record { none_sent = λ plan. absurd cc; all = λ plan. absurd cc; devices = k.devices; sent = k.sent }
form_waits w (Wake n) fine honest k =
    let there = is_there w.devices n (passes w (Wake n) fine).names in
    subst (λ (o : Option DeviceState). Waits (at_events (after_event_at w n o (Some (Wakes w.time))))) (sym there.1.1)
    (device_waits w n there.1.0 (waking w.time there.1.0).device there.1.1 (λ at. waking_calm w.time there.1.0 (k.devices n there.1.0 there.1.1 at)) k)
form_waits w (Migrate n) fine honest k =
    let there = is_there w.devices n (passes w (Migrate n) fine).names in
    subst (λ (o : Option DeviceState). Waits (at_events (after_event_at w n o (Some Migrates)))) (sym there.1.1)
    (device_waits w n there.1.0 (after_migration there.1.0) there.1.1 (λ at. migration_calm there.1.0 (k.devices n there.1.0 there.1.1 at)) k)
form_waits w (Ask n) fine honest k = sends_wait w w.server (Some n) (request_of w.server n) k (λ id at. at) (asked_calm w.server n)
form_waits w Frag fine honest k =
    sends_wait w (after_fragment w.server) None (result_ok (next_fragment w.server)) k (same_begin w.server.stages (after_fragment w.server).stages (fragment_sends w.server).stages) (fragment_calm (after_fragment w.server).stages w.server)
form_waits w Status fine honest k =
    sends_wait w (after_status_to_all w.server) None (status_to_all w.server) k (same_begin w.server.stages (after_status_to_all w.server).stages (status_sends w.server).stages) (status_calm (after_status_to_all w.server).stages w.server)
form_waits w (Down number n word) fine honest k =
    let p = passes w (Down number n word) fine in
    let there = is_there w.devices n p.names in
    let got = payload_there n (numbered w.sent number) p.come in
    let may : may_reach n (Some got.0) ≡ true = subst (λ (o : Option SentPayload). may_reach n o ≡ true) got.1 p.come in
    let own = all_numbered (IsFor w.server.stages) w.sent number got.0 k.sent got.1 in
    rw (there.1.1, got.1) (device_waits w n there.1.0 (delivery w.time word (w.lines + 1) got.0.down there.1.0).device there.1.1
    (λ at. delivery_calm w.time word (w.lines + 1) got.0.down there.1.0 (own n may at) (k.devices n there.1.0 there.1.1 at)) k)
form_waits w (Raw n port payload word) fine honest k = absurd (true≢false honest)
form_waits w (Air number n word) fine honest k = absurd (true≢false honest)
form_waits w (RawAir n bytes word) fine honest k = absurd (true≢false honest)
form_waits w (Up number) fine honest k = up_waits w (numbered w.uplinks number) k
form_waits w End fine honest k = record { none_sent = λ plan. absurd cc; all = λ plan. absurd cc; devices = k.devices; sent = k.sent }

-- ---- all lines

-- what a line says
said_waits : (w : WorldState) (said : Said) → said_cause w said ≡ None → is_odd w.server.plan.index said ≡ false
    → ((id : ℕ) (d : DeviceState) → numbered w.devices id ≡ Some d → HasNoOther w.server.plan.index d.sessions) → Waits w → Waits (after_said w said)
said_waits w (Own form) fine honest alone k = form_waits w form fine honest k
said_waits w Elsewhere fine honest alone k = k
said_waits w (Reached n word down) fine honest alone k =
    let there = is_there w.devices n (reached_passes w n word down fine).1 in
    let d : DeviceState = there.1.0 in
    subst (λ (o : Option DeviceState). Waits (at_events (after_event_at w n o (Some (Receives w.time word (w.lines + 1) down))))) (sym there.1.1)
    (device_waits w n d (delivery w.time word (w.lines + 1) down d).device there.1.1
    (λ at. crossing_calm w.server.plan.index w.time word (w.lines + 1) down d (not_true _ honest) (alone n d there.1.1) (k.devices n d there.1.1 at)) k)

line_waits : (image : List ℕ) (index : ℕ) (w : WorldState) (line : Line) → All (λ b. b < 2 ^ 8) image → Stands image index w
    → cause_of w line ≡ None → LineFits index line → line_cause w line ≡ None → has_raw index line ≡ false → Waits w
    → Waits (after_line w line)
line_waits image index w (Err cause) bytes s none fits fine honest k = absurd cc
line_waits image index w (Ok said) bytes s none fits fine honest k =
    let on = goes_on_by image index w (Ok said) said bytes s refl none fits fine honest in
    let m = said_waits w (heard_said said) on.heard.fine on.heard.plain (alone_at image w s.keeps) k in
    subst (λ (v : WorldState). Waits (one_line_more v)) (sym on.heard.same)
    (record { none_sent = m.none_sent; all = m.all; devices = m.devices; sent = m.sent })

all_wait : (image : List ℕ) (index : ℕ) (w end : WorldState) (lines : List Line) → All (λ b. b < 2 ^ 8) image → AllFit index lines → AreHonest index lines
    → Stands image index w → Waits w → read_lines (Ok w) lines ≡ Ok end → Waits end
unfolding read_lines
all_wait image index w end [] bytes fits honest s k read = let same : w ≡ end = cc in subst Waits same k
all_wait image index w end (line ∷ lines) bytes fits honest s k read =
    let first = read_first w end line lines read in
    let fine = line_fine w line first.0 in
    all_wait image index (after_line w line) end lines bytes fits.1 honest.1
    (line_stands image index w line bytes s first.0 fits.0 fine honest.0)
    (line_waits image index w line bytes s first.0 fits.0 fine honest.0 k) first.1

none_numbered : {A : Type 0} (n : ℕ) (x : A) → numbered {A = A} [] n ≡ Some x → ⊥
none_numbered {A} n x is = by (n == 0) is
  where
    by : (b : Bool) → cond b None None ≡ Some x → ⊥
    by true e = cc
    by false e = cc

pub waits_behind : (image : List ℕ) (index : ℕ) (w : WorldState) (lines : List Line) → All (λ b. b < 2 ^ 8) image → AllFit index lines → AreHonest index lines
    → read_lines (Ok (first_world image)) lines ≡ Ok w → Waits w
waits_behind image index w lines bytes fits honest read = all_wait image index (first_world image) w lines bytes fits honest (first_stands image index) (record {
  none_sent = λ plan. refl;
  all = λ plan id d there. absurd (none_numbered id d there);
  devices = λ id d there at. absurd (none_numbered id d there);
  sent = tt;
}) read
