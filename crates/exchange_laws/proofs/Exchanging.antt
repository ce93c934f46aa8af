-- An exchange in a campaign moves a device on that suits, and enough of them update it.
use Rattle.std.proofs.Common.{◌≡◌, ◌≢◌, ◌⊎◌, inl, inr, ⊎_elim, ℕ, zero, suc, ◌+◌, ◌-◌, ◌^◌, ◌<◌, ◌≤◌, ◌==◌, nat_lt, Bool, true, false, cond, List, [], ◌∷◌, ◌++◌, map, length, Option, None, Some, is_some, Result, Ok, Err, refl, sym, ap, ◌∙◌, subst, arith, true≢false}
use Rattle.std.proofs.lemmas.Bool.{cases_lt, ltb-true, ltb-false}
use Rattle.std.specs.List.{AllByRecursion}
use Rattle.wire_base.specs.Numbered.{numbered}
use Rattle.clock_sync.specs.Clock.{device_time}
use Rattle.image_slots.specs.Image.{firmware_of}
use Rattle.package_grammar.specs.declared.command.Command.{Command}
use Rattle.package_grammar.specs.declared.downlink.To.TheVariants.{Unicast}
use Rattle.device_core.specs.declared.uplink.Uplink.{Uplink}
use Rattle.device_core.specs.Deliver.{delivery}
use Rattle.device_core.specs.Device.{DeviceState}
use Rattle.device_core.specs.Firmware.{is_due}
use Rattle.device_core.specs.Sendable.{IsReceivable}
use Rattle.aes_block.specs.Cipher.{IsBlock}
use Rattle.campaign_server.specs.declared.plan.PlanDevice.{PlanDevice}
use Rattle.campaign_server.specs.declared.plan.PlanWindow.{PlanWindow}
use Rattle.campaign_server.specs.declared.stage.Request.{Request}
use Rattle.campaign_server.specs.declared.stage.Request.TheVariants as request
use Rattle.campaign_server.specs.declared.stage.Stage.{Stage}
use Rattle.campaign_server.specs.declared.stage.Stage.TheVariants.{At, Updated, Refused}
use Rattle.campaign_server.specs.Asking.{request_rank, request_at, command_for, by_unicast, request_of}
use Rattle.campaign_server.specs.Plan.{Plan, own_id}
use Rattle.campaign_server.specs.Server.{ServerState, DownlinkCommand, port_of, downlink_of, ledger}
use Rattle.campaign_server.proofs.LineItems.{if_some, numbered_more}
use Rattle.campaign_server.specs.Uplinks.{UplinkStep, uplink_step}
use Rattle.wire_base.specs.declared.refusal.Refusal.{Refusal}
use Rattle.script_lines.specs.declared.forms.Form.TheVariants.{Down, Up}
use Rattle.campaign_world.specs.declared.numbered.SentPayload.{SentPayload}
use Rattle.campaign_world.specs.declared.numbered.NumberedUplink.{NumberedUplink}
use Rattle.report_lines.specs.declared.faults.LineWhy.{LineWhy}
use Rattle.campaign_world.specs.World.{WorldState, first_world}
use Rattle.campaign_world.specs.Causes.{cause_of}
use Rattle.campaign_world.specs.Said.{Own, Line}
use Rattle.campaign_world.specs.Honest.{has_raw, AreHonest}
use Rattle.campaign_world.specs.Making.{with_sent, made_by, with_device, after_answer, after_up, at_events, after_form}
use Rattle.campaign_world.specs.Script.{one_line_more, after_line, line_result, read_line, read_lines, campaign_of}
use Rattle.campaign_laws.specs.Fields.{LineFits, AllFit}
use Rattle.campaign_laws.specs.Once.{rank}
use Rattle.campaign_laws.proofs.HeadlineCommands.{cut_of, IsCut, firmware_small}
use Rattle.campaign_laws.proofs.HeadlineEnds.{IsDeviceFor}
use Rattle.campaign_laws.proofs.HeadlineForms.{passes, late_cut}
use Rattle.campaign_laws.proofs.HeadlineLines.{end_is}
use Rattle.campaign_laws.proofs.Independence.{read_first, line_fine}
use Rattle.campaign_laws.proofs.Keyed.{own_low}
use Rattle.campaign_laws.proofs.PlanGroups.{is_planning}
use Rattle.campaign_laws.proofs.Stands.{numbered_last}
use Rattle.campaign_laws.proofs.Ledger.{the_ledger_is_true}
use Rattle.campaign_laws.proofs.LedgerDevices.{IsSound}
use Rattle.exchange_laws.specs.Exchange.{IsReached, after_request, after_uplink}
use Rattle.exchange_laws.specs.Moving.{MovesTo}
use Rattle.exchange_laws.specs.Suits.{Suits, HasFile, stage_after_request}
use Rattle.exchange_laws.specs.Updating.{Fits, IsExchange, HasExchanges, asks, brings, returns, ExchangesMoveOn, AnswersUpdate}
use Rattle.exchange_laws.proofs.Backing.{StandsAt, Backs, IsOfGroup}
use Rattle.exchange_laws.proofs.Commands.{window_fine, version_small}
use Rattle.exchange_laws.proofs.Facts.{core_of, facts_of, valid_for}
use Rattle.exchange_laws.proofs.Framing.{line_keeps, IsLast, IsLater, Keeps, keeps_on, all_keep}
use Rattle.exchange_laws.proofs.Lines.{Stays, all_stay, first_stays, plays_there, sound_there}
use Rattle.exchange_laws.proofs.Moving.{led_on}
use Rattle.exchange_laws.proofs.Progress.{request_fine, Playing, Plays}

-- ---- lists of lines

read_parts : (w v : WorldState) (xs ys : List Line) → read_lines (Ok w) xs ≡ Ok v → read_lines (Ok w) (xs ++ ys) ≡ read_lines (Ok v) ys
unfolding read_lines read_line
read_parts w v [] ys read = let same : w ≡ v = cc in ap (λ (x : WorldState). read_lines (Ok x) ys) same
read_parts w v (x ∷ xs) ys read =
    let first = read_first w v x xs read in
    ap (λ (c : Option LineWhy). read_lines (line_result w x c) (xs ++ ys)) first.0 ∙ read_parts (after_line w x) v xs ys first.1

front : (P : Line → Type 0) (xs ys : List Line) → AllByRecursion P (xs ++ ys) → AllByRecursion P xs
front P [] ys all = tt
front P (x ∷ xs) ys all = (all.0, front P xs ys all.1)

back : (P : Line → Type 0) (xs ys : List Line) → AllByRecursion P (xs ++ ys) → AllByRecursion P ys
back P [] ys all = all
back P (x ∷ xs) ys all = back P xs ys all.1

-- ---- ranks

few_ranks : (r : Request) → request_rank r < 8
few_ranks request.Version = omega arith
few_ranks r = omega arith

rank_at : (stage : Stage) (r : Request) → rank stage ≡ request_rank r → stage ≡ At r
rank_at (At request.Version) request.Version is = refl
rank_at (At request.Group) request.Group is = refl
rank_at (At request.Fragments) request.Fragments is = refl
rank_at (At request.Window) request.Window is = refl
rank_at (At request.Status) request.Status is = refl
rank_at (At request.Image) request.Image is = refl
rank_at (At request.Reboot) request.Reboot is = refl
rank_at (At request.Check) request.Check is = refl
rank_at stage r is = absurd (omega (arith, is, few_ranks r))

next_rank : (plan : Plan) (r : Request) → request_rank r < rank (stage_after_request plan r)
next_rank plan r = by r (is_some plan.group) refl
  where
    by : (r : Request) (b : Bool) → is_some plan.group ≡ b → request_rank r < rank (stage_after_request plan r)
    by request.Version true is = rw is (omega arith)
    by request.Version false is = rw is (omega arith)
    by request.Fragments true is = rw is (omega arith)
    by request.Fragments false is = rw is (omega arith)
    by request.Group b is = omega arith
    by request.Window b is = omega arith
    by request.Status b is = omega arith
    by request.Image b is = omega arith
    by request.Reboot b is = omega arith
    by request.Check b is = omega arith

-- ---- what the server asks

-- a request, of a device of the plan
record IsAsking (server : ServerState) (id : ℕ) : Type 0 where
  request : Request
  device : PlanDevice
  command : Command
  stage : numbered server.stages id ≡ Some (At request)
  planned : numbered server.plan.devices id ≡ Some device
  is : request_at server.plan server.image device (At request) ≡ Some command
  sends : request_of server id ≡ Some (record { to = Unicast; command = command })

command_by : (o : Option Command) → is_some (by_unicast o) ≡ true → (x : Command) × (o ≡ Some x)
command_by None is = absurd cc
command_by (Some x) is = (x, refl)

asking_by : (server : ServerState) (id : ℕ) (k : Option PlanDevice) (stage : Option Stage) → numbered server.plan.devices id ≡ k → numbered server.stages id ≡ stage
    → is_some (by_unicast (command_for server.plan server.image k stage)) ≡ true → IsAsking server id
unfolding request_of request_at
asking_by server id None stage planned there is = absurd cc
asking_by server id (Some k) None planned there is = absurd cc
asking_by server id (Some k) (Some Updated) planned there is = absurd cc
asking_by server id (Some k) (Some (Refused r bits)) planned there is = absurd cc
asking_by server id (Some k) (Some (At r)) planned there is =
    let x = command_by (request_at server.plan server.image k (At r)) is in
    record {
      request = r;
      device = k;
      command = x.0;
      stage = there;
      planned = planned;
      is = x.1;
      sends = rw (planned, there) (ap by_unicast x.1);
    }

asking : (server : ServerState) (id : ℕ) → is_some (request_of server id) ≡ true → IsAsking server id
unfolding request_of
asking server id is = asking_by server id (numbered server.plan.devices id) (numbered server.stages id) refl refl is

-- a server with the same plan, image and stage asks the same
same_request : (a b : ServerState) (id : ℕ) → b.plan ≡ a.plan → b.image ≡ a.image → numbered b.stages id ≡ numbered a.stages id → request_of b id ≡ request_of a id
unfolding request_of
same_request a b id plan image stage = rw (plan, image, stage) refl

-- ---- a device suits

suits_same : (r : Request) (a b : ServerState) (device : DeviceState) → b.plan ≡ a.plan → b.image ≡ a.image → Suits r a device → Suits r b device
suits_same request.Version a b device plan image k = rw image k
suits_same request.Group a b device plan image k = rw plan k
suits_same request.Fragments a b device plan image k = rw (plan, image) k
suits_same request.Window a b device plan image k = rw plan k
suits_same request.Status a b device plan image k = rw plan k
suits_same request.Image a b device plan image k = rw image k
suits_same request.Reboot a b device plan image k = k
suits_same request.Check a b device plan image k = rw image k

window_there : (plan : Plan) (image : List ℕ) (device : PlanDevice) (x : Command) (o : Option PlanWindow) → plan.window ≡ o
    → request_at plan image device (At request.Window) ≡ Some x → (window : PlanWindow) × (plan.window ≡ Some window)
unfolding request_at
window_there plan image device x None is asked = absurd (let none : Path (Option Command) None (Some x) = rw is at asked in cc)
window_there plan image device x (Some window) is asked = (window, is)

-- where its stage asks this of it
suits_now : (image : List ℕ) (server : ServerState) (id : ℕ) (ps : List SentPayload) (us : List NumberedUplink) (d : DeviceState) (r : Request) (k : PlanDevice) (x : Command)
    → server.image ≡ image → own_id server.plan.group ≤ 3 → request_at server.plan server.image k (At r) ≡ Some x → Playing image server.plan id server.stages ps us d (At r)
    → (r ≡ request.Status → HasFile server.plan.index d) → Suits r server d
suits_now image server id ps us d request.Version k x is few asked p whole = rw is (valid_for image d.config.hw d.slots.formats p.apt.known)
suits_now image server id ps us d request.Group k x is few asked p whole = omega (arith, few, p.apt.groups)
suits_now image server id ps us d request.Fragments k x is few asked p whole = rw is p.apt.fits.takes
suits_now image server id ps us d request.Window k x is few asked p whole =
    let window = window_there server.plan server.image k x server.plan.window refl asked in
    record {
      window = window.0;
      planned = window.1;
      possible = window_fine image server.plan (core_of d) window.0 p.apt window.1 (p.backs.planned (inr refl)) (p.backs.grouped (omega arith));
    }
suits_now image server id ps us d request.Status k x is few asked p whole = whole refl
suits_now image server id ps us d request.Image k x is few asked p whole =
    rw is (⊎_elim (λ next. next) (λ runs. absurd (let late = p.late runs in omega (arith, late))) (p.backs.has (omega arith)))
suits_now image server id ps us d request.Reboot k x is few asked p whole = tt
suits_now image server id ps us d request.Check k x is few asked p whole = rw is (p.backs.runs (omega arith)).version

-- ---- one exchange

-- the server after an uplink that was made by a device with one answer
upped_server : (w : WorldState) (n : ℕ) (step : UplinkStep) → (after_answer w n step).server ≡ step.server
upped_server w n step = by step.answer
  where
    sent : (v : WorldState) (o : Option DownlinkCommand) → (with_sent v (Some n) o).server ≡ v.server
    sent v None = refl
    sent v (Some x) = refl

    by : (answer : Result (Option DownlinkCommand) Refusal) → (after_answer w n (record { server = step.server; answer = answer })).server ≡ step.server
    by (Ok down) = sent (record w { server = step.server }) down
    by (Err refusal) = refl

-- what the exchange makes: the stage that was asked at, and a later one
record IsExchanged (image : List ℕ) (index id : ℕ) (w : WorldState) (lines : List Line) (after : WorldState) (rest : List Line) (x : IsExchange id w lines after rest) : Type 0 where
  was : Request
  earlier : (stage : Stage) → is_planning w.section ≡ false → numbered w.server.stages id ≡ Some stage → rank stage ≤ request_rank was
  stage : Stage
  there : numbered after.server.stages id ≡ Some stage
  up : request_rank was < rank stage
  asked_at : numbered x.asked.server.stages id ≡ Some (At was)
  last : was ≡ request.Check → stage ≡ Updated
  follows : numbered x.answered.server.stages id ≡ Some (At was) → stage ≡ stage_after_request after.server.plan was
  some : IsOfGroup stage → is_some after.server.plan.group ≡ true
  over : is_planning after.section ≡ false
  stays : Stays image index id after
  fits : AllFit index rest
  honest : AreHonest index rest
  read : read_lines (Ok w) lines ≡ read_lines (Ok after) rest

-- the four campaigns of an exchange, with what is known of each
record Parts (image : List ℕ) (index id : ℕ) (w : WorldState) (lines : List Line) (after : WorldState) (rest : List Line) (x : IsExchange id w lines after rest) : Type 0 where
  asked : Stays image index id x.asked
  brought : Stays image index id x.brought
  answered : Stays image index id x.answered
  after_it : Stays image index id after
  fits : AllFit index rest
  honest : AreHonest index rest
  read : read_lines (Ok w) lines ≡ read_lines (Ok after) rest

parts_of : (image : List ℕ) (index id : ℕ) (w : WorldState) (lines : List Line) (after : WorldState) (rest : List Line) (x : IsExchange id w lines after rest) → Stays image index id w
    → AllFit index lines → AreHonest index lines → Parts image index id w lines after rest x
parts_of image index id w lines after rest x k fits honest =
    let last : List Line = returns x.brought ∷ rest in
    let third : List Line = brings x.asked id x.word ∷ (x.third ++ last) in
    let second : List Line = asks id ∷ (x.second ++ third) in
    let all : AllFit index (x.first ++ second) = subst (AllFit index) x.lines_are fits in
    let fair : AreHonest index (x.first ++ second) = subst (AreHonest index) x.lines_are honest in
    let all2 : AllFit index ((asks id ∷ x.second) ++ third) = back (LineFits index) x.first second all in
    let fair2 : AreHonest index ((asks id ∷ x.second) ++ third) = back (λ line. has_raw index line ≡ false) x.first second fair in
    let all3 : AllFit index ((brings x.asked id x.word ∷ x.third) ++ last) = back (LineFits index) (asks id ∷ x.second) third all2 in
    let fair3 : AreHonest index ((brings x.asked id x.word ∷ x.third) ++ last) = back (λ line. has_raw index line ≡ false) (asks id ∷ x.second) third fair2 in
    let all4 : AllFit index last = back (LineFits index) (brings x.asked id x.word ∷ x.third) last all3 in
    let fair4 : AreHonest index last = back (λ line. has_raw index line ≡ false) (brings x.asked id x.word ∷ x.third) last fair3 in
    let asked = all_stay image index id w x.asked x.first k (front (LineFits index) x.first second all) (front (λ line. has_raw index line ≡ false) x.first second fair) x.before_it in
    let brought = all_stay image index id x.asked x.brought (asks id ∷ x.second) asked (front (LineFits index) (asks id ∷ x.second) third all2) (front (λ line. has_raw index line ≡ false) (asks id ∷ x.second) third fair2) x.sent in
    let answered = all_stay image index id x.brought x.answered (brings x.asked id x.word ∷ x.third) brought (front (LineFits index) (brings x.asked id x.word ∷ x.third) last all3)
    (front (λ line. has_raw index line ≡ false) (brings x.asked id x.word ∷ x.third) last fair3) x.reached in
    record {
      asked = asked;
      brought = brought;
      answered = answered;
      after_it = all_stay image index id x.answered after (returns x.brought ∷ []) answered (all4.0, tt) (fair4.0, tt) x.came;
      fits = all4.1;
      honest = fair4.1;
      read = ap (λ (ls : List Line). read_lines (Ok w) ls) x.lines_are ∙ read_parts w x.asked x.first second x.before_it
          ∙ read_parts x.asked x.brought (asks id ∷ x.second) third x.sent ∙ read_parts x.brought x.answered (brings x.asked id x.word ∷ x.third) last x.reached
          ∙ read_parts x.answered after (returns x.brought ∷ []) rest x.came;
    }

-- ---- the stage after it

-- the campaign after a device was asked
asked_world : WorldState → (id : ℕ) → DownlinkCommand → WorldState
asked_world w id down = one_line_more (at_events (record w { sent = w.sent ++ record { receiver = Some id; down = downlink_of down } ∷ [] }))

asked_begun : (w : WorldState) (id : ℕ) (down : DownlinkCommand) → is_planning (asked_world w id down).section ≡ false
unfolding asked_world
asked_begun w id down = refl

asked_plan : (w : WorldState) (id : ℕ) (down : DownlinkCommand) → (asked_world w id down).server.plan ≡ w.server.plan
unfolding asked_world
asked_plan w id down = refl

asked_stages : (w : WorldState) (id : ℕ) (down : DownlinkCommand) (stage : Stage) → numbered w.server.stages id ≡ Some stage → numbered (asked_world w id down).server.stages id ≡ Some stage
unfolding asked_world
asked_stages w id down stage at = at

asked_sent : (w : WorldState) (id : ℕ) (down : DownlinkCommand) → (asked_world w id down).sent ≡ w.sent ++ record { receiver = Some id; down = downlink_of down } ∷ []
unfolding asked_world
asked_sent w id down = refl

after_ask : (w : WorldState) (id : ℕ) (down : DownlinkCommand) → request_of w.server id ≡ Some down → after_line w (asks id) ≡ asked_world w id down
unfolding after_form asked_world
after_ask w id down is = rw is refl

-- after the payload with a number reached device id
after_bring : (w : WorldState) (number id word : ℕ) (d : DeviceState) (p : SentPayload) → numbered w.devices id ≡ Some d → numbered w.sent number ≡ Some p
    → after_line w (Ok (Own (Down number id word))) ≡ one_line_more (at_events (with_device w id (delivery w.time word (w.lines + 1) p.down d).device))
unfolding after_form
after_bring w number id word d p there got = rw (there, got) refl

-- and after an uplink with a number came
after_return : (w : WorldState) (number : ℕ) → after_line w (Ok (Own (Up number))) ≡ one_line_more (at_events (after_up w (numbered w.uplinks number)))
unfolding after_form
after_return w number = refl

up_moves : (w : WorldState) (number id : ℕ) (u : Uplink) (next : Stage) → numbered w.uplinks number ≡ Some (made_by id u) → ledger (after_uplink w.server id w.time u) id ≡ Some next
    → numbered (after_up w (numbered w.uplinks number)).server.stages id ≡ Some next
up_moves w number id u next there moved =
    ap (λ (o : Option NumberedUplink). numbered (after_up w o).server.stages id) there
    ∙ ap (λ (s : ServerState). numbered s.stages id) (upped_server w id (uplink_step w.server id u.port u.payload w.time)) ∙ moved

made_uplinks : (w : WorldState) (id : ℕ) (e : DeviceState) (u : Uplink) → e.outbox ≡ u ∷ [] → (with_device w id e).uplinks ≡ w.uplinks ++ made_by id u ∷ []
unfolding with_device
made_uplinks w id e u is = ap (λ (us : List Uplink). w.uplinks ++ map (λ uplink. made_by id uplink) us) is

device_stages : (w : WorldState) (id : ℕ) (e : DeviceState) → (with_device w id e).server ≡ w.server
unfolding with_device
device_stages w id e = refl

no_reboot : (t : ℕ) (d : DeviceState) → d.reboot ≡ None → is_due (device_time d.clock t) d.reboot ≡ false
no_reboot t d none = rw none refl

some_same : {A : Type 0} (x y : A) → Path (Option A) (Some x) (Some y) → x ≡ y
some_same x y is = cc

read_end : (w end : WorldState) → read_lines (Ok w) [] ≡ Ok end → w ≡ end
unfolding read_lines
read_end w end read = cc

-- the key of the plan's device is a block
planned_key : (image : List ℕ) (index id : ℕ) (w : WorldState) (d : DeviceState) (k : PlanDevice) → Stays image index id w → numbered w.devices id ≡ Some d
    → numbered w.server.plan.devices id ≡ Some k → IsBlock k.key
planned_key image index id w d k stays there planned =
    let its = stays.stands.keyed.planned id d there in
    subst (λ (y : PlanDevice). IsBlock y.key) (some_same (record { key = d.config.key; root = d.config.root }) k (sym its.0 ∙ planned)) its.1

-- where both its request and its answer find it at the same stage, the answer leads it on
led_there : (image : List ℕ) (index id : ℕ) (w : WorldState) (lines : List Line) (after : WorldState) (rest : List Line) (x : IsExchange id w lines after rest)
    → Parts image index id w lines after rest x → (a : IsAsking x.asked.server id) → Fits image x.brought.server.plan x.device.config
    → numbered x.brought.sent (length x.asked.sent + 1) ≡ Some (record { receiver = Some id; down = downlink_of (record { to = Unicast; command = a.command }) })
    → x.brought.server.plan ≡ x.asked.server.plan → x.answered.server.plan ≡ x.asked.server.plan
    → numbered x.brought.server.stages id ≡ Some (At a.request) → numbered x.answered.server.stages id ≡ Some (At a.request)
    → numbered after.server.stages id ≡ Some (stage_after_request x.answered.server.plan a.request)
led_there image index id w lines after rest x p a fits got brought_plan answered_plan at_brought at_answered = led
  where
    d : DeviceState
    d = x.device

    b : ServerState
    b = x.answered.server

    brought_image : x.brought.server.image ≡ image
    brought_image = p.brought.stands.keeps.server.image_is

    answered_image : b.image ≡ image
    answered_image = p.answered.stands.keeps.server.image_is

    few : own_id x.brought.server.plan.group ≤ 3
    few = own_low x.brought.server.plan.group p.brought.stands.keyed.fit.group

    play : (stage : Stage) × Playing image x.brought.server.plan id x.brought.server.stages x.brought.sent x.brought.uplinks d stage
    play = plays_there image index id x.brought p.brought d x.there fits

    now : Playing image x.brought.server.plan id x.brought.server.stages x.brought.sent x.brought.uplinks d (At a.request)
    now = subst (λ (y : Stage). Playing image x.brought.server.plan id x.brought.server.stages x.brought.sent x.brought.uplinks d y)
        (some_same play.0 (At a.request) (sym play.1.there ∙ at_brought)) play.1

    asked_is : request_at x.brought.server.plan x.brought.server.image a.device (At a.request) ≡ Some a.command
    asked_is = ap (λ (q : Plan). request_at q x.brought.server.image a.device (At a.request)) brought_plan
        ∙ ap (λ (i : List ℕ). request_at x.asked.server.plan i a.device (At a.request)) (brought_image ∙ sym p.asked.stands.keeps.server.image_is) ∙ a.is

    has_file : a.request ≡ request.Status → HasFile x.brought.server.plan.index d
    has_file is = subst (λ (q : Plan). HasFile q.index d) (sym brought_plan) (x.whole (a.stage ∙ ap (λ (r : Request). Some (At r)) is))

    suits : Suits a.request b d
    suits = suits_same a.request x.brought.server b d (answered_plan ∙ sym brought_plan) (answered_image ∙ sym brought_image)
        (suits_now image x.brought.server id x.brought.sent x.brought.uplinks d a.request a.device a.command brought_image few asked_is now has_file)

    sound : IsSound image (cut_of x.brought.server.plan) d
    sound = sound_there image index id x.brought d p.brought x.there

    small : firmware_of image < 2 ^ 32
    small = firmware_small image p.brought.bytes

    cut : IsCut image (cut_of b.plan)
    cut = late_cut image x.answered (Up (length x.brought.uplinks + 1)) x.answered.section refl
        (passes x.answered (Up (length x.brought.uplinks + 1)) (line_fine x.answered (returns x.brought) (read_first x.answered after (returns x.brought) [] x.came).0)).may
        p.answered.stands.keeps.stands

    reached : IsReached d x.brought.time
    reached = record {
      hears = x.hears_it;
      empty = (if_some (IsDeviceFor image (cut_of x.brought.server.plan)) (numbered x.brought.devices id) d x.there (p.brought.stands.keeps.devices id)).empty;
      stays = no_reboot x.brought.time d now.apt.reboot;
    }

    sends : request_of b id ≡ Some (record { to = Unicast; command = a.command })
    sends = same_request x.asked.server b id answered_plan (answered_image ∙ sym p.asked.stands.keeps.server.image_is) (at_answered ∙ sym a.stage) ∙ a.sends

    key : IsBlock a.device.key
    key = planned_key image index id x.brought d a.device p.brought x.there (ap (λ (q : Plan). numbered q.devices id) brought_plan ∙ a.planned)

    receivable : IsReceivable (port_of a.command) a.command
    receivable = if_some (λ (y : Command). IsReceivable (port_of y) y) (request_at b.plan image a.device (At a.request)) a.command
        (ap (λ (q : Plan). request_at q image a.device (At a.request)) answered_plan
        ∙ ap (λ (i : List ℕ). request_at x.asked.server.plan i a.device (At a.request)) (sym p.asked.stands.keeps.server.image_is) ∙ a.is)
        (request_fine image b.plan a.device (At a.request) (record { bytes = p.answered.bytes; cut = cut; fit = p.answered.stands.keyed.fit }) key)

    moves : MovesTo b id x.answered.time (after_request x.brought.time x.word (x.brought.lines + 1) a.command d) (stage_after_request b.plan a.request)
    moves = led_on b id x.answered.time x.brought.time x.word (x.brought.lines + 1) d a.request a.command
        (subst (λ (q : Plan). own_id q.group ≤ 3) (brought_plan ∙ sym answered_plan) few) cut.indexed
        (subst (λ (i : List ℕ). firmware_of i < 2 ^ 32) (sym answered_image) small)
        (record { hw = sound.hardware; version = version_small image (cut_of x.brought.server.plan) d small sound })
        reached (record { asks = sends; receivable = receivable }) at_answered suits

    e : DeviceState
    e = after_request x.brought.time x.word (x.brought.lines + 1) a.command d

    -- the uplink lies where it was made
    lies : numbered x.answered.uplinks (length x.brought.uplinks + 1) ≡ Some (made_by id moves.uplink)
    lies =
        let first = read_first x.brought x.answered (brings x.asked id x.word) x.third x.reached in
        let is = after_bring x.brought (length x.asked.sent + 1) id x.word d _ x.there got in
        let more = (all_keep (after_line x.brought (brings x.asked id x.word)) x.answered x.third (ap (λ (v : WorldState). is_planning v.section) is) first.1).uplinks in
        let uplinks : (after_line x.brought (brings x.asked id x.word)).uplinks ≡ x.brought.uplinks ++ made_by id moves.uplink ∷ [] =
        ap (λ (v : WorldState). v.uplinks) is ∙ made_uplinks x.brought id e moves.uplink moves.holds in
        ap (λ (us : List NumberedUplink). numbered us (length x.brought.uplinks + 1)) (more.1 ∙ ap (λ (us : List NumberedUplink). us ++ more.0) uplinks)
        ∙ numbered_more (x.brought.uplinks ++ made_by id moves.uplink ∷ []) more.0 (length x.brought.uplinks + 1) (made_by id moves.uplink)
        (numbered_last x.brought.uplinks (made_by id moves.uplink) (length x.brought.uplinks + 1) refl)

    led : numbered after.server.stages id ≡ Some (stage_after_request b.plan a.request)
    led =
        let last = read_first x.answered after (returns x.brought) [] x.came in
        let same : one_line_more (at_events (after_up x.answered (numbered x.answered.uplinks (length x.brought.uplinks + 1)))) ≡ after =
        read_end _ after (subst (λ (v : WorldState). read_lines (Ok v) [] ≡ Ok after) (after_return x.answered (length x.brought.uplinks + 1)) last.1) in
        ap (λ (v : WorldState). numbered v.server.stages id) (sym same)
        ∙ up_moves x.answered (length x.brought.uplinks + 1) id moves.uplink (stage_after_request b.plan a.request) lies moves.moved

-- ---- what a device and a stage were before

-- a device that stays suits the plan that stays
suited_before : (image : List ℕ) (id : ℕ) (w end : WorldState) (d e : DeviceState) → Keeps w end → numbered w.devices id ≡ Some d → numbered end.devices id ≡ Some e
    → Fits image end.server.plan e.config → Fits image w.server.plan d.config
suited_before image id w end d e k before after fits =
    let now = k.devices id d before in
    let same : now.0 ≡ e = some_same now.0 e (sym now.1 ∙ after) in
    let config : e.config ≡ d.config = ap (λ (x : DeviceState). x.config) (sym same) ∙ now.2 in
    subst (λ (q : Plan). Fits image q d.config) k.plan (subst (Fits image end.server.plan) config fits)

planned_by : (image : List ℕ) (id : ℕ) (w : WorldState) (d : DeviceState) (stage : Stage) → Plays image id w → numbered w.devices id ≡ Some d → Fits image w.server.plan d.config
    → numbered w.server.stages id ≡ Some stage → IsOfGroup stage → is_some w.server.plan.group ≡ true
planned_by image id w d stage plays there fits at is =
    let play = plays d there fits in
    let same : play.0 ≡ stage = some_same play.0 stage (sym play.1.there ∙ at) in
    let backs = subst (λ (y : Stage). Backs (facts_of image w.server.plan (core_of d)) w.server.plan y) same play.1.backs in
    ⊎_elim
    (λ group. (let k : StandsAt (facts_of image w.server.plan (core_of d)) w.server.plan (At request.Group) =
    subst (λ (y : Stage). Backs (facts_of image w.server.plan (core_of d)) w.server.plan y) group backs in k.planned (inl refl)))
    (λ window. (let k : StandsAt (facts_of image w.server.plan (core_of d)) w.server.plan (At request.Window) =
    subst (λ (y : Stage). Backs (facts_of image w.server.plan (core_of d)) w.server.plan y) window backs in k.planned (inr refl))) is

last_updated : (stage : Stage) → IsLast stage → 7 < rank stage → stage ≡ Updated
last_updated stage (inl check) far = absurd (let low : 7 < rank (At request.Check) = subst (λ (y : Stage). 7 < rank y) check far in omega (arith, low))
last_updated stage (inr is) far = is

-- so the stage is later than the one that was asked at
exchanged : (image : List ℕ) (index id : ℕ) (w end : WorldState) (lines : List Line) (after : WorldState) (rest : List Line) (d : DeviceState) (x : IsExchange id w lines after rest)
    → Stays image index id w → AllFit index lines → AreHonest index lines → read_lines (Ok w) lines ≡ Ok end → numbered end.devices id ≡ Some d → Fits image end.server.plan d.config
    → IsExchanged image index id w lines after rest x
exchanged image index id w end lines after rest d x k fits honest read there suits = record {
  was = a.request;
  earlier = earlier;
  stage = s4.0;
  there = s4.1;
  up = up (cases_lt (request_rank a.request) (rank s3.0));
  asked_at = a.stage;
  follows = follows;
  last = λ is. last_updated s4.0 (from_check is) (subst (λ (r : Request). request_rank r < rank s4.0) is (up (cases_lt (request_rank a.request) (rank s3.0))));
  some = planned_at;
  over = k3.over;
  stays = p.after_it;
  fits = p.fits;
  honest = p.honest;
  read = p.read;
}
  where
    p : Parts image index id w lines after rest x
    p = parts_of image index id w lines after rest x k fits honest

    a : IsAsking x.asked.server id
    a = asking x.asked.server id x.something

    earlier : (stage : Stage) → is_planning w.section ≡ false → numbered w.server.stages id ≡ Some stage → rank stage ≤ request_rank a.request
    earlier stage over at =
        let before = (all_keep w x.asked x.first over x.before_it).stages id stage at in
        let same : before.0 ≡ At a.request = some_same before.0 (At a.request) (sym before.1 ∙ a.stage) in
        subst (λ (y : Stage). rank stage ≤ rank y) same before.2.up

    -- after the request
    is1 : after_line x.asked (asks id) ≡ asked_world x.asked id (record { to = Unicast; command = a.command })
    is1 = after_ask x.asked id (record { to = Unicast; command = a.command }) a.sends

    k1 : Keeps (asked_world x.asked id (record { to = Unicast; command = a.command })) x.brought
    k1 = all_keep (asked_world x.asked id (record { to = Unicast; command = a.command })) x.brought x.second (asked_begun x.asked id (record { to = Unicast; command = a.command }))
        (subst (λ (v : WorldState). read_lines (Ok v) x.second ≡ Ok x.brought) is1 (read_first x.asked x.brought (asks id) x.second x.sent).1)

    plan1 : x.brought.server.plan ≡ x.asked.server.plan
    plan1 = k1.plan ∙ asked_plan x.asked id (record { to = Unicast; command = a.command })

    s2 : (stage : Stage) × (numbered x.brought.server.stages id ≡ Some stage) × IsLater (At a.request) stage
    s2 = k1.stages id (At a.request) (asked_stages x.asked id (record { to = Unicast; command = a.command }) (At a.request) a.stage)

    payload : SentPayload
    payload = record { receiver = Some id; down = downlink_of (record { to = Unicast; command = a.command }) }

    got : numbered x.brought.sent (length x.asked.sent + 1) ≡ Some payload
    got = ap (λ (ps : List SentPayload). numbered ps (length x.asked.sent + 1)) (k1.sent.1 ∙ ap (λ (ps : List SentPayload). ps ++ k1.sent.0) (asked_sent x.asked id (record { to = Unicast; command = a.command })))
        ∙ numbered_more (x.asked.sent ++ payload ∷ []) k1.sent.0 (length x.asked.sent + 1) payload (numbered_last x.asked.sent payload (length x.asked.sent + 1) refl)

    -- after it reached the device
    line2 : (cause_of x.brought (brings x.asked id x.word) ≡ None) × (read_lines (Ok (after_line x.brought (brings x.asked id x.word))) x.third ≡ Ok x.answered)
    line2 = read_first x.brought x.answered (brings x.asked id x.word) x.third x.reached

    to2 : Keeps x.brought (after_line x.brought (brings x.asked id x.word))
    to2 = line_keeps x.brought (brings x.asked id x.word) (line_fine x.brought (brings x.asked id x.word) line2.0) k1.over

    k2 : Keeps x.brought x.answered
    k2 = keeps_on x.brought (after_line x.brought (brings x.asked id x.word)) x.answered to2
        (all_keep (after_line x.brought (brings x.asked id x.word)) x.answered x.third to2.over line2.1)

    s3 : (stage : Stage) × (numbered x.answered.server.stages id ≡ Some stage) × IsLater s2.0 stage
    s3 = k2.stages id s2.0 s2.1

    -- after its answer came
    line3 : (cause_of x.answered (returns x.brought) ≡ None) × (read_lines (Ok (after_line x.answered (returns x.brought))) [] ≡ Ok after)
    line3 = read_first x.answered after (returns x.brought) [] x.came

    k3 : Keeps x.answered after
    k3 = subst (Keeps x.answered) (read_end (after_line x.answered (returns x.brought)) after line3.1)
        (line_keeps x.answered (returns x.brought) (line_fine x.answered (returns x.brought) line3.0) k2.over)

    s4 : (stage : Stage) × (numbered after.server.stages id ≡ Some stage) × IsLater s3.0 stage
    s4 = k3.stages id s3.0 s3.1

    k4 : Keeps after end
    k4 = all_keep after end rest k3.over (sym p.read ∙ read)

    suits2 : Fits image x.brought.server.plan x.device.config
    suits2 = suited_before image id x.brought end x.device d (keeps_on x.brought x.answered end k2 (keeps_on x.answered after end k3 k4)) x.there there suits

    planned_at : IsOfGroup s4.0 → is_some after.server.plan.group ≡ true
    planned_at is =
        let now = (keeps_on x.brought x.answered after k2 k3).devices id x.device x.there in
        planned_by image id after now.0 s4.0 (plays_there image index id after p.after_it) now.1 (suited_before image id after end now.0 d k4 now.1 there suits) s4.1 is

    -- where no other answer led on before it did
    led : rank s3.0 ≤ request_rank a.request → s4.0 ≡ stage_after_request after.server.plan a.request
    led still =
        let at2 : s2.0 ≡ At a.request = rank_at s2.0 a.request (omega (arith, s2.2.up, s3.2.up, still)) in
        let at3 : s3.0 ≡ At a.request = rank_at s3.0 a.request (omega (arith, s2.2.up, s3.2.up, still)) in
        let there4 = led_there image index id w lines after rest x p a suits2 got plan1 (k2.plan ∙ plan1) (s2.1 ∙ ap (λ (y : Stage). Some y) at2) (s3.1 ∙ ap (λ (y : Stage). Some y) at3) in
        some_same s4.0 (stage_after_request x.answered.server.plan a.request) (sym s4.1 ∙ there4) ∙ ap (λ (q : Plan). stage_after_request q a.request) (sym k3.plan)

    follows : numbered x.answered.server.stages id ≡ Some (At a.request) → s4.0 ≡ stage_after_request after.server.plan a.request
    follows at =
        let same : s3.0 ≡ At a.request = some_same s3.0 (At a.request) (sym s3.1 ∙ at) in
        led (subst (λ (y : Stage). rank y ≤ request_rank a.request) (sym same) (omega arith))

    from_check : a.request ≡ request.Check → IsLast s4.0
    from_check is = s4.2.last (s3.2.last (s2.2.last (inl (ap (λ (r : Request). At r) is))))

    up : (request_rank a.request < rank s3.0) ⊎ (rank s3.0 ≤ request_rank a.request) → request_rank a.request < rank s4.0
    up (inl past) = omega (arith, past, s4.2.up)
    up (inr still) = subst (λ (y : Stage). request_rank a.request < rank y) (sym (led still)) (next_rank after.server.plan a.request)

-- ---- how many are left

-- exchanges from a rank on, with a group in the plan and without one
left_of : Bool → ℕ → ℕ
left_of true n = 8 - n
left_of false n = cond (nat_lt n 2) 6 (cond (nat_lt n 4) 5 (8 - n))

left_low : (b : Bool) (n : ℕ) → 8 ≤ n → left_of b n ≡ 0
unfolding left_of
left_low true n far = omega (arith, far)
left_low false n far =
    let two : nat_lt n 2 ≡ false = grind (arith, far) in
    let four : nat_lt n 4 ≡ false = grind (arith, far) in
    rw (two, four) (let none : 8 - n ≡ 0 = omega (arith, far) in none)

left_none : (b : Bool) (n : ℕ) → left_of b n ≡ 0 → 8 ≤ n
unfolding left_of
left_none true n none = omega (arith, none)
left_none false n none = by (nat_lt n 2) refl (nat_lt n 4) refl none
  where
    by : (one : Bool) → nat_lt n 2 ≡ one → (two : Bool) → nat_lt n 4 ≡ two → cond one 6 (cond two 5 (8 - n)) ≡ 0 → 8 ≤ n
    by true is two more e = absurd cc
    by false is true more e = absurd cc
    by false is false more e = omega (arith, e)

-- one fewer at a later rank that the plan has
left_less : (b : Bool) (m n : ℕ) → m < n → (b ≡ false → n ≢ 1) → (b ≡ false → n ≢ 3) → left_of b n + 1 ≤ left_of b m ⊎ (8 ≤ m)
unfolding left_of
left_less true m n less one three = by (cases_lt m 8)
  where
    by : (m < 8) ⊎ (8 ≤ m) → ((8 - n) + 1 ≤ 8 - m) ⊎ (8 ≤ m)
    by (inl low) = inl (omega (arith, less, low))
    by (inr far) = inr far
left_less false m n less one three = by (cases_lt m 8)
  where
    inner : m < 8 → (a : Bool) → nat_lt n 2 ≡ a → (b : Bool) → nat_lt n 4 ≡ b → (c : Bool) → nat_lt m 2 ≡ c → (d : Bool) → nat_lt m 4 ≡ d
        → cond a 6 (cond b 5 (8 - n)) + 1 ≤ cond c 6 (cond d 5 (8 - m))
    inner low true n2 b n4 c m2 d m4 = absurd (let few : n < 2 = ltb-true _ _ n2 in let is : n ≡ 1 = omega (arith, few, less) in one refl is)
    inner low false n2 true n4 true m2 d m4 = omega arith
    inner low false n2 true n4 false m2 d m4 =
        absurd (let few : n < 4 = ltb-true _ _ n4 in let some : 2 ≤ m = ltb-false _ _ m2 in let is : n ≡ 3 = omega (arith, few, less, some) in three refl is)
    inner low false n2 false n4 true m2 d m4 = (let far : 4 ≤ n = ltb-false _ _ n4 in omega (arith, far))
    inner low false n2 false n4 false m2 true m4 = (let far : 4 ≤ n = ltb-false _ _ n4 in omega (arith, far))
    inner low false n2 false n4 false m2 false m4 = omega (arith, less, low)

    by : (m < 8) ⊎ (8 ≤ m) → (cond (nat_lt n 2) 6 (cond (nat_lt n 4) 5 (8 - n)) + 1 ≤ cond (nat_lt m 2) 6 (cond (nat_lt m 4) 5 (8 - m))) ⊎ (8 ≤ m)
    by (inl low) = inl (inner low (nat_lt n 2) refl (nat_lt n 4) refl (nat_lt m 2) refl (nat_lt m 4) refl)
    by (inr far) = inr far

-- so many stages are left
left : Plan → Stage → ℕ
left plan stage = left_of (is_some plan.group) (rank stage)

not_of_group : (plan : Plan) (stage : Stage) → (IsOfGroup stage → is_some plan.group ≡ true) → is_some plan.group ≡ false → (rank stage ≢ 1) × (rank stage ≢ 3)
not_of_group plan stage some none = (
  λ is. true≢false (sym (some (inl (rank_at stage request.Group is))) ∙ none),
  λ is. true≢false (sym (some (inr (rank_at stage request.Window is))) ∙ none),
)

-- an exchange leaves one fewer
one_less : (plan : Plan) (r : Request) (stage : Stage) → (IsOfGroup stage → is_some plan.group ≡ true) → request_rank r < rank stage → left plan stage + 1 ≤ left_of (is_some plan.group) (request_rank r)
unfolding left
one_less plan r stage some up =
    ⊎_elim (λ less. less) (λ far. absurd (let few = few_ranks r in omega (arith, few, far)))
    (left_less (is_some plan.group) (request_rank r) (rank stage) up (λ none. (not_of_group plan stage some none).0) (λ none. (not_of_group plan stage some none).1))

-- a later rank leaves no more
left_down : (b : Bool) (m n : ℕ) → m ≤ n → left_of b n ≤ left_of b m
unfolding left_of
left_down true m n up = omega (arith, up)
left_down false m n up = by (nat_lt n 2) refl (nat_lt n 4) refl (nat_lt m 2) refl (nat_lt m 4) refl
  where
    by : (a : Bool) → nat_lt n 2 ≡ a → (b : Bool) → nat_lt n 4 ≡ b → (c : Bool) → nat_lt m 2 ≡ c → (d : Bool) → nat_lt m 4 ≡ d
        → cond a 6 (cond b 5 (8 - n)) ≤ cond c 6 (cond d 5 (8 - m))
    by true n2 b n4 true m2 d m4 = omega arith
    by true n2 b n4 false m2 d m4 = absurd (let few : n < 2 = ltb-true _ _ n2 in let some : 2 ≤ m = ltb-false _ _ m2 in omega (arith, few, some, up))
    by false n2 true n4 true m2 d m4 = omega arith
    by false n2 true n4 false m2 true m4 = omega arith
    by false n2 true n4 false m2 false m4 = absurd (let few : n < 4 = ltb-true _ _ n4 in let some : 4 ≤ m = ltb-false _ _ m4 in omega (arith, few, some, up))
    by false n2 false n4 true m2 d m4 = (let far : 4 ≤ n = ltb-false _ _ n4 in omega (arith, far))
    by false n2 false n4 false m2 true m4 = (let far : 4 ≤ n = ltb-false _ _ n4 in omega (arith, far))
    by false n2 false n4 false m2 false m4 = omega (arith, up)

-- only the check is followed by nothing
check_is_last : (b : Bool) (r : Request) → left_of b (request_rank r) ≤ 1 → r ≡ request.Check
unfolding left_of
check_is_last true request.Check few = refl
check_is_last false request.Check few = refl
check_is_last true request.Version few = absurd (omega (arith, few))
check_is_last true request.Group few = absurd (omega (arith, few))
check_is_last true request.Fragments few = absurd (omega (arith, few))
check_is_last true request.Window few = absurd (omega (arith, few))
check_is_last true request.Status few = absurd (omega (arith, few))
check_is_last true request.Image few = absurd (omega (arith, few))
check_is_last true request.Reboot few = absurd (omega (arith, few))
check_is_last false request.Version few = absurd (omega (arith, few))
check_is_last false request.Group few = absurd (omega (arith, few))
check_is_last false request.Fragments few = absurd (omega (arith, few))
check_is_last false request.Window few = absurd (omega (arith, few))
check_is_last false request.Status few = absurd (omega (arith, few))
check_is_last false request.Image few = absurd (omega (arith, few))
check_is_last false request.Reboot few = absurd (omega (arith, few))

-- ---- enough exchanges

-- what is updated stays so
stays_updated : (w end : WorldState) (id : ℕ) → Keeps w end → numbered w.server.stages id ≡ Some Updated → numbered end.server.stages id ≡ Some Updated
stays_updated w end id k at =
    let now = k.stages id Updated at in
    now.1 ∙ ap (λ (y : Stage). Some y) (last_updated now.0 (now.2.last (inr refl)) (omega (arith, now.2.up)))

-- so many exchanges update a device at a stage after which no more are left
abbrev IsEnough : (image : List ℕ) (index id : ℕ) → WorldState → (count : ℕ) → Type 0
IsEnough image index id end count = (w : WorldState) (lines : List Line) (stage : Stage) → Stays image index id w → AllFit index lines → AreHonest index lines
    → is_planning w.section ≡ false → read_lines (Ok w) lines ≡ Ok end → numbered w.server.stages id ≡ Some stage
    → left end.server.plan stage ≤ count → (count ≡ 0 → stage ≡ Updated) → HasExchanges id count w lines → numbered end.server.stages id ≡ Some Updated

-- after one exchange the others are enough
after_one : (image : List ℕ) (index id more : ℕ) (w end : WorldState) (lines : List Line) (after : WorldState) (rest : List Line) (x : IsExchange id w lines after rest)
    → IsEnough image index id end more → read_lines (Ok w) lines ≡ Ok end → (e : IsExchanged image index id w lines after rest x)
    → left_of (is_some end.server.plan.group) (request_rank e.was) ≤ more + 1 → HasExchanges id more after rest → numbered end.server.stages id ≡ Some Updated
unfolding left
after_one image index id more w end lines after rest x enough read e few others =
    let on : read_lines (Ok after) rest ≡ Ok end = sym e.read ∙ read in
    let same : end.server.plan ≡ after.server.plan = (all_keep after end rest e.over on).plan in
    let some : IsOfGroup e.stage → is_some end.server.plan.group ≡ true = λ is. ap (λ (q : Plan). is_some q.group) same ∙ e.some is in
    let less = one_less end.server.plan e.was e.stage some e.up in
    enough after rest e.stage e.stays e.fits e.honest e.over on e.there (omega (arith, less, few))
    (λ none. e.last (check_is_last (is_some end.server.plan.group) e.was (omega (arith, few, none)))) others

enough : (image : List ℕ) (index id count : ℕ) (end : WorldState) (d : DeviceState) → numbered end.devices id ≡ Some d → Fits image end.server.plan d.config
    → IsEnough image index id end count
unfolding left
enough image index id zero end d there suits w lines stage k fits honest over read at few done has =
    stays_updated w end id (all_keep w end lines over read) (at ∙ ap (λ (y : Stage). Some y) (done refl))
enough image index id (suc more) end d there suits w lines stage k fits honest over read at few done (inl updated) =
    stays_updated w end id (all_keep w end lines over read) updated
enough image index id (suc more) end d there suits w lines stage k fits honest over read at few done (inr (after, rest, x, others)) =
    let e = exchanged image index id w end lines after rest d x k fits honest read there suits in
    let up = e.earlier stage over at in
    let down = left_down (is_some end.server.plan.group) (rank stage) (request_rank e.was) up in
    after_one image index id more w end lines after rest x (enough image index id more end d there suits) read e (omega (arith, down, few)) others

first_left : (b : Bool) (n : ℕ) → cond b 8 6 ≡ n + 1 → left_of b 0 ≤ n + 1
unfolding left_of
first_left true n is = omega (arith, is)
first_left false n is = omega (arith, is)

-- from the first line on
none_at_first : (image : List ℕ) (id : ℕ) → ledger (first_world image).server id ≡ Some Updated → ⊥
none_at_first image id is = by (id == 0) is
  where
    by : (b : Bool) → cond {A = Option Stage} b None None ≡ Some Updated → ⊥
    by true e = cc
    by false e = cc

started : (image : List ℕ) (index id more : ℕ) (end : WorldState) (lines : List Line) (d : DeviceState) → Stays image index id (first_world image) → AllFit index lines → AreHonest index lines
    → read_lines (Ok (first_world image)) lines ≡ Ok end → numbered end.devices id ≡ Some d → Fits image end.server.plan d.config
    → left_of (is_some end.server.plan.group) 0 ≤ more + 1 → HasExchanges id (suc more) (first_world image) lines → numbered end.server.stages id ≡ Some Updated
started image index id more end lines d k fits honest read there suits few (inl updated) = absurd (none_at_first image id updated)
started image index id more end lines d k fits honest read there suits few (inr (after, rest, x, others)) =
    let e = exchanged image index id (first_world image) end lines after rest d x k fits honest read there suits in
    let down = left_down (is_some end.server.plan.group) 0 (request_rank e.was) (omega arith) in
    after_one image index id more (first_world image) end lines after rest x (enough image index id more end d there suits) read e (omega (arith, down, few)) others

pub answers_update : AnswersUpdate
unfolding campaign_of
answers_update image lines world id device bytes file fits honest accepted there suits has =
    let read = end_is (read_lines (Ok (first_world image)) lines) world accepted in
    let k = first_stays image world.server.plan.index id bytes file in
    let updated = by (is_some world.server.plan.group) refl k read has in
    (updated, the_ledger_is_true image lines world id bytes file fits honest accepted updated)
  where
    by : (b : Bool) → is_some world.server.plan.group ≡ b → Stays image world.server.plan.index id (first_world image) → read_lines (Ok (first_world image)) lines ≡ Ok world
        → HasExchanges id (cond b 8 6) (first_world image) lines → numbered world.server.stages id ≡ Some Updated
    by true is k read its = started image world.server.plan.index id 7 world lines device k fits honest read there suits (rw is (first_left true 7 refl)) its
    by false is k read its = started image world.server.plan.index id 5 world lines device k fits honest read there suits (rw is (first_left false 5 refl)) its

pub exchanges_move_on : ExchangesMoveOn
exchanges_move_on image lines after id device request bytes file fits honest read there suits x at =
    let e = exchanged image after.server.plan.index id (first_world image) after lines after [] device x (first_stays image after.server.plan.index id bytes file) fits honest read there suits in
    let same : e.was ≡ request = at_same e.was request (some_same (At e.was) (At request) (sym e.asked_at ∙ at)) in
    record {
      stage = e.stage;
      now = e.there;
      later = subst (λ (r : Request). request_rank r < rank e.stage) same e.up;
      follows = λ answered.
          e.follows (answered ∙ ap (λ (r : Request). Some (At r)) (sym same)) ∙ ap (λ (r : Request). stage_after_request after.server.plan r) same;
    }
  where
    at_same : (r q : Request) → At r ≡ At q → r ≡ q
    at_same r q is = cc
