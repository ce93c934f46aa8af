-- Where a campaign stands whose lines are those of a seed, and how single lines move it.
use Rattle.std.proofs.Common.{◌≡◌, ◌⊎◌, inl, inr, ⊎_elim, ℕ, zero, suc, ◌+◌, ◌-◌, ◌<◌, ◌≤◌, ◌==◌, nat_lt, nat_le, Bool, true, false, List, [], ◌∷◌, ◌++◌, length, map, slice_get, None, Some, Ok, refl, sym, ap, ◌∙◌, subst, arith}
use Rattle.std.specs.List.{slice_set}
use Rattle.std.proofs.lemmas.List.{length-append}
use Rattle.wire_base.specs.declared.refusal.Direction.TheVariants.{Up as Upwards}
use Rattle.frag_encoder.specs.Encoding.{nb_frag_of, data_of}
use Rattle.cast_wire.specs.declared.cmd.Cmd.TheVariants.{DataFragment}
use Rattle.package_grammar.specs.declared.command.Command.{Command}
use Rattle.package_grammar.specs.declared.command.Command.TheVariants.{Cast}
use Rattle.package_grammar.specs.Grammar.{canonical}
use Rattle.package_grammar.specs.Reading.{reading_of}
use Rattle.device_core.specs.declared.uplink.Uplink.{Uplink}
use Rattle.device_core.specs.Device.{DeviceState}
use Rattle.device_core.specs.Answers.{uplink_of}
use Rattle.device_core.specs.Deliver.{delivery}
use Rattle.campaign_server.specs.declared.plan.PlanDevice.{PlanDevice}
use Rattle.campaign_server.specs.declared.stage.Stage.{Stage}
use Rattle.campaign_server.specs.Plan.{Plan}
use Rattle.campaign_server.specs.Server.{ServerState, last_status}
use Rattle.wire_base.specs.Numbered.{numbered}
use Rattle.campaign_server.specs.Sent.{unicast_of}
use Rattle.campaign_server.specs.Asking.{request_at, request_of}
use Rattle.campaign_server.specs.Answers.{stage_after, stage_after_all}
use Rattle.campaign_server.specs.Fragments.{next_fragment, after_fragment}
use Rattle.campaign_server.specs.Time.{time_answer_to, time_answer}
use Rattle.campaign_server.specs.Statuses.{status_after, status_after_all}
use Rattle.campaign_server.specs.Uplinks.{told_or_none, read_uplink, uplink_step}
use Rattle.script_lines.specs.declared.forms.Form.TheVariants.{Ask, Frag, Down, Up, End}
use Rattle.script_lines.specs.Ranges.{in_range}
use Rattle.campaign_generator.specs.Forms.{forms_of_turn}
use Rattle.campaign_world.specs.declared.section.Section.{Section}
use Rattle.campaign_world.specs.declared.section.Section.TheVariants as section
use Rattle.campaign_world.specs.declared.numbered.SentPayload.{SentPayload}
use Rattle.campaign_world.specs.declared.numbered.NumberedUplink.{NumberedUplink}
use Rattle.campaign_world.specs.World.{WorldState}
use Rattle.campaign_world.specs.Causes.{is_in_order, is_device, may_reach}
use Rattle.campaign_world.specs.Making.{made_by, with_device, after_form}
use Rattle.campaign_world.proofs.FormCauses.{none as no_cause}
use Rattle.campaign_server.proofs.LineItems.{numbered_more, numbered_put, numbered_there}
use Rattle.campaign_laws.proofs.Plays.{To, one, both, weaker}

-- ---- lists

get_last : {A : Type 0} (xs : List A) (x : A) → slice_get (xs ++ x ∷ []) (length xs) ≡ Some x
get_last [] x = refl
get_last (y ∷ xs) x = get_last xs x

-- the item that was pushed
pub numbered_last : {A : Type 0} (xs : List A) (x : A) (n : ℕ) → n ≡ length xs + 1 → numbered (xs ++ x ∷ []) n ≡ Some x
numbered_last xs x n is =
    let some : (n == 0) ≡ false = grind (arith, is) in
    let back : n - 1 ≡ length xs = omega (arith, is) in
    rw (some, back) (get_last xs x)

pub length_set : {A : Type 0} (xs : List A) (i : ℕ) (y : A) → length (slice_set xs i y) ≡ length xs
length_set [] i y = refl
length_set (x ∷ xs) zero y = refl
length_set (x ∷ xs) (suc i) y = let more = length_set xs i y in cc

same_test : (n : ℕ) → (n == n) ≡ true
same_test n = grind arith

-- what is where after one was put
pub put_cases : {A : Type 0} (xs : List A) (i n : ℕ) (x y : A) → 1 ≤ i → numbered xs i ≡ Some x
    → ((i ≡ n) × (numbered (slice_set xs (i - 1) y) n ≡ Some y)) ⊎ ((i ≡ n → ⊥) × (numbered (slice_set xs (i - 1) y) n ≡ numbered xs n))
put_cases {A = A} xs i n x y low there = by (i == n) refl
  where
    by : (b : Bool) → (i == n) ≡ b → ((i ≡ n) × (numbered (slice_set xs (i - 1) y) n ≡ Some y)) ⊎ ((i ≡ n → ⊥) × (numbered (slice_set xs (i - 1) y) n ≡ numbered xs n))
    by true is =
        let same : i ≡ n = grind (arith, is) in
        inl (same, subst (λ (k : ℕ). numbered (slice_set xs (i - 1) y) k ≡ Some y) same (numbered_there xs i x y there))
    by false is =
        let other : i ≡ n → ⊥ = λ same. grind (arith, is, same) in
        inr (other, ⊎_elim (λ same. absurd (other (sym same))) (λ e. e) (numbered_put xs i n y low))

-- ---- where it stands

-- what is planned: the cut of a seed, and no group
pub record IsPlan (plan : Plan) : Type 0 where
  pub size : plan.frag_size ≡ 64
  pub parity : plan.parity ≡ 128
  pub index : plan.index ≡ 0
  pub group : plan.group ≡ None

-- events may come
pub record Takes (here : Section) : Type 0 where
  pub ask : (n : ℕ) → is_in_order here (Ask n) ≡ true
  pub frag : is_in_order here Frag ≡ true
  pub down : (s n word : ℕ) → is_in_order here (Down s n word) ≡ true
  pub up : (u : ℕ) → is_in_order here (Up u) ≡ true
  pub end : is_in_order here End ≡ true

pub takes_events : Takes section.Events
takes_events = record { ask = λ n. refl; frag = refl; down = λ s n word. refl; up = λ u. refl; end = refl }

pub takes_first_event : Takes section.Devices
takes_first_event = record { ask = λ n. refl; frag = refl; down = λ s n word. refl; up = λ u. refl; end = refl }

-- fragment n, as it is sent
abbrev pub fragment_command : (image : List ℕ) (n : ℕ) → Command
fragment_command image n = Cast (DataFragment 0 n (data_of image 64 n))

abbrev pub sent_fragment : (image : List ℕ) (n : ℕ) → SentPayload
sent_fragment image n = record { receiver = None; down = unicast_of (fragment_command image n) }

-- device n and its stage
pub record IsOne (P : ℕ → DeviceState → Stage → Type 0) (w : WorldState) (n : ℕ) (d : DeviceState) (s : Stage) : Type 0 where
  pub device : numbered w.devices n ≡ Some d
  pub stage : numbered w.server.stages n ≡ Some s
  pub key : (k : PlanDevice) × (numbered w.server.plan.devices n ≡ Some k)
  pub holds : P n d s

-- the server's image and plan are a seed's, and no time has passed
pub record IsOfSeed (image own : List ℕ) (plan : Plan) (time : ℕ) : Type 0 where
  pub image_is : own ≡ image
  pub plan_is : IsPlan plan
  pub time_is : time ≡ 0

-- so many payloads and uplinks, fragments up to the next, and of each device this holds
pub record Stand (image : List ℕ) (payloads answers from : ℕ) (P : ℕ → DeviceState → Stage → Type 0) (w : WorldState) : Type 0 where
  pub seed : IsOfSeed image w.server.image w.server.plan w.time
  pub count : length w.devices ≡ 8
  pub stages : length w.server.stages ≡ 8
  pub takes : Takes w.section
  pub sent : length w.sent ≡ payloads
  pub ups : length w.uplinks ≡ answers
  pub next : w.server.next ≡ from
  pub frags : (n : ℕ) → 1 ≤ n → n < from → numbered w.sent (16 + n) ≡ Some (sent_fragment image n)
  pub each : (n : ℕ) → 1 ≤ n → n ≤ 8 → (d : DeviceState) × (s : Stage) × IsOne P w n d s

pub stand_within : (image : List ℕ) (payloads answers from : ℕ) (P Q : ℕ → DeviceState → Stage → Type 0) (w : WorldState)
    → ((n : ℕ) (d : DeviceState) (s : Stage) → 1 ≤ n → n ≤ 8 → P n d s → Q n d s)
    → Stand image payloads answers from P w → Stand image payloads answers from Q w
stand_within image payloads answers from P Q w f k =
    let each : (n : ℕ) → 1 ≤ n → n ≤ 8 → (d : DeviceState) × (s : Stage) × IsOne Q w n d s = λ n l h.
    (let o = k.each n l h in (o.0, o.1, record { device = o.2.device; stage = o.2.stage; key = o.2.key; holds = f n o.0 o.1 l h o.2.holds })) in
    assumption (k, each)

-- ---- one line

device_test : (count n : ℕ) → count ≡ 8 → 1 ≤ n → n ≤ 8 → is_device count n ≡ true
device_test count n is low high = grind (arith, is, low, high)

-- events may come, and it is a device
pub record MayCome (w : WorldState) (n : ℕ) : Type 0 where
  pub takes : Takes w.section
  pub device : is_device (length w.devices) n ≡ true

pub may_come_at : (image : List ℕ) (payloads answers from : ℕ) (P : ℕ → DeviceState → Stage → Type 0) (w : WorldState) (n : ℕ)
    → Stand image payloads answers from P w → 1 ≤ n → n ≤ 8 → MayCome w n
may_come_at image payloads answers from P w n k low high = record { takes = k.takes; device = device_test (length w.devices) n k.count low high }

abbrev pub asks : WorldState → (n : ℕ) → Command → WorldState
asks w n c = record w { lines = w.lines + 1; section = section.Events; sent = w.sent ++ record { receiver = Some n; down = unicast_of c } ∷ [] }

ask_plays : (w : WorldState) (n : ℕ) (k : PlanDevice) (s : Stage) (c : Command) → MayCome w n → numbered w.server.plan.devices n ≡ Some k
    → numbered w.server.stages n ≡ Some s → request_at w.server.plan w.server.image k s ≡ Some c → To w (Ask n ∷ []) (λ v. v ≡ asks w n c)
unfolding after_form request_of in_range
ask_plays w n k s c may key stage ask =
    one w (Ask n) (λ v. v ≡ asks w n c)
    (no_cause w (Ask n) (record { comes = may.takes.ask n; ranges = refl; fits = refl }) may.device refl refl refl refl refl refl) (rw (key, stage, ask) refl)

-- device n became this one, and its uplinks are taken
abbrev pub reached : WorldState → (n : ℕ) → DeviceState → WorldState
reached w n e = record w {
  lines = w.lines + 1;
  section = section.Events;
  devices = slice_set w.devices (n - 1) (record e { outbox = [] });
  uplinks = w.uplinks ++ map (λ (u : Uplink). made_by n u) e.outbox;
}

pub down_plays : (w : WorldState) (payload n : ℕ) (d : DeviceState) (s : SentPayload) → MayCome w n → numbered w.devices n ≡ Some d
    → numbered w.sent payload ≡ Some s → may_reach n (Some s) ≡ true
    → To w (Down payload n 0 ∷ []) (λ v. v ≡ reached w n (delivery w.time 0 (w.lines + 1) s.down d).device)
unfolding after_form with_device in_range
down_plays w payload n d s may device sent to =
    one w (Down payload n 0) (λ v. v ≡ reached w n (delivery w.time 0 (w.lines + 1) s.down d).device)
    (no_cause w (Down payload n 0) (record { comes = may.takes.down payload n 0; ranges = refl; fits = refl }) may.device refl (rw sent to) refl refl refl refl)
    (rw (device, sent) refl)

-- the server after an answer of device n
abbrev pub moved : ServerState → (n : ℕ) → Stage → Command → ServerState
moved server n s a = record server {
  stages = slice_set server.stages (n - 1) (stage_after server.plan server.image s a);
  statuses = slice_set server.statuses (n - 1) (status_after server.plan (told_or_none (last_status server n)) a);
}

answer_moves : (server : ServerState) (n p t : ℕ) (s : Stage) (a : Command) → numbered server.stages n ≡ Some s
    → reading_of p Upwards (canonical a) ≡ Ok (a ∷ []) → time_answer_to t a ≡ None
    → uplink_step server n p (canonical a) t ≡ record { server = moved server n s a; answer = Ok None }
unfolding uplink_step read_uplink stage_after_all status_after_all time_answer
answer_moves server n p t s a stage read silent = rw (read, stage, silent) refl

abbrev pub upped : WorldState → (n : ℕ) → Stage → Command → WorldState
upped w n s a = record w { lines = w.lines + 1; section = section.Events; server = moved w.server n s a }

up_plays : (w : WorldState) (number n p due : ℕ) (s : Stage) (a : Command) → Takes w.section → due ≤ w.time
    → numbered w.uplinks number ≡ Some (made_by n (uplink_of (record { due = due; port = p; command = a })))
    → numbered w.server.stages n ≡ Some s → reading_of p Upwards (canonical a) ≡ Ok (a ∷ []) → time_answer_to w.time a ≡ None
    → To w (Up number ∷ []) (λ v. v ≡ upped w n s a)
unfolding after_form in_range
up_plays w number n p due s a takes now there stage read silent =
    let by_now : nat_le due w.time ≡ true = grind (arith, now) in
    one w (Up number) (λ v. v ≡ upped w n s a)
    (no_cause w (Up number) (record { comes = takes.up number; ranges = refl; fits = refl }) refl refl (rw there by_now) refl refl refl refl)
    (rw (there, answer_moves w.server n p w.time s a stage read silent) refl)

-- ---- a turn: the request, its delivery, and that of its answer

abbrev pub behind : (mark : ℕ) → Command → DeviceState → DeviceState
behind mark c d = (delivery 0 0 mark (unicast_of c) d).device

-- what a turn makes of a device and its stage
pub record Turns (image : List ℕ) (P' : DeviceState → Stage → Type 0) (d : DeviceState) (s : Stage) (c a : Command) (p : ℕ) : Type 0 where
  pub ask : (plan : Plan) (planned : PlanDevice) → IsPlan plan → request_at plan image planned s ≡ Some c
  pub answer : (mark : ℕ) → (behind mark c d).outbox ≡ uplink_of (record { due = 0; port = p; command = a }) ∷ []
  pub read : reading_of p Upwards (canonical a) ≡ Ok (a ∷ [])
  pub silent : time_answer_to 0 a ≡ None
  pub after : (mark : ℕ) (plan : Plan) → IsPlan plan → P' (record (behind mark c d) { outbox = [] }) (stage_after plan image s a)

abbrev pub TakesTurn : (image : List ℕ) (P' : DeviceState → Stage → Type 0) → DeviceState → Stage → Type 0
TakesTurn image P' d s = (c : Command) × (a : Command) × (p : ℕ) × Turns image P' d s c a p

abbrev pub turned : WorldState → (n : ℕ) → (e : DeviceState) → Stage → (c a : Command) → Uplink → WorldState
turned w n e s c a u = record w {
  lines = w.lines + 1 + 1 + 1;
  section = section.Events;
  server = moved w.server n s a;
  devices = slice_set w.devices (n - 1) (record e { outbox = [] });
  sent = w.sent ++ record { receiver = Some n; down = unicast_of c } ∷ [];
  uplinks = w.uplinks ++ made_by n u ∷ [];
}

turn_plays : (w : WorldState) (n : ℕ) (d : DeviceState) (k : PlanDevice) (s : Stage) (c a : Command) (p : ℕ) → MayCome w n → w.time ≡ 0
    → numbered w.devices n ≡ Some d → numbered w.server.plan.devices n ≡ Some k → numbered w.server.stages n ≡ Some s
    → request_at w.server.plan w.server.image k s ≡ Some c
    → ((mark : ℕ) → (behind mark c d).outbox ≡ uplink_of (record { due = 0; port = p; command = a }) ∷ [])
    → reading_of p Upwards (canonical a) ≡ Ok (a ∷ []) → time_answer_to 0 a ≡ None
    → To w (forms_of_turn n (length w.sent + 1) (length w.uplinks + 1))
    (λ v. v ≡ turned w n (behind (w.lines + 1 + 1) c d) s c a (uplink_of (record { due = 0; port = p; command = a })))
turn_plays w n d k s c a p may at_0 device key stage ask answer read silent =
    let new : SentPayload = record { receiver = Some n; down = unicast_of c } in
    let u : Uplink = uplink_of (record { due = 0; port = p; command = a }) in
    let x : WorldState = asks w n c in
    let e : DeviceState = (delivery w.time 0 (w.lines + 1 + 1) (unicast_of c) d).device in
    let e_is : e ≡ behind (w.lines + 1 + 1) c d = ap (λ (t : ℕ). (delivery t 0 (w.lines + 1 + 1) (unicast_of c) d).device) at_0 in
    let held : e.outbox ≡ u ∷ [] = ap (λ (z : DeviceState). z.outbox) e_is ∙ answer (w.lines + 1 + 1) in
    let y : WorldState = reached x n e in
    let ups : y.uplinks ≡ w.uplinks ++ made_by n u ∷ [] = ap (λ (us : List Uplink). w.uplinks ++ map (λ (z : Uplink). made_by n z) us) held in
    let last : numbered y.uplinks (length w.uplinks + 1) ≡ Some (made_by n u) =
    ap (λ (us : List NumberedUplink). numbered us (length w.uplinks + 1)) ups ∙ numbered_last w.uplinks (made_by n u) (length w.uplinks + 1) refl in
    both w (Ask n ∷ []) (Down (length w.sent + 1) n 0 ∷ Up (length w.uplinks + 1) ∷ []) (λ v. v ≡ x)
    (λ v. v ≡ turned w n (behind (w.lines + 1 + 1) c d) s c a u) (ask_plays w n k s c may key stage ask)
    (λ v is. subst (λ (z : WorldState). To z (Down (length w.sent + 1) n 0 ∷ Up (length w.uplinks + 1) ∷ []) (λ v. v ≡ turned w n (behind (w.lines + 1 + 1) c d) s c a u)) (sym is)
    (both x (Down (length w.sent + 1) n 0 ∷ []) (Up (length w.uplinks + 1) ∷ []) (λ v. v ≡ y) (λ v. v ≡ turned w n (behind (w.lines + 1 + 1) c d) s c a u)
    (down_plays x (length w.sent + 1) n d new (record { takes = takes_events; device = may.device }) device (numbered_last w.sent new (length w.sent + 1) refl) (same_test n))
    (λ v is. subst (λ (z : WorldState). To z (Up (length w.uplinks + 1) ∷ []) (λ v. v ≡ turned w n (behind (w.lines + 1 + 1) c d) s c a u)) (sym is)
    (weaker y (Up (length w.uplinks + 1) ∷ []) (λ v. v ≡ upped y n s a) (λ v. v ≡ turned w n (behind (w.lines + 1 + 1) c d) s c a u)
    (λ v is. is ∙ ap (λ (us : List NumberedUplink). record (turned w n e s c a u) { uplinks = us }) ups ∙ ap (λ (z : DeviceState). turned w n z s c a u) e_is)
    (up_plays y (length w.uplinks + 1) n p 0 s a takes_events (omega arith) last stage read (subst (λ (t : ℕ). time_answer_to t a ≡ None) (sym at_0) silent))))))

-- so it stands after a turn of device n, where that takes it on and nothing is lost of the others
pub turn_to : (image : List ℕ) (payloads answers from : ℕ) (P P' : ℕ → DeviceState → Stage → Type 0) (w : WorldState) (n : ℕ) → 1 ≤ n → n ≤ 8
    → Stand image payloads answers from P w → ((d : DeviceState) (s : Stage) → P n d s → TakesTurn image (P' n) d s)
    → ((m : ℕ) (d : DeviceState) (s : Stage) → (n ≡ m → ⊥) → P m d s → P' m d s)
    → To w (forms_of_turn n (payloads + 1) (answers + 1)) (Stand image (payloads + 1) (answers + 1) from P')
turn_to image payloads answers from P P' w n low high k mine others = by (k.each n low high)
  where
    by : (d : DeviceState) × (s : Stage) × IsOne P w n d s → To w (forms_of_turn n (payloads + 1) (answers + 1)) (Stand image (payloads + 1) (answers + 1) from P')
    by (d, s, one) = by_turn (mine d s one.holds)
      where
        by_turn : TakesTurn image (P' n) d s → To w (forms_of_turn n (payloads + 1) (answers + 1)) (Stand image (payloads + 1) (answers + 1) from P')
        by_turn (c, a, p, t) =
            rw (← k.sent, ← k.ups) (weaker w (forms_of_turn n (length w.sent + 1) (length w.uplinks + 1)) (λ v. v ≡ turned w n e s c a u)
            (Stand image (length w.sent + 1) (length w.uplinks + 1) from P')
            (λ v is. subst (Stand image (length w.sent + 1) (length w.uplinks + 1) from P') (sym is) stands)
            (turn_plays w n d one.key.0 s c a p (may_come_at image payloads answers from P w n k low high) k.seed.time_is one.device one.key.1 one.stage
            (ap (λ (i : List ℕ). request_at w.server.plan i one.key.0 s) k.seed.image_is ∙ t.ask w.server.plan one.key.0 k.seed.plan_is) t.answer t.read t.silent))
          where
            u : Uplink
            u = uplink_of (record { due = 0; port = p; command = a })

            e : DeviceState
            e = behind (w.lines + 1 + 1) c d

            device' : DeviceState
            device' = record e { outbox = [] }

            stage' : Stage
            stage' = stage_after w.server.plan w.server.image s a

            each : (m : ℕ) → 1 ≤ m → m ≤ 8 → (x : DeviceState) × (y : Stage) × IsOne P' (turned w n e s c a u) m x y
            each m l h = by_case (put_cases w.devices n m d device' low one.device) (put_cases w.server.stages n m s stage' low one.stage)
              where
                by_case : ((n ≡ m) × (numbered (slice_set w.devices (n - 1) device') m ≡ Some device')) ⊎ ((n ≡ m → ⊥) × (numbered (slice_set w.devices (n - 1) device') m ≡ numbered w.devices m))
                    → ((n ≡ m) × (numbered (slice_set w.server.stages (n - 1) stage') m ≡ Some stage')) ⊎ ((n ≡ m → ⊥) × (numbered (slice_set w.server.stages (n - 1) stage') m ≡ numbered w.server.stages m))
                    → (x : DeviceState) × (y : Stage) × IsOne P' (turned w n e s c a u) m x y
                by_case (inl q) (inl r) = (
                  device',
                  stage',
                  record {
                    device = q.1;
                    stage = r.1;
                    key = (one.key.0, subst (λ (j : ℕ). numbered w.server.plan.devices j ≡ Some one.key.0) q.0 one.key.1);
                    holds = subst (λ (j : ℕ). P' j device' stage') q.0
                        (subst (λ (i : List ℕ). P' n device' (stage_after w.server.plan i s a)) (sym k.seed.image_is) (t.after (w.lines + 1 + 1) w.server.plan k.seed.plan_is));
                  },
                )
                by_case (inl q) (inr r) = absurd (r.0 q.0)
                by_case (inr q) (inl r) = absurd (q.0 r.0)
                by_case (inr q) (inr r) = let old = k.each m l h in
                    (old.0, old.1, record { device = q.1 ∙ old.2.device; stage = r.1 ∙ old.2.stage; key = old.2.key; holds = others m old.0 old.1 q.0 old.2.holds })

            stands : Stand image (length w.sent + 1) (length w.uplinks + 1) from P' (turned w n e s c a u)
            stands = record {
              seed = k.seed;
              count = length_set w.devices (n - 1) device' ∙ k.count;
              stages = length_set w.server.stages (n - 1) stage' ∙ k.stages;
              takes = takes_events;
              sent = rw length-append refl;
              ups = rw length-append refl;
              next = k.next;
              frags = λ m l h. numbered_more w.sent (record { receiver = Some n; down = unicast_of c } ∷ []) (16 + m) (sent_fragment image m) (k.frags m l h);
              each = each;
            }

-- ---- a fragment is sent

frag_plays : (image : List ℕ) (w : WorldState) (from : ℕ) → Takes w.section → w.server.image ≡ image → IsPlan w.server.plan
    → w.server.next ≡ from → from ≤ nb_frag_of (length image) 64 + 128
    → To w (Frag ∷ []) (λ v. v ≡ record w {
      lines = w.lines + 1;
      section = section.Events;
      server = record w.server { next = from + 1 };
      sent = w.sent ++ sent_fragment image from ∷ [];
    })
unfolding after_form next_fragment after_fragment in_range
frag_plays image w from takes image_is plan next low =
    let more : nat_lt (nb_frag_of (length image) 64 + 128) from ≡ false = grind (arith, low) in
    one w Frag _
    (no_cause w Frag (record { comes = takes.frag; ranges = refl; fits = refl }) refl refl refl refl refl refl (rw (image_is, plan.size, plan.parity, plan.index, plan.group, next, more) refl))
    (rw (image_is, plan.size, plan.parity, plan.index, plan.group, next, more) refl)

-- so it stands after the next fragment
pub frag_to : (image : List ℕ) (payloads answers from : ℕ) (P : ℕ → DeviceState → Stage → Type 0) (w : WorldState) → payloads + 1 ≡ 16 + from → 1 ≤ from
    → from ≤ nb_frag_of (length image) 64 + 128 → Stand image payloads answers from P w → To w (Frag ∷ []) (Stand image (payloads + 1) answers (from + 1) P)
frag_to image payloads answers from P w at first low k =
    weaker w (Frag ∷ []) _ (Stand image (payloads + 1) answers (from + 1) P) (λ v is. subst (Stand image (payloads + 1) answers (from + 1) P) (sym is) stands)
    (frag_plays image w from k.takes k.seed.image_is k.seed.plan_is k.next low)
  where
    frags : (n : ℕ) → 1 ≤ n → n < from + 1 → numbered (w.sent ++ sent_fragment image from ∷ []) (16 + n) ≡ Some (sent_fragment image n)
    frags n l h = by (n == from) refl
      where
        by : (b : Bool) → (n == from) ≡ b → numbered (w.sent ++ sent_fragment image from ∷ []) (16 + n) ≡ Some (sent_fragment image n)
        by true is =
            let same : n ≡ from = grind (arith, is) in
            rw same (numbered_last w.sent (sent_fragment image from) (16 + from) (omega (arith, at, k.sent)))
        by false is = numbered_more w.sent (sent_fragment image from ∷ []) (16 + n) (sent_fragment image n) (k.frags n l (grind (arith, is, h)))

    stands : Stand image (payloads + 1) answers (from + 1) P (record w {
      lines = w.lines + 1;
      section = section.Events;
      server = record w.server { next = from + 1 };
      sent = w.sent ++ sent_fragment image from ∷ [];
    })
    stands = record {
      seed = k.seed;
      count = k.count;
      stages = k.stages;
      takes = takes_events;
      sent = rw length-append (ap (λ (i : ℕ). i + 1) k.sent);
      ups = k.ups;
      next = refl;
      frags = frags;
      each = λ n l h. (let o = k.each n l h in (o.0, o.1, record { device = o.2.device; stage = o.2.stage; key = o.2.key; holds = o.2.holds }));
    }

-- ---- a fragment reaches a device

-- so it stands after a delivery of fragment j to device n
pub down_to : (image : List ℕ) (payloads answers from : ℕ) (P P' : ℕ → DeviceState → Stage → Type 0) (w : WorldState) (n j : ℕ) → 1 ≤ n → n ≤ 8
    → 1 ≤ j → j < from → Stand image payloads answers from P w
    → ((d : DeviceState) (s : Stage) → P n d s → (mark : ℕ) → ((behind mark (fragment_command image j) d).outbox ≡ []) × P' n (behind mark (fragment_command image j) d) s)
    → ((m : ℕ) (d : DeviceState) (s : Stage) → (n ≡ m → ⊥) → P m d s → P' m d s)
    → To w (Down (16 + j) n 0 ∷ []) (Stand image payloads answers from P')
down_to image payloads answers from P P' w n j low high some there k mine others = by (k.each n low high)
  where
    by : (d : DeviceState) × (s : Stage) × IsOne P w n d s → To w (Down (16 + j) n 0 ∷ []) (Stand image payloads answers from P')
    by (d, s, one) = weaker w (Down (16 + j) n 0 ∷ []) (λ v. v ≡ reached w n heard) (Stand image payloads answers from P')
        (λ v is. subst (Stand image payloads answers from P') (sym is) stands)
        (down_plays w (16 + j) n d (sent_fragment image j) (may_come_at image payloads answers from P w n k low high) one.device (k.frags j some there) refl)
      where
        c : Command
        c = fragment_command image j

        heard : DeviceState
        heard = (delivery w.time 0 (w.lines + 1) (unicast_of c) d).device

        heard_is : heard ≡ behind (w.lines + 1) c d
        heard_is = ap (λ (t : ℕ). (delivery t 0 (w.lines + 1) (unicast_of c) d).device) k.seed.time_is

        made : ((behind (w.lines + 1) c d).outbox ≡ []) × P' n (behind (w.lines + 1) c d) s
        made = mine d s one.holds (w.lines + 1)

        silent : heard.outbox ≡ []
        silent = ap (λ (z : DeviceState). z.outbox) heard_is ∙ made.0

        device' : DeviceState
        device' = record heard { outbox = [] }

        is_made : P' n device' s
        is_made = subst (λ (us : List Uplink). P' n (record heard { outbox = us }) s) silent (subst (λ (z : DeviceState). P' n z s) (sym heard_is) made.1)

        each : (m : ℕ) → 1 ≤ m → m ≤ 8 → (x : DeviceState) × (y : Stage) × IsOne P' (reached w n heard) m x y
        each m l h = by_case (put_cases w.devices n m d device' low one.device)
          where
            by_case : ((n ≡ m) × (numbered (slice_set w.devices (n - 1) device') m ≡ Some device')) ⊎ ((n ≡ m → ⊥) × (numbered (slice_set w.devices (n - 1) device') m ≡ numbered w.devices m))
                → (x : DeviceState) × (y : Stage) × IsOne P' (reached w n heard) m x y
            by_case (inl q) = (
              device',
              s,
              record {
                device = q.1;
                stage = subst (λ (i : ℕ). numbered w.server.stages i ≡ Some s) q.0 one.stage;
                key = (one.key.0, subst (λ (i : ℕ). numbered w.server.plan.devices i ≡ Some one.key.0) q.0 one.key.1);
                holds = subst (λ (i : ℕ). P' i device' s) q.0 is_made;
              },
            )
            by_case (inr q) = let old = k.each m l h in
                (old.0, old.1, record { device = q.1 ∙ old.2.device; stage = old.2.stage; key = old.2.key; holds = others m old.0 old.1 q.0 old.2.holds })

        stands : Stand image payloads answers from P' (reached w n heard)
        stands = record {
          seed = k.seed;
          count = length_set w.devices (n - 1) device' ∙ k.count;
          stages = k.stages;
          takes = takes_events;
          sent = k.sent;
          ups = rw (silent, length-append) (omega (arith, k.ups));
          next = k.next;
          frags = k.frags;
          each = each;
        }
