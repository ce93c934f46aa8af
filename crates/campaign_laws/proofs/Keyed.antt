-- What holds of each honest campaign's keys and counts: a device has no group but the plan's, with its key, and each payload
-- to the group has a count of its own.
use Rattle.std.proofs.Common.{◌≡◌, ◌⊎◌, inl, inr, ℕ, ◌+◌, ◌^◌, ◌/◌, ◌<◌, ◌≤◌, ◌&&◌, ◌==◌, nat_lt, nat_le, Bool, true, false, cond, List, [], ◌∷◌, length, Option, None, Some, IfSome, is_ok, is_some, Result, Ok, Err, refl, sym, ap, ◌∙◌, subst, lit≤, arith, eqb-true}
use Rattle.std.proofs.lemmas.Bool.{and_parts, eqb-false, ltb-true, leb-true}
use Rattle.std.specs.List.{AllByRecursion}
use Rattle.std.specs.Result.{result_ok}
use Rattle.wire_base.specs.declared.refusal.Direction.TheVariants.{Down}
use Rattle.wire_base.specs.Numbered.{numbered}
use Rattle.aes_block.specs.Cipher.{IsBlock}
use Rattle.clock_sync.specs.Clock.{correction_of, is_answer_needed}
use Rattle.cast_wire.specs.declared.cmd.Cmd.TheVariants.{FragSessionStatusReq}
use Rattle.sync_wire.specs.declared.cmd.Cmd.{Cmd as SyncCmd}
use Rattle.sync_wire.specs.declared.cmd.Cmd.TheVariants as s
use Rattle.package_grammar.specs.declared.command.Command.{Command}
use Rattle.package_grammar.specs.declared.command.Command.TheVariants.{Sync, Cast}
use Rattle.package_grammar.specs.declared.downlink.To.{To}
use Rattle.package_grammar.specs.declared.downlink.To.TheVariants as to
use Rattle.package_grammar.specs.declared.downlink.Downlink.{Downlink}
use Rattle.package_grammar.specs.Grammar.{canonical, IsValid}
use Rattle.package_grammar.specs.Reading.{reading_of}
use Rattle.mc_group.specs.Groups.{group_at}
use Rattle.mc_group.specs.declared.group.Group.{Group}
use Rattle.device_core.specs.Configuration.{Configuration}
use Rattle.device_core.specs.Device.{DeviceState}
use Rattle.campaign_server.specs.declared.plan.Kind.{Kind}
use Rattle.campaign_server.specs.declared.plan.Kind.TheVariants as kind
use Rattle.campaign_server.specs.declared.plan.PlanGroup.{PlanGroup}
use Rattle.campaign_server.specs.declared.plan.PlanWindow.{PlanWindow}
use Rattle.campaign_server.specs.declared.plan.PlanDevice.{PlanDevice}
use Rattle.campaign_server.specs.declared.stage.Stage.{Stage}
use Rattle.campaign_server.specs.declared.stage.Stage.TheVariants.{At, Updated, Refused}
use Rattle.campaign_server.specs.declared.stage.Request.TheVariants as request
use Rattle.campaign_server.specs.declared.fragments.Spent.{Spent}
use Rattle.campaign_server.specs.declared.fragments.Spent.TheVariants.{Fragments, Counts}
use Rattle.campaign_server.specs.Plan.{Plan, fits_bits, own_id}
use Rattle.campaign_server.specs.Server.{ServerState, DownlinkCommand, first_count, port_of, downlink_of, ledger}
use Rattle.campaign_server.specs.Asking.{cast_of, group_request, fragments_request, window_request_of, window_request, request_at, command_for, by_unicast, request_of}
use Rattle.campaign_server.specs.Fragments.{receivers, has_no_count, next_count, after_count, next_fragment, after_fragment, status_to_all, after_status_to_all}
use Rattle.campaign_server.specs.Time.{time_answer_to, first_answer, time_answer}
use Rattle.campaign_server.specs.Uplinks.{with_answers}
use Rattle.campaign_world.specs.declared.numbered.SentPayload.{SentPayload}
use Rattle.campaign_world.specs.declared.section.Section.{Section}
use Rattle.campaign_world.specs.Causes.{may_reach}
use Rattle.campaign_laws.proofs.HeadlineCommands.{sync_high}
use Rattle.campaign_laws.proofs.OwnGroups.{HasOwn, IsMildReading, away_mild, single_mild}
use Rattle.campaign_laws.proofs.PlanGroups.{is_planning}
use Rattle.campaign_laws.proofs.Unwrapping.{unwraps, wrapped_long}

-- ---- the plan

pub record FitsGroup (p : PlanGroup) : Type 0 where
  pub id : p.id ≤ 3
  pub addr : p.addr < 2 ^ 32
  pub key : IsBlock p.key
  pub min : p.min < 2 ^ 32
  pub max : p.max < 2 ^ 32
  pub some : p.min < p.max

-- its group and its window fit their fields
pub record IsFit (plan : Plan) : Type 0 where
  pub group : IfSome plan.group FitsGroup
  pub window : IfSome plan.window (λ x. fits_bits x ≡ true)

-- device n of the plan has these keys
abbrev pub IsPlanned : Plan → (n : ℕ) → Configuration → Type 0
IsPlanned plan n config = numbered plan.devices n ≡ Some (record { key = config.key; root = config.root })

-- ---- what was sent

-- to whichever device the payload comes, no other group is set up there
abbrev pub SetsUpOwn : Plan → SentPayload → Type 0
SetsUpOwn plan p = (id : ℕ) (config : Configuration) → may_reach id (Some p) ≡ true → IsPlanned plan id config → IsBlock config.key
    → IsMildReading plan.group config (reading_of p.down.port Down p.down.payload)

-- a count that frames are opened with
pub record IsDue (g : PlanGroup) (addr count : ℕ) : Type 0 where
  pub addr_is : addr ≡ g.addr
  pub from : g.min ≤ count
  pub below : count < g.max
  pub near : count < g.min + 65536

abbrev pub IsDueOf : Option PlanGroup → (addr count : ℕ) → Type 0
IsDueOf None addr count = ⊥
IsDueOf (Some g) addr count = IsDue g addr count

-- a payload to a group is to the plan's
abbrev pub IsFramed : Option PlanGroup → Downlink → Type 0
IsFramed group down = (addr count : ℕ) → down.to ≡ to.Group addr count → IsDueOf group addr count × (down.port ≡ 201)

pub record IsKept (plan : Plan) (p : SentPayload) : Type 0 where
  pub own : SetsUpOwn plan p
  pub framed : IsFramed plan.group p.down

-- ---- the counts

-- the next count is from MIN to MAX, and no more were taken than there were lines
abbrev pub IsNext : Option PlanGroup → (count lines : ℕ) → Type 0
IsNext None count lines = Unit {0}
IsNext (Some g) count lines = (g.min ≤ count) × (count ≤ g.max) × (count ≤ g.min + lines)

pub next_later : (group : Option PlanGroup) (count lines : ℕ) → IsNext group count lines → IsNext group count (lines + 1)
next_later None count lines k = tt
next_later (Some g) count lines k = (k.0, k.1, omega (arith, k.2))

next_taken : (group : Option PlanGroup) (count lines : ℕ) → has_no_count group count ≡ false → IsNext group count lines
    → IsNext group (next_count group count) (lines + 1)
next_taken None count lines more k = tt
next_taken (Some g) count lines more k =
    let other = eqb-false count g.max more in (omega (arith, k.0), omega (arith, k.1, other), omega (arith, k.2))

-- those of a new server
pub first_next : (group : Option PlanGroup) (lines : ℕ) → IfSome group FitsGroup → IsNext group (first_count group) lines
first_next None lines fits = tt
first_next (Some g) lines fits = (omega arith, omega (arith, fits.some), omega arith)

abbrev ServerNext : ServerState → ℕ → Type 0
ServerNext server lines = IsNext server.plan.group server.count lines

fragment_by : (server : ServerState) (lines : ℕ) (x : DownlinkCommand) (a b : Bool) → has_no_count server.plan.group server.count ≡ b
    → ServerNext server lines
    → ServerNext (cond (is_ok (cond {A = Result DownlinkCommand Spent} a (Err Fragments) (cond b (Err Counts) (Ok x))))
    (after_count (record server { next = server.next + 1 })) server) (lines + 1)
fragment_by server lines x true b is k = next_later server.plan.group server.count lines k
fragment_by server lines x false true is k = next_later server.plan.group server.count lines k
fragment_by server lines x false false is k = next_taken server.plan.group server.count lines is k

pub fragment_next : (server : ServerState) (lines : ℕ) → ServerNext server lines → ServerNext (after_fragment server) (lines + 1)
unfolding after_fragment next_fragment
fragment_next server lines k = fragment_by server lines _ _ _ refl k

status_by : (server : ServerState) (lines : ℕ) (x : DownlinkCommand) (b : Bool) → has_no_count server.plan.group server.count ≡ b
    → ServerNext server lines
    → ServerNext (cond (is_some (cond {A = Option DownlinkCommand} b None (Some x))) (after_count server) server) (lines + 1)
status_by server lines x true is k = next_later server.plan.group server.count lines k
status_by server lines x false is k = next_taken server.plan.group server.count lines is k

pub status_next : (server : ServerState) (lines : ℕ) → ServerNext server lines → ServerNext (after_status_to_all server) (lines + 1)
unfolding after_status_to_all status_to_all
status_next server lines k = status_by server lines _ _ refl k

pub answers_next : (server : ServerState) (dev lines : ℕ) (cs : List Command) (stage : Option Stage) → ServerNext server lines
    → ServerNext (with_answers server dev cs stage) (lines + 1)
answers_next server dev lines cs None k = next_later server.plan.group server.count lines k
answers_next server dev lines cs (Some stage) k = next_later server.plan.group server.count lines k

-- ---- what the server sends

abbrev sent_to : Option ℕ → DownlinkCommand → SentPayload
sent_to receiver down = record { receiver = receiver; down = downlink_of down }

abbrev UnicastTo : Option ℕ → Command → SentPayload
UnicastTo receiver x = sent_to receiver (record { to = to.Unicast; command = x })

no_group : {X : Type 0} (addr count : ℕ) → Path To to.Unicast (to.Group addr count) → X
no_group addr count is = absurd cc

-- what is on no port of groups
away_kept : (plan : Plan) (receiver : Option ℕ) (x : Command) → (port_of x ≡ 201) ⊎ (202 ≤ port_of x) → IsKept plan (UnicastTo receiver x)
away_kept plan receiver x away = record {
  own = λ id config may planned key. away_mild plan.group config (port_of x) (canonical x) away;
  framed = λ addr count is. no_group addr count is;
}

-- the group's setup, to a device that has this key
pub group_valid : (g : PlanGroup) (k : PlanDevice) → FitsGroup g → IsBlock k.key → IsValid (Cast (group_request k g))
group_valid g k fits key = record {
  fields = ((omega (arith, fits.id), tt), (fits.addr, (tt, (fits.min, (fits.max, tt)))));
  whole = wrapped_long k.root k.key g.key key fits.key;
}

-- the device that it reaches unwraps the plan's key
group_mild : (g : PlanGroup) (config : Configuration) → FitsGroup g → IsBlock config.key
    → IsMildReading (Some g) config
    (reading_of 200 Down (canonical (Cast (group_request (record { key = config.key; root = config.root }) g))))
group_mild g config fits key =
    single_mild (Some g) config (Cast (group_request (record { key = config.key; root = config.root }) g))
    (group_valid g (record { key = config.key; root = config.root }) fits key)
    (record { port_is = refl; direction_is = refl })
    (ap (λ (k : List ℕ). let x : Group = record { addr = g.addr; key = k; min = g.min; max = g.max } in x)
    (unwraps config.root config.key g.key key fits.key))

reached_is : (n id : ℕ) → (n == id) ≡ true → n ≡ id
reached_is n id is = eqb-true n id is

group_kept : (plan : Plan) (n : ℕ) (k : PlanDevice) (group : Option PlanGroup) → plan.group ≡ group → IfSome group FitsGroup
    → numbered plan.devices n ≡ Some k
    → IfSome (by_unicast (cast_of (λ g. group_request k g) group)) (λ x. IsKept plan (sent_to (Some n) x))
group_kept plan n k None is fits at = tt
group_kept plan n k (Some g) is fits at = record {
  own = λ id config may planned key.
      let same : n ≡ id = reached_is n id may in
      let own : k ≡ record { key = config.key; root = config.root } =
      (let both : Some k ≡ Some (record { key = config.key; root = config.root }) =
      sym at ∙ ap (λ (i : ℕ). numbered plan.devices i) same ∙ planned in cc) in
      subst (λ (o : Option PlanGroup). IsMildReading o config (reading_of 200 Down (canonical (Cast (group_request k g))))) (sym is)
      (subst (λ (x : PlanDevice). IsMildReading (Some g) config (reading_of 200 Down (canonical (Cast (group_request x g))))) (sym own)
      (group_mild g config fits key));
  framed = λ addr count is. no_group addr count is;
}

-- the window
record FitsWindow (x : PlanWindow) : Type 0 where
  start : x.start < 2 ^ 32
  timeout : x.timeout ≤ 15
  freq : x.freq < 2 ^ 24
  dr : x.dr ≤ 255

fits_window : (x : PlanWindow) (b : Bool) → (b && nat_lt x.start (2 ^ 32) && nat_le x.timeout 15 && nat_lt x.freq (2 ^ 24) && nat_le x.dr 255) ≡ true
    → FitsWindow x
fits_window x b is =
    let d = and_parts (b && nat_lt x.start (2 ^ 32) && nat_le x.timeout 15 && nat_lt x.freq (2 ^ 24)) (nat_le x.dr 255) is in
    let c = and_parts (b && nat_lt x.start (2 ^ 32) && nat_le x.timeout 15) (nat_lt x.freq (2 ^ 24)) d.0 in
    let e = and_parts (b && nat_lt x.start (2 ^ 32)) (nat_le x.timeout 15) c.0 in
    let f = and_parts b (nat_lt x.start (2 ^ 32)) e.0 in
    record { start = ltb-true _ _ f.1; timeout = leb-true _ _ e.1; freq = ltb-true _ _ c.1; dr = leb-true _ _ d.1 }

first_part : (a b : Bool) → (a && b) ≡ true → a ≡ true
first_part true b is = refl
first_part false b is = absurd cc

pub window_valid : (id start timeout freq dr : ℕ) (k : Kind) → id ≤ 3
    → fits_bits (record { kind = k; start = start; timeout = timeout; freq = freq; dr = dr }) ≡ true
    → IsValid (Cast (window_request id (record { kind = k; start = start; timeout = timeout; freq = freq; dr = dr })))
window_valid id start timeout freq dr kind.C few is =
    let fits = fits_window (record { kind = kind.C; start = start; timeout = timeout; freq = freq; dr = dr }) true is in
    record {
      fields = ((omega (arith, few), tt), (fits.start, ((omega (arith, fits.timeout), tt), (fits.freq, (omega (arith, fits.dr), tt)))));
      whole = tt;
    }
window_valid id start timeout freq dr (kind.B periodicity) few is =
    let fits = fits_window (record { kind = kind.B periodicity; start = start; timeout = timeout; freq = freq; dr = dr }) (nat_le periodicity 7) is in
    let short : periodicity ≤ 7 = leb-true _ _ (low is) in
    record {
      fields = (
        (omega (arith, few), tt),
        (
          fits.start,
          (
            (omega (arith, short), (omega (arith, fits.timeout), tt)),
            (fits.freq, (omega (arith, fits.dr), tt)),
          ),
        ),
      );
      whole = tt;
    }
  where
    low : (nat_le periodicity 7 && nat_lt start (2 ^ 32) && nat_le timeout 15 && nat_lt freq (2 ^ 24) && nat_le dr 255) ≡ true
        → nat_le periodicity 7 ≡ true
    low is = first_part _ _ (first_part _ _ (first_part _ _ (first_part _ _ is)))

window_mild : (own : Option PlanGroup) (config : Configuration) (id start timeout freq dr : ℕ) (k : Kind) → id ≤ 3
    → fits_bits (record { kind = k; start = start; timeout = timeout; freq = freq; dr = dr }) ≡ true
    → IsMildReading own config (reading_of 200 Down (canonical (Cast
    (window_request id (record { kind = k; start = start; timeout = timeout; freq = freq; dr = dr })))))
window_mild own config id start timeout freq dr kind.C few is =
    single_mild own config (Cast (window_request id (record { kind = kind.C; start = start; timeout = timeout; freq = freq; dr = dr })))
    (window_valid id start timeout freq dr kind.C few is) (record { port_is = refl; direction_is = refl }) tt
window_mild own config id start timeout freq dr (kind.B periodicity) few is =
    single_mild own config (Cast (window_request id (record { kind = kind.B periodicity; start = start; timeout = timeout; freq = freq; dr = dr })))
    (window_valid id start timeout freq dr (kind.B periodicity) few is) (record { port_is = refl; direction_is = refl }) tt

pub own_low : (group : Option PlanGroup) → IfSome group FitsGroup → own_id group ≤ 3
own_low None fits = lit≤ tt
own_low (Some g) fits = fits.id

pub window_port : (x : PlanWindow) (id : ℕ) (k : Kind) → port_of (Cast (window_request_of id x k)) ≡ 200
window_port x id kind.C = refl
window_port x id (kind.B periodicity) = refl

window_kept : (plan : Plan) (n id : ℕ) (window : Option PlanWindow) → id ≤ 3 → IfSome window (λ x. fits_bits x ≡ true)
    → IfSome (by_unicast (cast_of (λ x. window_request id x) window)) (λ x. IsKept plan (sent_to (Some n) x))
window_kept plan n id None few fits = tt
window_kept plan n id (Some x) few fits = record {
  own = λ j config may planned key.
      subst (λ (p : ℕ). IsMildReading plan.group config (reading_of p Down (canonical (Cast (window_request id x)))))
      (sym (window_port x id x.kind)) (window_mild plan.group config id x.start x.timeout x.freq x.dr x.kind few fits);
  framed = λ addr count same. no_group addr count same;
}

-- a request
sync_kept : (plan : Plan) (receiver : Option ℕ) (x : SyncCmd) → IsKept plan (UnicastTo receiver (Sync x))
sync_kept plan receiver x = away_kept plan receiver (Sync x) (inr (sync_high x))

request_kept : (plan : Plan) (image : List ℕ) (n : ℕ) (k : PlanDevice) (stage : Stage) → IsFit plan → numbered plan.devices n ≡ Some k
    → IfSome (by_unicast (request_at plan image k stage)) (λ x. IsKept plan (sent_to (Some n) x))
unfolding request_at
request_kept plan image n k (At request.Version) fit at = sync_kept plan (Some n) s.DevVersionReq
request_kept plan image n k (At request.Group) fit at = group_kept plan n k plan.group refl fit.group at
request_kept plan image n k (At request.Fragments) fit at = away_kept plan (Some n) (Cast (fragments_request plan image)) (inl refl)
request_kept plan image n k (At request.Window) fit at =
    window_kept plan n (own_id plan.group) plan.window (own_low plan.group fit.group) fit.window
request_kept plan image n k (At request.Status) fit at =
    away_kept plan (Some n) (Cast (FragSessionStatusReq plan.index true)) (inl refl)
request_kept plan image n k (At request.Image) fit at = sync_kept plan (Some n) s.DevUpgradeImageReq
request_kept plan image n k (At request.Reboot) fit at = sync_kept plan (Some n) (s.DevRebootCountdownReq 0)
request_kept plan image n k (At request.Check) fit at = sync_kept plan (Some n) s.DevVersionReq
request_kept plan image n k Updated fit at = tt
request_kept plan image n k (Refused r bits) fit at = tt

command_kept : (plan : Plan) (image : List ℕ) (n : ℕ) (k : Option PlanDevice) (stage : Option Stage) → IsFit plan
    → numbered plan.devices n ≡ k
    → IfSome (by_unicast (command_for plan image k stage)) (λ x. IsKept plan (sent_to (Some n) x))
command_kept plan image n None stage fit at = tt
command_kept plan image n (Some k) None fit at = tt
command_kept plan image n (Some k) (Some stage) fit at = request_kept plan image n k stage fit at

pub asked_kept : (server : ServerState) (n : ℕ) → IsFit server.plan
    → IfSome (request_of server n) (λ x. IsKept server.plan (sent_to (Some n) x))
unfolding request_of
asked_kept server n fit =
    command_kept server.plan server.image n (numbered server.plan.devices n) (ledger server n) fit refl

-- a payload to all, on the port of fragments
due_of : (group : Option PlanGroup) (count lines addr now : ℕ) → IsNext group count lines → has_no_count group count ≡ false
    → lines < 20000 → receivers group count ≡ to.Group addr now → IsDueOf group addr now
due_of None count lines addr now k more few is = absurd cc
due_of (Some g) count lines addr now k more few is =
    let other = eqb-false count g.max more in
    let same_addr : g.addr ≡ addr = cc in
    let same_count : count ≡ now = cc in
    subst (λ (a : ℕ). IsDueOf (Some g) a now) same_addr (subst (λ (x : ℕ). IsDueOf (Some g) g.addr x) same_count (record {
      addr_is = refl;
      from = k.0;
      below = omega (arith, k.1, other);
      near = omega (arith, k.2, few);
    }))

all_kept : (server : ServerState) (lines : ℕ) (x : Command) → port_of x ≡ 201 → ServerNext server lines
    → has_no_count server.plan.group server.count ≡ false → lines < 20000
    → IsKept server.plan (sent_to None (record { to = receivers server.plan.group server.count; command = x }))
all_kept server lines x port k more few = record {
  own = λ id config may planned key. away_mild server.plan.group config (port_of x) (canonical x) (inl port);
  framed = λ addr count is. (due_of server.plan.group server.count lines addr count k more few is, port);
}

fragment_sends : (server : ServerState) (lines : ℕ) (x : Command) (a b : Bool) → port_of x ≡ 201
    → has_no_count server.plan.group server.count ≡ b → ServerNext server lines → lines < 20000
    → IfSome (result_ok (cond {A = Result DownlinkCommand Spent} a (Err Fragments) (cond b (Err Counts)
    (Ok (record { to = receivers server.plan.group server.count; command = x }))))) (λ y. IsKept server.plan (sent_to None y))
fragment_sends server lines x true b port is k few = tt
fragment_sends server lines x false true port is k few = tt
fragment_sends server lines x false false port is k few = all_kept server lines x port k is few

pub fragment_kept : (server : ServerState) (lines : ℕ) → ServerNext server lines → lines < 20000
    → IfSome (result_ok (next_fragment server)) (λ y. IsKept server.plan (sent_to None y))
unfolding next_fragment
fragment_kept server lines k few = fragment_sends server lines _ _ _ refl refl k few

status_sends : (server : ServerState) (lines : ℕ) (x : Command) (b : Bool) → port_of x ≡ 201
    → has_no_count server.plan.group server.count ≡ b → ServerNext server lines → lines < 20000
    → IfSome (cond {A = Option DownlinkCommand} b None (Some (record { to = receivers server.plan.group server.count; command = x })))
    (λ y. IsKept server.plan (sent_to None y))
status_sends server lines x true port is k few = tt
status_sends server lines x false port is k few = all_kept server lines x port k is few

pub status_kept : (server : ServerState) (lines : ℕ) → ServerNext server lines → lines < 20000
    → IfSome (status_to_all server) (λ y. IsKept server.plan (sent_to None y))
unfolding status_to_all
status_kept server lines k few = status_sends server lines _ _ refl refl k few

-- an answer with the time
port_if : (b : Bool) (x : Command) → port_of x ≡ 202 → IfSome (cond b (Some x) None) (λ y. port_of y ≡ 202)
port_if true x port = port
port_if false x port = tt

to_port : (t : ℕ) (x : Command) → IfSome (time_answer_to t x) (λ y. port_of y ≡ 202)
to_port t (Sync (s.AppTimeReq time required token)) =
    let correction = correction_of (t / 1000) time in
    port_if (is_answer_needed required correction) (Sync (s.AppTimeAns correction token)) refl
to_port t (Sync cmd) = tt
to_port t (Cast cmd) = tt

first_port : (one more : Option Command) → IfSome one (λ y. port_of y ≡ 202) → IfSome more (λ y. port_of y ≡ 202)
    → IfSome (first_answer one more) (λ y. port_of y ≡ 202)
first_port None more one rest = rest
first_port (Some x) more one rest = one

pub time_port : (t : ℕ) (cs : List Command) → IfSome (time_answer t cs) (λ y. port_of y ≡ 202)
unfolding time_answer
time_port t [] = tt
time_port t (x ∷ cs) = first_port (time_answer_to t x) (time_answer t cs) (to_port t x) (time_port t cs)

answer_kept : (plan : Plan) (receiver : Option ℕ) (o : Option Command) → IfSome o (λ y. port_of y ≡ 202)
    → IfSome (by_unicast o) (λ x. IsKept plan (sent_to receiver x))
answer_kept plan receiver None port = tt
answer_kept plan receiver (Some x) port = away_kept plan receiver x (inr (omega (arith, port)))

pub time_kept : (plan : Plan) (receiver : Option ℕ) (t : ℕ) (cs : List Command)
    → IfSome (by_unicast (time_answer t cs)) (λ x. IsKept plan (sent_to receiver x))
time_kept plan receiver t cs = answer_kept plan receiver (time_answer t cs) (time_port t cs)

-- ---- a campaign

-- what holds after so many lines
pub record IsKeyed (lines : ℕ) (here : Section) (server : ServerState) (ds : List DeviceState) (sent : List SentPayload) : Type 0 where
  pub fit : IsFit server.plan
  pub even : length server.plan.devices ≡ length ds
  pub none_sent : is_planning here ≡ true → sent ≡ []
  pub fresh : is_planning here ≡ true → (id : ℕ) (d : DeviceState) → numbered ds id ≡ Some d → (k : ℕ) → group_at d.groups k ≡ None
  pub own : (id : ℕ) (d : DeviceState) → numbered ds id ≡ Some d → HasOwn server.plan.group d.groups
  pub planned : (id : ℕ) (d : DeviceState) → numbered ds id ≡ Some d → IsPlanned server.plan id d.config × IsBlock d.config.key
  pub kept : AllByRecursion (IsKept server.plan) sent
  pub next : IsNext server.plan.group server.count lines
