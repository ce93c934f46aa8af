-- How far a device that suits is in a campaign: what the server asks of it, what it answers, and its stage are all backed by what
-- the device has.
use Rattle.std.proofs.Common.{◌≡◌, ◌⊎◌, inl, inr, ⊎_elim, ℕ, ◌-◌, ◌^◌, ◌<◌, ◌≤◌, ◌==◌, Bool, true, false, List, [], ◌∷◌, ◌++◌, map, All, Option, None, Some, IfSome, is_some, Ok, Err, refl, sym, ap, ◌∙◌, subst, arith, eqb-true, true≢false}
use Rattle.std.specs.List.{AllByRecursion, slice_set}
use Rattle.wire_base.specs.declared.refusal.Direction.TheVariants.{Down as Downward, Up as Upward}
use Rattle.wire_base.specs.Rows.{IsListed}
use Rattle.wire_base.specs.Numbered.{numbered}
use Rattle.aes_block.specs.Cipher.{IsBlock}
use Rattle.package_grammar.specs.declared.command.Command.{Command}
use Rattle.package_grammar.specs.declared.command.Command.TheVariants.{Cast}
use Rattle.package_grammar.specs.declared.downlink.Downlink.{Downlink}
use Rattle.package_grammar.specs.Grammar.{row}
use Rattle.package_grammar.specs.Reading.{Reading, reading_of}
use Rattle.device_core.specs.declared.uplink.Uplink.{Uplink}
use Rattle.device_core.specs.Device.{DeviceState}
use Rattle.device_core.specs.Sendable.{IsReceivable}
use Rattle.device_core.specs.Events.{Event, event_step}
use Rattle.device_core.proofs.HeardSessions.{event_config}
use Rattle.campaign_server.specs.declared.plan.Kind.{Kind}
use Rattle.campaign_server.specs.declared.plan.Kind.TheVariants as kind
use Rattle.campaign_server.specs.declared.plan.PlanDevice.{PlanDevice}
use Rattle.campaign_server.specs.declared.plan.PlanGroup.{PlanGroup}
use Rattle.campaign_server.specs.declared.plan.PlanWindow.{PlanWindow}
use Rattle.campaign_server.specs.declared.stage.Request.TheVariants as request
use Rattle.campaign_server.specs.declared.stage.Stage.{Stage}
use Rattle.campaign_server.specs.declared.stage.Stage.TheVariants.{At as Asked, Updated, Refused}
use Rattle.campaign_server.specs.Plan.{Plan, own_id, fits_bits}
use Rattle.campaign_server.specs.Server.{ServerState, DownlinkCommand, port_of, downlink_of, ledger}
use Rattle.campaign_server.specs.Asking.{cast_of, group_request, window_request_of, window_request, request_at, command_for as asked_for, by_unicast, request_of}
use Rattle.campaign_server.specs.Answers.{stage_after_all}
use Rattle.campaign_server.specs.Time.{time_answer}
use Rattle.campaign_server.specs.Uplinks.{with_answers, read_uplink, uplink_step}
use Rattle.campaign_world.specs.declared.numbered.SentPayload.{SentPayload}
use Rattle.campaign_world.specs.declared.numbered.NumberedUplink.{NumberedUplink}
use Rattle.campaign_world.specs.World.{WorldState}
use Rattle.campaign_world.specs.Causes.{may_reach}
use Rattle.campaign_world.specs.Making.{with_sent, made_by, with_device, after_answer, after_up, at_events}
use Rattle.campaign_laws.specs.Ledger.{IsRunning}
use Rattle.campaign_laws.specs.Once.{rank}
use Rattle.campaign_laws.proofs.Events.{SendsOn}
use Rattle.campaign_laws.proofs.HeadlineCommands.{cut_of, IsCut, IsGood, setup_good, fragment_good, status_good, good_read}
use Rattle.campaign_laws.proofs.HeadlineEnds.{IsToAll}
use Rattle.campaign_laws.proofs.Items.{all_both, number_first, all_numbered}
use Rattle.campaign_laws.proofs.Keyed.{time_port, FitsGroup, IsFit, IsPlanned, group_valid, window_valid, own_low, window_port}
use Rattle.campaign_laws.proofs.Ranks.{ranks_up}
use Rattle.campaign_laws.proofs.Stands.{put_cases}
use Rattle.exchange_laws.specs.Updating.{Fits}
use Rattle.campaign_laws.proofs.PlanGroups.{answers_plan}
use Rattle.exchange_laws.proofs.Backing.{Facts, StandsAt, Backs, IsTrue, all_backed}
use Rattle.exchange_laws.proofs.Bringing.{read_back}
use Rattle.exchange_laws.proofs.Facts.{Core, core_of, HasGroup, facts_of, Advances, TellsTrue, tells_on, IsApt, Goes}
use Rattle.exchange_laws.proofs.Commands.{Ours, AsksVersion, AsksGroup, AsksSession, AsksWindow, AsksStatus, AsksImage, AsksReboot, Piece, command_for, Needs, port_for}

-- ---- what is so at a moment

-- a payload is of clock synchronization, or one command of the server's that the device may get now
abbrev pub Carries : (image : List ℕ) → Plan → (Late : Type 0) → Core → Downlink → Type 0
Carries image plan Late d down =
    (down.port ≡ 202)
    ⊎ ((x : Ours) × (down.port ≡ port_for x) × (reading_of down.port Downward down.payload ≡ Ok (command_for plan image x ∷ [])) × Needs plan image Late d x)

-- a payload that may reach device id
abbrev pub IsFor : (image : List ℕ) → Plan → (id : ℕ) → Core → Stage → SentPayload → Type 0
IsFor image plan id d stage p = may_reach id (Some p) ≡ true → Carries image plan (6 ≤ rank stage) d p.down

-- an uplink of device id
abbrev pub IsFrom : (image : List ℕ) → Plan → (id : ℕ) → Core → NumberedUplink → Type 0
IsFrom image plan id d made = made.device ≡ id → TellsTrue (facts_of image plan d) image plan.index made.uplink

-- device id at a stage
pub record Playing (image : List ℕ) (plan : Plan) (id : ℕ) (stages : List Stage) (ps : List SentPayload) (us : List NumberedUplink) (d : DeviceState)
    (stage : Stage) : Type 0 where
  pub apt : IsApt image plan (core_of d)
  pub there : numbered stages id ≡ Some stage
  pub backs : Backs (facts_of image plan (core_of d)) plan stage
  pub late : IsRunning image d.slots → 6 ≤ rank stage
  pub sent : AllByRecursion (IsFor image plan id (core_of d) stage) ps
  pub uplinks : AllByRecursion (IsFrom image plan id (core_of d)) us

-- so it is of a device that suits the plan
abbrev pub Plays : (image : List ℕ) → (id : ℕ) → WorldState → Type 0
Plays image id w = (d : DeviceState) → numbered w.devices id ≡ Some d → Fits image w.server.plan d.config
    → (stage : Stage) × Playing image w.server.plan id w.server.stages w.sent w.uplinks d stage

-- ---- what was true stays

needs_on : (image : List ℕ) (plan : Plan) (d e : Core) (Before Now : Type 0) (x : Ours) → (Before → Now) → Advances (facts_of image plan d) (facts_of image plan e)
    → Needs plan image Before d x → Needs plan image Now e x
needs_on image plan d e Before Now (AsksGroup planned group) later on is = is
needs_on image plan d e Before Now (AsksWindow window) later on is = (is.0, is.1, is.2, on.grouped is.3)
needs_on image plan d e Before Now AsksImage later on is = on.has is
needs_on image plan d e Before Now AsksReboot later on is = (on.has is.0, later is.1)
needs_on image plan d e Before Now (Piece n) later on is = is
needs_on image plan d e Before Now x later on is = tt

carries_on : (image : List ℕ) (plan : Plan) (d e : Core) (Before Now : Type 0) (down : Downlink) → (Before → Now) → Advances (facts_of image plan d) (facts_of image plan e)
    → Carries image plan Before d down → Carries image plan Now e down
carries_on image plan d e Before Now down later on (inl timely) = inl timely
carries_on image plan d e Before Now down later on (inr (x, port, read, needs)) = inr (x, port, read, needs_on image plan d e Before Now x later on needs)

for_on : (image : List ℕ) (plan : Plan) (id : ℕ) (d e : Core) (old new : Stage) (ps : List SentPayload) → rank old ≤ rank new
    → Advances (facts_of image plan d) (facts_of image plan e) → AllByRecursion (IsFor image plan id d old) ps → AllByRecursion (IsFor image plan id e new) ps
for_on image plan id d e old new [] up on all = tt
for_on image plan id d e old new (p ∷ ps) up on all = (
  λ may. carries_on image plan d e (6 ≤ rank old) (6 ≤ rank new) p.down (λ late. omega (arith, late, up)) on (all.0 may),
  for_on image plan id d e old new ps up on all.1,
)

from_on : (image : List ℕ) (plan : Plan) (id : ℕ) (d e : Core) (us : List NumberedUplink) → Advances (facts_of image plan d) (facts_of image plan e)
    → AllByRecursion (IsFrom image plan id d) us → AllByRecursion (IsFrom image plan id e) us
from_on image plan id d e [] on all = tt
from_on image plan id d e (u ∷ us) on all = (
  λ same. (tells_on (facts_of image plan d) (facts_of image plan e) image plan.index (u.uplink ∷ []) on (all.0 same, tt)).0,
  from_on image plan id d e us on all.1,
)

stands_on : (f g : Facts) (plan : Plan) (stage : Stage) → (f.Grouped → g.Grouped) → (f.HasImage → g.HasImage) → (f.Runs → g.Runs) → StandsAt f plan stage → StandsAt g plan stage
stands_on f g plan stage grouped has runs k =
    record { grouped = λ far. grouped (k.grouped far); has = λ far. has (k.has far); runs = λ far. runs (k.runs far); planned = k.planned }

backs_on : (image : List ℕ) (plan : Plan) (d e : Core) (stage : Stage) → Advances (facts_of image plan d) (facts_of image plan e)
    → Backs (facts_of image plan d) plan stage → Backs (facts_of image plan e) plan stage
backs_on image plan d e (Refused r bits) on k = on.over k
backs_on image plan d e (Asked r) on k = stands_on (facts_of image plan d) (facts_of image plan e) plan (Asked r) on.grouped on.has on.runs k
backs_on image plan d e Updated on k = stands_on (facts_of image plan d) (facts_of image plan e) plan Updated on.grouped on.has on.runs k

-- ---- a payload is sent

sent_more : (image : List ℕ) (plan : Plan) (id : ℕ) (stages : List Stage) (sent more : List SentPayload) (uplinks : List NumberedUplink) (d : DeviceState) (stage : Stage)
    → Playing image plan id stages sent uplinks d stage → AllByRecursion (IsFor image plan id (core_of d) stage) more
    → Playing image plan id stages (sent ++ more) uplinks d stage
sent_more image plan id stages sent more uplinks d stage k own =
    record { apt = k.apt; there = k.there; backs = k.backs; late = k.late; sent = all_both (IsFor image plan id (core_of d) stage) sent more k.sent own; uplinks = k.uplinks }

served : (image : List ℕ) (id : ℕ) (old new : ServerState) (sent : List SentPayload) (uplinks : List NumberedUplink) (d : DeviceState) (stage : Stage) → SendsOn old new
    → Playing image old.plan id old.stages sent uplinks d stage → Playing image new.plan id new.stages sent uplinks d stage
served image id old new sent uplinks d stage on k =
    subst (λ (p : Plan). Playing image p id new.stages sent uplinks d stage) (sym on.plan)
    (subst (λ (xs : List Stage). Playing image old.plan id xs sent uplinks d stage) (sym on.stages) k)

pub sends_play : (image : List ℕ) (id : ℕ) (w : WorldState) (server : ServerState) (to : Option ℕ) (down : Option DownlinkCommand) → SendsOn w.server server
    → ((d : DeviceState) (stage : Stage) → numbered w.devices id ≡ Some d → Playing image w.server.plan id w.server.stages w.sent w.uplinks d stage
    → IfSome down (λ x. IsFor image w.server.plan id (core_of d) stage (record { receiver = to; down = downlink_of x })))
    → Plays image id w → Plays image id (at_events (with_sent (record w { server = server }) to down))
sends_play image id w server to None on own k d there fits =
    let now = k d there (subst (λ (p : Plan). Fits image p d.config) on.plan fits) in
    (now.0, served image id w.server server w.sent w.uplinks d now.0 on now.1)
sends_play image id w server to (Some x) on own k d there fits =
    let now = k d there (subst (λ (p : Plan). Fits image p d.config) on.plan fits) in
    let new : List SentPayload = record { receiver = to; down = downlink_of x } ∷ [] in (
      now.0,
      served image id w.server server (w.sent ++ new) w.uplinks d now.0 on
          (sent_more image w.server.plan id w.server.stages w.sent new w.uplinks d now.0 now.1 (own d now.0 there now.1, tt)),
    )

-- ---- what the server asks

-- what a server of this plan may be asked to send
pub record IsServing (image : List ℕ) (plan : Plan) : Type 0 where
  pub bytes : All (λ b. b < 2 ^ 8) image
  pub cut : IsCut image (cut_of plan)
  pub fit : IsFit plan

window_listed : (id : ℕ) (window : PlanWindow) (of : Kind) → IsListed (row (Cast (window_request_of id window of))) 200 Downward
window_listed id window kind.C = record { port_is = refl; direction_is = refl }
window_listed id window (kind.B periodicity) = record { port_is = refl; direction_is = refl }

group_fine : (k : PlanDevice) (group : Option PlanGroup) → IfSome group FitsGroup → IsBlock k.key
    → IfSome (cast_of (λ g. group_request k g) group) (λ x. IsReceivable (port_of x) x)
group_fine k None fits key = tt
group_fine k (Some group) fits key = record { valid = group_valid group k fits key; listed = record { port_is = refl; direction_is = refl } }

window_valid_fine : (id : ℕ) (window : Option PlanWindow) → id ≤ 3 → IfSome window (λ x. fits_bits x ≡ true)
    → IfSome (cast_of (λ x. window_request id x) window) (λ x. IsReceivable (port_of x) x)
window_valid_fine id None few fits = tt
window_valid_fine id (Some window) few fits = record {
  valid = window_valid id window.start window.timeout window.freq window.dr window.kind few fits;
  listed = subst (λ (p : ℕ). IsListed (row (Cast (window_request id window))) p Downward) (sym (window_port window id window.kind)) (window_listed id window window.kind);
}

good_fine : (x : Command) → IsGood x → IsReceivable (port_of x) x
good_fine x good = record { valid = good.valid; listed = subst (λ (p : ℕ). IsListed (row x) p Downward) (sym good.port) good.listed }

-- each request is a valid command
pub request_fine : (image : List ℕ) (plan : Plan) (k : PlanDevice) (stage : Stage) → IsServing image plan → IsBlock k.key
    → IfSome (request_at plan image k stage) (λ x. IsReceivable (port_of x) x)
unfolding request_at
request_fine image plan k (Asked request.Version) on key = record { valid = record { fields = tt; whole = tt }; listed = record { port_is = refl; direction_is = refl } }
request_fine image plan k (Asked request.Group) on key = group_fine k plan.group on.fit.group key
request_fine image plan k (Asked request.Fragments) on key = good_fine _ (setup_good image (cut_of plan) on.bytes on.cut)
request_fine image plan k (Asked request.Window) on key = window_valid_fine (own_id plan.group) plan.window (own_low plan.group on.fit.group) on.fit.window
request_fine image plan k (Asked request.Status) on key = good_fine _ (status_good plan.index true on.cut.indexed)
request_fine image plan k (Asked request.Image) on key = record { valid = record { fields = tt; whole = tt }; listed = record { port_is = refl; direction_is = refl } }
request_fine image plan k (Asked request.Reboot) on key = record { valid = record { fields = (omega arith, tt); whole = tt }; listed = record { port_is = refl; direction_is = refl } }
request_fine image plan k (Asked request.Check) on key = record { valid = record { fields = tt; whole = tt }; listed = record { port_is = refl; direction_is = refl } }
request_fine image plan k Updated on key = tt
request_fine image plan k (Refused r bits) on key = tt

-- and one of the server's that the device may get now
abbrev IsOurs : (image : List ℕ) → Plan → (Late : Type 0) → Core → Command → Type 0
IsOurs image plan Late d x = (ours : Ours) × (x ≡ command_for plan image ours) × (port_of x ≡ port_for ours) × Needs plan image Late d ours

group_ours : (image : List ℕ) (plan : Plan) (d : Core) (Late : Type 0) (k : PlanDevice) (group : Option PlanGroup) → plan.group ≡ group → IfSome group FitsGroup
    → IfSome (cast_of (λ g. group_request k g) group) (IsOurs image plan Late d)
group_ours image plan d Late k None is fits = tt
group_ours image plan d Late k (Some group) is fits = (AsksGroup k group, refl, refl, (is, fits.id))

window_ours : (image : List ℕ) (plan : Plan) (d : Core) (Late : Type 0) (window : Option PlanWindow) → plan.window ≡ window → own_id plan.group ≤ 3 → is_some plan.group ≡ true
    → HasGroup plan d.groups → IfSome (cast_of (λ x. window_request (own_id plan.group) x) window) (IsOurs image plan Late d)
window_ours image plan d Late None is few some has = tt
window_ours image plan d Late (Some window) is few some has = (AsksWindow window, refl, window_port window (own_id plan.group) window.kind, (is, few, some, has))

request_ours : (image : List ℕ) (plan : Plan) (d : Core) (k : PlanDevice) (stage : Stage) → IsServing image plan → Backs (facts_of image plan d) plan stage
    → IfSome (request_at plan image k stage) (IsOurs image plan (6 ≤ rank stage) d)
unfolding request_at
request_ours image plan d k (Asked request.Version) on backs = (AsksVersion, refl, refl, tt)
request_ours image plan d k (Asked request.Group) on backs = group_ours image plan d _ k plan.group refl on.fit.group
request_ours image plan d k (Asked request.Fragments) on backs = (AsksSession, refl, refl, tt)
request_ours image plan d k (Asked request.Window) on backs =
    window_ours image plan d _ plan.window refl (own_low plan.group on.fit.group) (backs.planned (inr refl)) (backs.grouped (omega arith))
request_ours image plan d k (Asked request.Status) on backs = (AsksStatus true, refl, refl, tt)
request_ours image plan d k (Asked request.Image) on backs = (AsksImage, refl, refl, backs.has (omega arith))
request_ours image plan d k (Asked request.Reboot) on backs = (AsksReboot, refl, refl, (backs.has (omega arith), omega arith))
request_ours image plan d k (Asked request.Check) on backs = (AsksVersion, refl, refl, tt)
request_ours image plan d k Updated on backs = tt
request_ours image plan d k (Refused r bits) on backs = tt

carried : (image : List ℕ) (plan : Plan) (Late : Type 0) (d : Core) (o : Option Command) → IfSome o (λ x. IsReceivable (port_of x) x) → IfSome o (IsOurs image plan Late d)
    → IfSome (by_unicast o) (λ x. Carries image plan Late d (downlink_of x))
carried image plan Late d None fine ours = tt
carried image plan Late d (Some x) fine (ours, is, port, needs) =
    inr (ours, port, read_back x (port_of x) Downward fine.valid fine.listed ∙ ap (λ (y : Command). let r : Reading = Ok (y ∷ []) in r) is, needs)

request_for : (image : List ℕ) (plan : Plan) (d : Core) (k : PlanDevice) (stage : Stage) → IsServing image plan → IsBlock k.key → Backs (facts_of image plan d) plan stage
    → IfSome (by_unicast (request_at plan image k stage)) (λ x. Carries image plan (6 ≤ rank stage) d (downlink_of x))
request_for image plan d k stage on key backs =
    carried image plan (6 ≤ rank stage) d (request_at plan image k stage) (request_fine image plan k stage on key) (request_ours image plan d k stage on backs)

-- to one device
some_for : (P Q : DownlinkCommand → Type 0) (o : Option DownlinkCommand) → ((x : DownlinkCommand) → P x → Q x) → IfSome o P → IfSome o Q
some_for P Q None f k = tt
some_for P Q (Some x) f k = f x k

nothing_for : (P : DownlinkCommand → Type 0) (o : Option DownlinkCommand) → ((x : DownlinkCommand) → P x) → IfSome o P
nothing_for P None f = tt
nothing_for P (Some x) f = f x

pub asked_for_it : (image : List ℕ) (server : ServerState) (n id : ℕ) (sent : List SentPayload) (uplinks : List NumberedUplink) (d : DeviceState) (stage : Stage) → IsServing image server.plan
    → server.image ≡ image → IsPlanned server.plan id d.config × IsBlock d.config.key → Playing image server.plan id server.stages sent uplinks d stage
    → IfSome (request_of server n) (λ x. IsFor image server.plan id (core_of d) stage (record { receiver = Some n; down = downlink_of x }))
unfolding request_of
asked_for_it image server n id sent uplinks d stage on image_is planned k = by (n == id) refl
  where
    by : (b : Bool) → (n == id) ≡ b → IfSome (by_unicast (asked_for server.plan server.image (numbered server.plan.devices n) (numbered server.stages n)))
        (λ x. IsFor image server.plan id (core_of d) stage (record { receiver = Some n; down = downlink_of x }))
    by false other = nothing_for (λ x. IsFor image server.plan id (core_of d) stage (record { receiver = Some n; down = downlink_of x }))
        (by_unicast (asked_for server.plan server.image (numbered server.plan.devices n) (numbered server.stages n))) (λ x may. absurd (true≢false (sym may ∙ other)))
    by true is =
        let same : n ≡ id = eqb-true _ _ is in
        let device : PlanDevice = record { key = d.config.key; root = d.config.root } in
        let asked : asked_for server.plan server.image (numbered server.plan.devices n) (numbered server.stages n) ≡ request_at server.plan image device stage =
        rw (same, planned.0, k.there, image_is) refl in
        some_for (λ x. Carries image server.plan (6 ≤ rank stage) (core_of d) (downlink_of x))
        (λ x. IsFor image server.plan id (core_of d) stage (record { receiver = Some n; down = downlink_of x }))
        (by_unicast (asked_for server.plan server.image (numbered server.plan.devices n) (numbered server.stages n))) (λ x carries may. carries)
        (subst (λ (o : Option Command). IfSome (by_unicast o) (λ x. Carries image server.plan (6 ≤ rank stage) (core_of d) (downlink_of x))) (sym asked)
        (request_for image server.plan (core_of d) device stage on planned.1 k.backs))

-- to all
to_all_for : (image : List ℕ) (plan : Plan) (Late : Type 0) (d : Core) (down : DownlinkCommand) → IsServing image plan → IsToAll image (cut_of plan) down → Carries image plan Late d (downlink_of down)
to_all_for image plan Late d down on (inl (n, number, is)) =
    let good = fragment_good image (cut_of plan) n on.cut number in
    subst (λ (x : Command). Carries image plan Late d (downlink_of (record down { command = x }))) (sym is)
    (inr (Piece n, refl, good_read _ good, number))
to_all_for image plan Late d down on (inr (all, is)) =
    subst (λ (x : Command). Carries image plan Late d (downlink_of (record down { command = x }))) (sym is)
    (inr (AsksStatus all, refl, good_read _ (status_good plan.index all on.cut.indexed), tt))

pub all_for_it : (image : List ℕ) (plan : Plan) (id : ℕ) (d : Core) (stage : Stage) (o : Option DownlinkCommand) → IsServing image plan → IfSome o (IsToAll image (cut_of plan))
    → IfSome o (λ x. IsFor image plan id d stage (record { receiver = None; down = downlink_of x }))
all_for_it image plan id d stage None on k = tt
all_for_it image plan id d stage (Some x) on k = λ may. to_all_for image plan (6 ≤ rank stage) d x on k

-- ---- an event at a device

made_from : (image : List ℕ) (plan : Plan) (n id : ℕ) (d : Core) (us : List Uplink) → AllByRecursion (TellsTrue (facts_of image plan d) image plan.index) us
    → AllByRecursion (IsFrom image plan id d) (map (λ uplink. made_by n uplink) us)
made_from image plan n id d [] all = tt
made_from image plan n id d (u ∷ us) all = (λ same. all.0, made_from image plan n id d us all.1)

made_by_other : (image : List ℕ) (plan : Plan) (n id : ℕ) (d : Core) (us : List Uplink) → (n ≡ id → ⊥) → AllByRecursion (IsFrom image plan id d) (map (λ uplink. made_by n uplink) us)
made_by_other image plan n id d [] other = tt
made_by_other image plan n id d (u ∷ us) other = (λ same. absurd (other same), made_by_other image plan n id d us other)

-- its uplinks are taken
taken : (image : List ℕ) (plan : Plan) (n id : ℕ) (stages : List Stage) (sent : List SentPayload) (uplinks : List NumberedUplink) (d e : DeviceState) (stage : Stage)
    → Playing image plan id stages sent uplinks d stage → Goes image plan (6 ≤ rank stage) (core_of d) (core_of e)
    → Playing image plan id stages sent (uplinks ++ map (λ uplink. made_by n uplink) e.outbox) (record e { outbox = [] }) stage
taken image plan n id stages sent uplinks d e stage k goes =
    let on : Advances (facts_of image plan (core_of d)) (facts_of image plan (core_of (record e { outbox = [] }))) =
    record { grouped = goes.on.grouped; has = goes.on.has; runs = goes.on.runs; over = goes.on.over } in
    record {
      apt = record { fits = goes.apt.fits; reboot = goes.apt.reboot; groups = goes.apt.groups; known = goes.apt.known; offered = goes.apt.offered; told = tt };
      there = k.there;
      backs = backs_on image plan (core_of d) (core_of (record e { outbox = [] })) stage on k.backs;
      late = λ runs. ⊎_elim (λ before. k.late before) (λ late. late) (goes.back runs);
      sent = for_on image plan id (core_of d) (core_of (record e { outbox = [] })) stage stage sent (omega arith) on k.sent;
      uplinks = all_both (IsFrom image plan id (core_of (record e { outbox = [] }))) uplinks (map (λ uplink. made_by n uplink) e.outbox)
          (from_on image plan id (core_of d) (core_of (record e { outbox = [] })) uplinks on k.uplinks)
          (made_from image plan n id (core_of (record e { outbox = [] })) e.outbox goes.apt.told);
    }

beside : (image : List ℕ) (plan : Plan) (n id : ℕ) (stages : List Stage) (sent : List SentPayload) (uplinks : List NumberedUplink) (d : DeviceState) (us : List Uplink) (stage : Stage)
    → (n ≡ id → ⊥) → Playing image plan id stages sent uplinks d stage → Playing image plan id stages sent (uplinks ++ map (λ uplink. made_by n uplink) us) d stage
beside image plan n id stages sent uplinks d us stage other k = record {
  apt = k.apt;
  there = k.there;
  backs = k.backs;
  late = k.late;
  sent = k.sent;
  uplinks = all_both (IsFrom image plan id (core_of d)) uplinks (map (λ uplink. made_by n uplink) us) k.uplinks (made_by_other image plan n id (core_of d) us other);
}

pub device_plays : (image : List ℕ) (id : ℕ) (w : WorldState) (n : ℕ) (d : DeviceState) (event : Event) → numbered w.devices n ≡ Some d
    → ((stage : Stage) → n ≡ id → Playing image w.server.plan id w.server.stages w.sent w.uplinks d stage
    → Goes image w.server.plan (6 ≤ rank stage) (core_of d) (core_of (event_step d event)))
    → Plays image id w → Plays image id (at_events (with_device w n (event_step d event)))
unfolding with_device
device_plays image id w n d event there goes k x is fits =
    let e : DeviceState = event_step d event in
    ⊎_elim
    (λ here.
    let same : record e { outbox = [] } ≡ x = (let y : Some (record e { outbox = [] }) ≡ Some x = sym here.1 ∙ is in cc) in
    let config : x.config ≡ d.config = ap (λ (y : DeviceState). y.config) (sym same) ∙ event_config d event in
    let now = k d (subst (λ (i : ℕ). numbered w.devices i ≡ Some d) here.0 there) (subst (Fits image w.server.plan) config fits) in (
      now.0,
      subst (λ (y : DeviceState). Playing image w.server.plan id w.server.stages w.sent (w.uplinks ++ map (λ uplink. made_by n uplink) e.outbox) y now.0) same
          (taken image w.server.plan n id w.server.stages w.sent w.uplinks d e now.0 now.1 (goes now.0 here.0 now.1)),
    ))
    (λ other.
    let now = k x (sym other.1 ∙ is) fits in
    (now.0, beside image w.server.plan n id w.server.stages w.sent w.uplinks x e.outbox now.0 other.0 now.1))
    (put_cases w.devices n id d (record e { outbox = [] }) (number_first w.devices n d there) there)

-- ---- an uplink comes

-- a device whose stage goes on
staged : (image : List ℕ) (plan : Plan) (id : ℕ) (old new : List Stage) (sent : List SentPayload) (uplinks : List NumberedUplink) (d : DeviceState) (before now : Stage)
    → rank before ≤ rank now → numbered new id ≡ Some now → Backs (facts_of image plan (core_of d)) plan now
    → Playing image plan id old sent uplinks d before → Playing image plan id new sent uplinks d now
staged image plan id old new sent uplinks d before now up there backs k = record {
  apt = k.apt;
  there = there;
  backs = backs;
  late = λ runs. (let late = k.late runs in omega (arith, late, up));
  sent = for_on image plan id (core_of d) (core_of d) before now sent up (record { grouped = λ x. x; has = λ x. x; runs = λ x. x; over = λ x. x }) k.sent;
  uplinks = k.uplinks;
}

-- the facts of a device without a group in the plan
ungrouped : (image : List ℕ) (plan : Plan) (d : Core) → plan.group ≡ None → (facts_of image plan d).Grouped
ungrouped image plan d none = inl none

answers_play : (image : List ℕ) (id : ℕ) (server : ServerState) (dev : ℕ) (cs : List Command) (old : Option Stage) (sent : List SentPayload) (uplinks : List NumberedUplink) (d : DeviceState)
    (stage : Stage) → server.image ≡ image → numbered server.stages dev ≡ old → (dev ≡ id → AllByRecursion (IsTrue (facts_of image server.plan (core_of d)) image server.plan.index) cs)
    → Playing image server.plan id server.stages sent uplinks d stage
    → (now : Stage) × Playing image (with_answers server dev cs old).plan id (with_answers server dev cs old).stages sent uplinks d now
answers_play image id server dev cs None sent uplinks d stage is there told k = (stage, k)
answers_play image id server dev cs (Some old) sent uplinks d stage is there told k =
    let new : Stage = stage_after_all server.plan server.image old cs in
    ⊎_elim
    (λ here.
    let same : old ≡ stage = (let e : Some old ≡ Some stage = sym there ∙ subst (λ (i : ℕ). numbered server.stages i ≡ Some stage) (sym here.0) k.there in cc) in
    let up = ranks_up server.plan server.image old cs in
    let backed : Backs (facts_of image server.plan (core_of d)) server.plan (stage_after_all server.plan image old cs) =
    all_backed (facts_of image server.plan (core_of d)) server.plan image old cs (ungrouped image server.plan (core_of d))
    (subst (λ (x : Stage). IsRunning image d.slots → 6 ≤ rank x) (sym same) k.late)
    (subst (λ (x : Stage). Backs (facts_of image server.plan (core_of d)) server.plan x) (sym same) k.backs) (told here.0) in (
      new,
      staged image server.plan id server.stages (slice_set server.stages (dev - 1) new) sent uplinks d stage new (subst (λ (x : Stage). rank x ≤ rank new) same up) here.1
          (subst (λ (i : List ℕ). Backs (facts_of image server.plan (core_of d)) server.plan (stage_after_all server.plan i old cs)) (sym is) backed) k,
    ))
    (λ other.
    (stage, staged image server.plan id server.stages (slice_set server.stages (dev - 1) new) sent uplinks d stage stage (omega arith) (other.1 ∙ k.there) k.backs k))
    (put_cases server.stages dev id old new (number_first server.stages dev old there) there)

timely_for : (image : List ℕ) (plan : Plan) (dev id : ℕ) (d : Core) (stage : Stage) (o : Option Command) → IfSome o (λ y. port_of y ≡ 202)
    → IfSome (by_unicast o) (λ x. IsFor image plan id d stage (record { receiver = Some dev; down = downlink_of x }))
timely_for image plan dev id d stage None port = tt
timely_for image plan dev id d stage (Some x) port = λ may. inl port

read_plays : (image : List ℕ) (id : ℕ) (w : WorldState) (made : NumberedUplink) (r : Reading) → w.server.image ≡ image → reading_of made.uplink.port Upward made.uplink.payload ≡ r
    → ((d : DeviceState) (stage : Stage) → Playing image w.server.plan id w.server.stages w.sent w.uplinks d stage → IsFrom image w.server.plan id (core_of d) made)
    → Plays image id w → Plays image id (at_events (after_answer w made.device (read_uplink w.server made.device w.time r)))
unfolding read_uplink
read_plays image id w made (Err refusal) is read from k = k
read_plays image id w made (Ok cs) is read from k =
    sends_play image id (record w { server = with_answers w.server made.device cs (ledger w.server made.device) })
    (with_answers w.server made.device cs (ledger w.server made.device)) (Some made.device) (by_unicast (time_answer w.time cs))
    (record { image = refl; plan = refl; stages = refl })
    (λ d stage here now. timely_for image (with_answers w.server made.device cs (ledger w.server made.device)).plan made.device id (core_of d) stage (time_answer w.time cs) (time_port w.time cs))
    moved
  where
    server : ServerState
    server = with_answers w.server made.device cs (ledger w.server made.device)

    moved : Plays image id (record w { server = with_answers w.server made.device cs (ledger w.server made.device) })
    moved d there fits =
        let now = k d there (subst (λ (p : Plan). Fits image p d.config) (answers_plan w.server made.device cs (ledger w.server made.device)) fits) in
        answers_play image id w.server made.device cs (ledger w.server made.device) w.sent w.uplinks d now.0 is refl (λ same. from d now.0 now.1 same cs read) now.1

pub up_plays : (image : List ℕ) (id : ℕ) (w : WorldState) (number : ℕ) (o : Option NumberedUplink) → numbered w.uplinks number ≡ o → w.server.image ≡ image
    → Plays image id w → Plays image id (at_events (after_up w o))
unfolding uplink_step
up_plays image id w number None there is k = k
up_plays image id w number (Some made) there is k =
    read_plays image id w made (reading_of made.uplink.port Upward made.uplink.payload) is refl
    (λ d stage now. all_numbered (IsFrom image w.server.plan id (core_of d)) w.uplinks number made now.uplinks there) k
