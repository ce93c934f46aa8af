-- What makes a stage updated, and what a device reads of what the server sends.
use Rattle.std.proofs.Common.{◌≡◌, ◌⊎◌, inl, inr, ⊎_elim, ℕ, ◌/◌, ◌^◌, ◌<◌, Bool, true, false, cond, ◌==◌, List, [], ◌∷◌, length, All, Option, None, Some, IfSome, is_some, Result, Ok, Err, refl, sym, ap, ◌∙◌, subst, arith, eqb-true}
use Rattle.std.specs.List.{AllByRecursion}
use Rattle.std.specs.Result.{result_ok}
use Rattle.wire_base.specs.declared.refusal.Direction.TheVariants.{Down as Downward}
use Rattle.wire_base.specs.Rows.{IsListed}
use Rattle.frag_encoder.specs.Encoding.{data_of}
use Rattle.image_slots.specs.Image.{firmware_of, is_for}
use Rattle.cast_wire.specs.declared.cmd.Cmd.{Cmd as CastCmd}
use Rattle.cast_wire.specs.declared.cmd.Cmd.TheVariants as c
use Rattle.sync_wire.specs.declared.cmd.Cmd.{Cmd as SyncCmd}
use Rattle.sync_wire.specs.declared.cmd.Cmd.TheVariants as s
use Rattle.package_grammar.specs.declared.command.Command.{Command}
use Rattle.package_grammar.specs.declared.command.Command.TheVariants.{Sync, Cast}
use Rattle.package_grammar.specs.Grammar.{row, canonical, SpellsTo, IsReading, IsValid}
use Rattle.package_grammar.specs.Reading.{Reading, reading_of}
use Rattle.package_grammar.proofs.Written.{message_of}
use Rattle.package_grammar.proofs.ReadingLaw.{reads, read_as}
use Rattle.campaign_server.specs.declared.plan.Kind.{Kind}
use Rattle.campaign_server.specs.declared.plan.Kind.TheVariants as kind
use Rattle.campaign_server.specs.declared.plan.PlanGroup.{PlanGroup}
use Rattle.campaign_server.specs.declared.plan.PlanWindow.{PlanWindow}
use Rattle.campaign_server.specs.declared.plan.PlanDevice.{PlanDevice}
use Rattle.campaign_server.specs.declared.stage.Stage.{Stage}
use Rattle.campaign_server.specs.declared.stage.Stage.TheVariants as stage
use Rattle.campaign_server.specs.declared.stage.Stage.TheVariants.{Updated, Refused}
use Rattle.campaign_server.specs.declared.stage.Request.{Request}
use Rattle.campaign_server.specs.declared.stage.Request.TheVariants as request
use Rattle.campaign_server.specs.Plan.{Plan, own_id}
use Rattle.campaign_server.specs.Server.{ServerState, DownlinkCommand, port_of, ledger}
use Rattle.wire_base.specs.Numbers.{flag_value}
use Rattle.cast_wire.specs.SetupRefusal.{refusal_bits}
use Rattle.wire_base.specs.Numbered.{numbered}
use Rattle.clock_sync.specs.Clock.{correction_of, is_answer_needed}
use Rattle.package_grammar.specs.declared.downlink.To.{To}
use Rattle.campaign_server.specs.declared.fragments.Spent.{Spent}
use Rattle.campaign_server.specs.declared.fragments.Spent.TheVariants.{Fragments, Counts}
use Rattle.campaign_server.specs.Asking.{group_request, window_request_of, window_request, cast_of, request_at, command_for, by_unicast, request_of}
use Rattle.campaign_server.specs.Fragments.{receivers, has_no_count, next_fragment, status_to_all}
use Rattle.campaign_server.specs.Time.{time_answer_to, first_answer, time_answer}
use Rattle.campaign_server.specs.Answers.{unless_refused, where_own, window_bits, after_window, is_class_c, is_class_b, stage_after, stage_after_all}
use Rattle.campaign_laws.proofs.HeadlineCommands.{Cut, IsSentOf, IsCut, IsGood, setup_good, fragment_good, status_good, good_read, sync_high}
use Rattle.campaign_laws.proofs.LedgerDevices.{IsCalmCast, IsCalm, IsOneOf, IsAskedOfFirmware, ComesOn, ReadsAs}
use Rattle.campaign_laws.proofs.LedgerSlots.{Tells}

-- ---- a stage becomes updated

not_either : (b : Bool) (x y : Stage) → (x ≡ Updated → ⊥) → (y ≡ Updated → ⊥) → cond b x y ≡ Updated → ⊥
not_either true x y f g is = f is
not_either false x y f g is = g is

not_at : (r : Request) → stage.At r ≡ Updated → ⊥
not_at r is = cc

not_refused : (r : Request) (bits : ℕ) → Refused r bits ≡ Updated → ⊥
not_refused r bits is = cc

unless_not : (r : Request) (bits : ℕ) (x : Stage) → (x ≡ Updated → ⊥) → unless_refused r bits x ≡ Updated → ⊥
unless_not r bits x f is = not_either (bits == 0) x (Refused r bits) f (not_refused r bits) is

own_not : (own told : ℕ) (r : Request) (x : Stage) → (x ≡ Updated → ⊥) → where_own own told r x ≡ Updated → ⊥
own_not own told r x f is = not_either (told == own) x (stage.At r) f (not_at r) is

asked_not : (own told bits : ℕ) (r next : Request)
    → where_own own told r (unless_refused r bits (stage.At next)) ≡ Updated → ⊥
asked_not own told bits r next is =
    own_not own told r (unless_refused r bits (stage.At next)) (unless_not r bits (stage.At next) (not_at next)) is

window_not : (plan : Plan) (own : Bool) (id bits : ℕ) → after_window plan own id bits ≡ Updated → ⊥
window_not plan true id bits is = asked_not (own_id plan.group) id bits request.Window request.Status is
window_not plan false id bits is = not_at request.Window is

-- the answer that tells the image's version
abbrev IsVersionOf : List ℕ → Command → Type 0
IsVersionOf image x = (hardware : ℕ) × (x ≡ Sync (s.DevVersionAns (firmware_of image) hardware))

checked_by : (image : List ℕ) (firmware hardware : ℕ) (b : Bool) → (firmware == firmware_of image) ≡ b
    → cond b Updated (stage.At request.Check) ≡ Updated → IsVersionOf image (Sync (s.DevVersionAns firmware hardware))
checked_by image firmware hardware true same is =
    let e : firmware ≡ firmware_of image = eqb-true _ _ same in
    (hardware, ap (λ (v : ℕ). let x : Command = Sync (s.DevVersionAns v hardware) in x) e)
checked_by image firmware hardware false same is = absurd cc

-- only the answer to the check, and only with the image's version
moves_to_updated : (plan : Plan) (image : List ℕ) (old : Stage) (x : Command) → stage_after plan image old x ≡ Updated
    → (old ≡ Updated) ⊎ IsVersionOf image x
unfolding stage_after
moves_to_updated plan image (stage.At request.Version) (Sync (s.DevVersionAns firmware hardware)) is =
    absurd (unless_not request.Version (cond (is_for image hardware) 0 1)
    (stage.At (cond (is_some plan.group) request.Group request.Fragments)) (not_at _) is)
moves_to_updated plan image (stage.At request.Group) (Cast (c.McGroupSetupAns id error)) is =
    absurd (asked_not (own_id plan.group) id (flag_value error 4) request.Group request.Fragments is)
moves_to_updated plan image (stage.At request.Fragments) (Cast (c.FragSessionSetupAns index descriptor unsupported memory encoding)) is =
    absurd (asked_not plan.index index (refusal_bits descriptor unsupported memory encoding)
    request.Fragments (cond (is_some plan.group) request.Window request.Status) is)
moves_to_updated plan image (stage.At request.Window) (Cast (c.McClassCSessionAns id undefined freq dr start)) is =
    absurd (window_not plan (is_class_c plan.window) id (window_bits undefined freq dr) is)
moves_to_updated plan image (stage.At request.Window) (Cast (c.McClassBSessionAns id undefined freq dr start)) is =
    absurd (window_not plan (is_class_b plan.window) id (window_bits undefined freq dr) is)
moves_to_updated plan image (stage.At request.Status) (Cast (c.FragSessionStatusAns index received missing norows)) is =
    absurd (asked_not plan.index index (flag_value norows 1) request.Status (cond (missing == 0) request.Image request.Status) is)
moves_to_updated plan image (stage.At request.Image) (Sync (s.DevUpgradeImageAns status None)) is =
    absurd (unless_not request.Image status (stage.At request.Image) (not_at _) is)
moves_to_updated plan image (stage.At request.Image) (Sync (s.DevUpgradeImageAns status (Some version))) is =
    absurd (not_either (version == firmware_of image) (stage.At request.Reboot) (Refused request.Image status) (not_at _) (not_refused _ _) is)
moves_to_updated plan image (stage.At request.Reboot) (Sync (s.DevRebootCountdownAns count)) is = absurd (not_at request.Check is)
moves_to_updated plan image (stage.At request.Check) (Sync (s.DevVersionAns firmware hardware)) is =
    inr (checked_by image firmware hardware (firmware == firmware_of image) refl is)
moves_to_updated plan image old x is = inl is

-- of several commands one tells it
pub updated_by : (plan : Plan) (image : List ℕ) (R : Type 0) (cs : List Command) (old : Stage)
    → AllByRecursion (Tells image R) cs
    → stage_after_all plan image old cs ≡ Updated → (old ≡ Updated) ⊎ R
unfolding stage_after_all
updated_by plan image R [] old told is = inl is
updated_by plan image R (x ∷ cs) old told is =
    ⊎_elim (λ here. ⊎_elim (λ was. inl was) (λ version. inr (told.0 version.0 version.1))
    (moves_to_updated plan image old x here))
    (λ r. inr r) (updated_by plan image R cs (stage_after plan image old x) told.1 is)

-- ---- what the server sends of firmware management

-- a command that is one of these where its port is 203
abbrev pub IsOwn : DownlinkCommand → Type 0
IsOwn down = port_of down.command ≡ 203 → IsAskedOfFirmware down.command

group_own : (device : PlanDevice) (group : Option PlanGroup)
    → IfSome (by_unicast (cast_of (λ g. group_request device g) group)) IsOwn
group_own device None = tt
group_own device (Some group) = λ port. absurd (omega (arith, port))

window_of_own : (id : ℕ) (window : PlanWindow) (k : Kind) → port_of (Cast (window_request_of id window k)) ≡ 203 → ⊥
window_of_own id window kind.C port = omega (arith, port)
window_of_own id window (kind.B periodicity) port = omega (arith, port)

window_own : (id : ℕ) (window : Option PlanWindow)
    → IfSome (by_unicast (cast_of (λ w. window_request id w) window)) IsOwn
window_own id None = tt
window_own id (Some window) = λ port. absurd (window_of_own id window window.kind port)

request_own : (plan : Plan) (image : List ℕ) (device : PlanDevice) (old : Stage)
    → IfSome (by_unicast (request_at plan image device old)) IsOwn
unfolding request_at
request_own plan image device (stage.At request.Version) = λ port. inl refl
request_own plan image device (stage.At request.Group) = group_own device plan.group
request_own plan image device (stage.At request.Fragments) = λ port. absurd (omega (arith, port))
request_own plan image device (stage.At request.Window) = window_own (own_id plan.group) plan.window
request_own plan image device (stage.At request.Status) = λ port. absurd (omega (arith, port))
request_own plan image device (stage.At request.Image) = λ port. inr (inl refl)
request_own plan image device (stage.At request.Reboot) = λ port. inr (inr refl)
request_own plan image device (stage.At request.Check) = λ port. inl refl
request_own plan image device Updated = tt
request_own plan image device (Refused r bits) = tt

command_own : (plan : Plan) (image : List ℕ) (device : Option PlanDevice) (old : Option Stage)
    → IfSome (by_unicast (command_for plan image device old)) IsOwn
command_own plan image (Some device) (Some old) = request_own plan image device old
command_own plan image (Some device) None = tt
command_own plan image None (Some old) = tt
command_own plan image None None = tt

pub ask_own : (server : ServerState) (dev : ℕ) → IfSome (request_of server dev) IsOwn
unfolding request_of
ask_own server dev = command_own server.plan server.image (numbered server.plan.devices dev) (ledger server dev)

counted_own : (b : Bool) (down : DownlinkCommand) → IsOwn down
    → IfSome (result_ok (cond {A = Result DownlinkCommand Spent} b (Err Counts) (Ok down))) IsOwn
counted_own true down k = tt
counted_own false down k = k

next_own : (server : ServerState) (b : Bool)
    → IfSome (result_ok (cond {A = Result DownlinkCommand Spent} b (Err Fragments)
    (cond {A = Result DownlinkCommand Spent} (has_no_count server.plan.group server.count) (Err Counts)
    (Ok (record {
      to = receivers server.plan.group server.count;
      command = Cast
          (c.DataFragment server.plan.index server.next (data_of server.image server.plan.frag_size server.next));
    })))))
    IsOwn
next_own server true = tt
next_own server false =
    counted_own (has_no_count server.plan.group server.count) _ (λ port. absurd (omega (arith, port)))

pub fragment_own : (server : ServerState) → IfSome (result_ok (next_fragment server)) IsOwn
unfolding next_fragment
fragment_own server = next_own server _

all_own : (b : Bool) (to : To) (index : ℕ)
    → IfSome (cond b None (Some (record { to = to; command = Cast (c.FragSessionStatusReq index false) }))) IsOwn
all_own true to index = tt
all_own false to index = λ port. absurd (omega (arith, port))

pub status_own : (server : ServerState) → IfSome (status_to_all server) IsOwn
unfolding status_to_all
status_own server = all_own (has_no_count server.plan.group server.count) _ server.plan.index

-- an answer with the time
abbrev IsTime : Command → Type 0
IsTime x = (port_of x ≡ 203 → ⊥)

time_by : (b : Bool) (x : Command) → IsTime x → IfSome (cond b (Some x) None) IsTime
time_by true x k = k
time_by false x k = tt

time_to : (t : ℕ) (x : Command) → IfSome (time_answer_to t x) IsTime
time_to t (Sync (s.AppTimeReq time required token)) =
    time_by (is_answer_needed required (correction_of (t / 1000) time))
    (Sync (s.AppTimeAns (correction_of (t / 1000) time) token)) (λ port. omega (arith, port))
time_to t x = tt

first_time : (one later : Option Command) → IfSome one IsTime → IfSome later IsTime
    → IfSome (first_answer one later) IsTime
first_time None later k l = l
first_time (Some x) later k l = k

times : (t : ℕ) (cs : List Command) → IfSome (time_answer t cs) IsTime
unfolding time_answer
times t [] = tt
times t (x ∷ cs) = first_time (time_answer_to t x) (time_answer t cs) (time_to t x) (times t cs)

unicast_own : (x : Option Command) → IfSome x IsTime → IfSome (by_unicast x) IsOwn
unicast_own None k = tt
unicast_own (Some x) k = λ port. absurd (k port)

pub time_own : (t : ℕ) (cs : List Command) → IfSome (by_unicast (time_answer t cs)) IsOwn
time_own t cs = unicast_own (time_answer t cs) (times t cs)

-- ---- what a device reads of it

calm_cast : (cmd : CastCmd) (port : ℕ) → IsListed (row (Cast cmd)) port Downward → (port ≡ 201 → ⊥) → IsCalmCast cmd
calm_cast (c.FragSessionSetupReq index mask nb_frag frag_size algo delay padding descriptor) port listed far =
    far listed.port_is
calm_cast (c.FragSessionDeleteReq index) port listed far = far listed.port_is
calm_cast (c.DataFragment index n part) port listed far = far listed.port_is
calm_cast cmd port listed far = tt

calm : (x : Command) (port : ℕ) → IsListed (row x) port Downward → (port ≡ 201 → ⊥) → IsCalm x
calm (Sync cmd) port listed far = tt
calm (Cast cmd) port listed far = calm_cast cmd port listed far

far_read : (image : List ℕ) (cut : Cut) (cs : List Command) (port : ℕ) (bytes : List ℕ) (from end : ℕ)
    → (port ≡ 201 → ⊥) → (port ≡ 203 → ⊥) → SpellsTo cs port Downward bytes from end
    → AllByRecursion (ComesOn image cut port) cs
far_read image cut [] port bytes from end far other all = tt
far_read image cut (x ∷ cs) port bytes from end far other all = (
  (inr (inr (calm x port all.1.listed far)), λ is. absurd (other is)),
  far_read image cut cs port bytes all.0 end far other all.2,
)

far_reads : (image : List ℕ) (cut : Cut) (port : ℕ) (bytes : List ℕ) (r : Reading) → (port ≡ 201 → ⊥)
    → (port ≡ 203 → ⊥) → IsReading port Downward bytes r → ReadsAs image cut port r
far_reads image cut port bytes (Ok cs) far other message =
    far_read image cut cs port bytes 0 (length bytes) far other message.all
far_reads image cut port bytes (Err refusal) far other stop = tt

good_reads : (image : List ℕ) (cut : Cut) (x : Command) → IsGood x → IsOneOf image cut x
    → ReadsAs image cut (port_of x) (reading_of (port_of x) Downward (canonical x))
good_reads image cut x good one =
    rw (good.port, good_read x good) ((one, λ port. absurd (omega (arith, port))), tt)

firmware_reads : (image : List ℕ) (cut : Cut) (cmd : SyncCmd) → IsValid (Sync cmd)
    → IsListed (row (Sync cmd)) 203 Downward → port_of (Sync cmd) ≡ 203 → IsAskedOfFirmware (Sync cmd)
    → ReadsAs image cut (port_of (Sync cmd)) (reading_of (port_of (Sync cmd)) Downward (canonical (Sync cmd)))
firmware_reads image cut cmd valid listed port asked =
    let read = read_as 203 Downward (canonical (Sync cmd)) (Ok (Sync cmd ∷ []))
    (message_of (Sync cmd) 203 Downward valid listed) in
    rw (port, read) ((inr (inr tt), λ same. asked), tt)

pub asked_reads : (image : List ℕ) (cut : Cut) (x : Command) → IsAskedOfFirmware x
    → ReadsAs image cut (port_of x) (reading_of (port_of x) Downward (canonical x))
asked_reads image cut x (inl is) = rw is (firmware_reads image cut s.DevVersionReq
    (record { fields = tt; whole = tt }) (record { port_is = refl; direction_is = refl }) refl (inl refl))
asked_reads image cut x (inr (inl is)) = rw is (firmware_reads image cut s.DevUpgradeImageReq
    (record { fields = tt; whole = tt }) (record { port_is = refl; direction_is = refl }) refl (inr (inl refl)))
asked_reads image cut x (inr (inr is)) = rw is (firmware_reads image cut (s.DevRebootCountdownReq 0)
    (record { fields = (omega arith, tt); whole = tt }) (record { port_is = refl; direction_is = refl }) refl
    (inr (inr refl)))

far_by : (image : List ℕ) (cut : Cut) (x : Command) (b : Bool) → (port_of x == 203) ≡ b → (port_of x ≡ 201 → ⊥)
    → (port_of x ≡ 203 → IsAskedOfFirmware x)
    → ReadsAs image cut (port_of x) (reading_of (port_of x) Downward (canonical x))
far_by image cut x true is far own = asked_reads image cut x (own (eqb-true _ _ is))
far_by image cut x false is far own =
    far_reads image cut (port_of x) (canonical x) (reading_of (port_of x) Downward (canonical x)) far
    (λ port. grind (arith, is, port))
    (reads (port_of x) Downward (canonical x))

pub sent_reads : (image : List ℕ) (cut : Cut) (down : DownlinkCommand) → All (λ b. b < 2 ^ 8) image → IsCut image cut
    → IsSentOf image cut down → IsOwn down
    → ReadsAs image cut (port_of down.command) (reading_of (port_of down.command) Downward (canonical down.command))
sent_reads image cut down bytes is (inl setup) own =
    good_reads image cut down.command (subst IsGood (sym setup.0) (setup_good image cut bytes is)) (inl setup.0)
sent_reads image cut down bytes is (inr (inl f)) own =
    good_reads image cut down.command (subst IsGood (sym f.2) (fragment_good image cut f.0 is f.1)) (inr (inl f))
sent_reads image cut down bytes is (inr (inr (inl o))) own =
    good_reads image cut down.command (subst IsGood (sym o.1) (status_good cut.index o.0 is.indexed))
    (inr (inr (subst IsCalm (sym o.1) tt)))
sent_reads image cut down bytes is (inr (inr (inr (inl port)))) own =
    far_by image cut down.command _ refl (λ other. omega (arith, port, other)) own
sent_reads image cut down bytes is (inr (inr (inr (inr sync)))) own =
    far_by image cut down.command _ refl (λ other. not_sync sync.0 (ap port_of (sym sync.1) ∙ other)) own
  where
    not_sync : (cmd : SyncCmd) → port_of (Sync cmd) ≡ 201 → ⊥
    not_sync cmd port = omega (arith, port, sync_high cmd)
