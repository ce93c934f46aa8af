-- What the calls of a server write for C.
use Rattle.std.specs.Prelude.{◌≡◌, ◌&&◌, ℕ, ◌+◌, Bool, true, false, nat_le, List, length, take, Option, Some, None, option_map, Result, Ok, Err}
use Rattle.wire_base.specs.declared.refusal.Refusal.{Refusal}
use Rattle.wire_base.specs.Payload.{max_payload}
use Rattle.package_grammar.specs.declared.downlink.To.{To}
use Rattle.package_grammar.specs.declared.downlink.To.TheVariants.{Unicast, Group}
use Rattle.package_grammar.specs.declared.downlink.Downlink.{Downlink}
use Rattle.campaign_server.specs.declared.fragments.Spent.{Spent}
use Rattle.campaign_server.specs.declared.fragments.Spent.TheVariants.{Fragments, Counts}
use Rattle.campaign_server.specs.declared.stage.Request.{Request}
use Rattle.campaign_server.specs.declared.stage.LastStatus.{LastStatus}
use Rattle.campaign_server.specs.declared.stage.Stage.{Stage}
use Rattle.campaign_server.specs.declared.stage.Stage.TheVariants.{At, Updated, Refused}
use Rattle.campaign_server.specs.Server.{ServerState, ledger, last_status}
use Rattle.campaign_server.specs.Asking.{request_rank, request_of}
use Rattle.campaign_server.specs.Fragments.{next_fragment, after_fragment, status_to_all, after_status_to_all}
use Rattle.campaign_server.specs.Framing.{has_frame, frame_for}
use Rattle.campaign_server.specs.Uplinks.{UplinkStep}
use Rattle.campaign_server.specs.Sent.{down_of, result_of, answer_of}
use Rattle.c_base.specs.Answer.{done, nothing, range, refused, spent}
use Rattle.c_base.specs.Bytes.{IsPut, Whole}
use Rattle.fuota_server_c.specs.declared.sent.DownFields.{DownFields}
use Rattle.fuota_server_c.specs.declared.last_status.StatusFields.{StatusFields}
use Rattle.fuota_server_c.specs.declared.server.StageFields.{StageFields}

-- ---- a payload

abbrev pub to_of : DownFields → To
to_of fields = by fields.is_group
  where
    by : Bool → To
    by true = Group fields.addr fields.count
    by false = Unicast

-- by unicast, address and count of a group are as they were
abbrev pub StaysByUnicast : To → (old new : DownFields) → Type 0
StaysByUnicast Unicast old new = (new.addr ≡ old.addr) × (new.count ≡ old.count)
StaysByUnicast (Group addr count) old new = Unit {0}

-- it is written with whom it is for, its bytes at the front
pub record IsDownOut (down : Downlink) (old new : DownFields) : Type 0 where
  pub to : to_of new ≡ down.to
  pub unicast : StaysByUnicast down.to old new
  pub port : new.port ≡ down.port
  pub count : new.length ≡ length down.payload
  pub payload : IsPut down.payload old.payload new.payload

-- it is written where there is one
abbrev pub IsOut : Option Downlink → (none : ℕ) → (old new : DownFields) → (answer : ℕ) → Type 0
IsOut None none old new answer = (answer ≡ none) × (new ≡ old)
IsOut (Some down) none old new answer = (answer ≡ done) × IsDownOut down old new

-- ---- a payload, as its frame

abbrev pub downlink_of : DownFields → Downlink
downlink_of fields = record { to = to_of fields; port = fields.port; payload = take fields.length fields.payload }

-- it is a payload, to the plan's group, and not on port 0
abbrev pub can_frame : ServerState → DownFields → Bool
can_frame server fields = nat_le fields.length max_payload && has_frame server.plan.group (downlink_of fields)

pub record GivesFrame (x : ServerState) (fields : DownFields) (old new : List ℕ) (n : ℕ) : Type 0 where
  pub framed : can_frame x fields ≡ true → Whole (frame_for x.plan.group (downlink_of fields)) old new n
  pub none : can_frame x fields ≡ false → (n ≡ 0) × (new ≡ old)

-- ---- to all devices

abbrev pub spent_number : Spent → ℕ
spent_number Fragments = nothing
spent_number Counts = spent

abbrev pub IsFragmentOut : Result Downlink Spent → (old new : DownFields) → (answer : ℕ) → Type 0
IsFragmentOut (Ok down) old new answer = (answer ≡ done) × IsDownOut down old new
IsFragmentOut (Err why) old new answer = (answer ≡ spent_number why) × (new ≡ old)

pub record SendsFragment (x y : ServerState) (old new : DownFields) (answer : ℕ) : Type 0 where
  pub moved : y ≡ after_fragment x
  pub out : IsFragmentOut (result_of (next_fragment x)) old new answer

pub record SendsStatus (x y : ServerState) (old new : DownFields) (answer : ℕ) : Type 0 where
  pub moved : y ≡ after_status_to_all x
  pub out : IsOut (down_of (status_to_all x)) spent old new answer

-- ---- one device

-- devices are numbered from 1
abbrev pub has_device : ServerState → (dev : ℕ) → Bool
has_device server dev = nat_le 1 dev && nat_le dev (length server.plan.devices)

-- a device that the plan does not have changes nothing
pub record Asks (x : ServerState) (dev : ℕ) (old new : DownFields) (answer : ℕ) : Type 0 where
  pub out : has_device x dev ≡ true → IsOut (down_of (request_of x dev)) nothing old new answer
  pub beyond : has_device x dev ≡ false → (answer ≡ range) × (new ≡ old)

abbrev pub IsUplinkAnswer : Result (Option Downlink) Refusal → (old new : DownFields) → (answer : ℕ) → Type 0
IsUplinkAnswer (Ok down) old new answer = IsOut down nothing old new answer
IsUplinkAnswer (Err refusal) old new answer = (answer ≡ refused) × (new ≡ old)

-- an uplink that a radio can bring, of a device of the plan, is taken; any other changes nothing
abbrev pub can_take : ServerState → (dev : ℕ) → (payload : List ℕ) → Bool
can_take server dev payload = has_device server dev && nat_le (length payload) max_payload

pub record TakesUplink (x y : ServerState) (dev : ℕ) (payload : List ℕ) (step : UplinkStep) (old new : DownFields)
    (answer : ℕ) : Type 0 where
  pub moved : can_take x dev payload ≡ true → y ≡ step.server
  pub out : can_take x dev payload ≡ true → IsUplinkAnswer (answer_of step.answer) old new answer
  pub beyond : can_take x dev payload ≡ false → (answer ≡ range) × (y ≡ x) × (new ≡ old)

-- ---- the ledger

-- the number of a request in the header, where 0 is none
abbrev pub request_number : Request → ℕ
request_number r = request_rank r + 1

abbrev pub fields_of : Stage → StageFields
fields_of (At r) = record { stage = 0; request = request_number r; bits = 0 }
fields_of Updated = record { stage = 1; request = 0; bits = 0 }
fields_of (Refused r bits) = record { stage = 2; request = request_number r; bits = bits }

pub record TellsStage (x : ServerState) (dev : ℕ) (old new : StageFields) (answer : ℕ) : Type 0 where
  pub told : has_device x dev ≡ true → (answer ≡ done) × (Some new ≡ option_map fields_of (ledger x dev))
  pub beyond : has_device x dev ≡ false → (answer ≡ range) × (new ≡ old)

-- ---- the last status

abbrev pub status_fields : LastStatus → StatusFields
status_fields told = record { received = told.received; missing = told.missing; norows = told.norows }

-- it is written where there is one
abbrev pub IsStatusOut : Option LastStatus → (old new : StatusFields) → (answer : ℕ) → Type 0
IsStatusOut None old new answer = (answer ≡ nothing) × (new ≡ old)
IsStatusOut (Some told) old new answer = (answer ≡ done) × (new ≡ status_fields told)

pub record TellsStatus (x : ServerState) (dev : ℕ) (old new : StatusFields) (answer : ℕ) : Type 0 where
  pub told : has_device x dev ≡ true → (status : Option LastStatus) → last_status x dev ≡ Some status
      → IsStatusOut status old new answer
  pub beyond : has_device x dev ≡ false → (answer ≡ range) × (new ≡ old)
