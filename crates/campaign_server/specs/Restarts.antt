-- A server that ends and is restored, between any two of its calls.
use Rattle.std.specs.Prelude.{◌≡◌, ℕ, ◌^◌, ◌<◌, List, [], ◌∷◌, length, Option, Some, None, Result}
use Rattle.wire_base.specs.declared.refusal.Refusal.{Refusal}
use Rattle.campaign_server.specs.declared.plan.PlanGroup.{PlanGroup}
use Rattle.campaign_server.specs.declared.fragments.Spent.{Spent}
use Rattle.campaign_server.specs.Plan.{Plan, bad_field}
use Rattle.campaign_server.specs.Server.{ServerState, DownlinkCommand, first_server}
use Rattle.campaign_server.specs.Fragments.{next_fragment, status_to_all}
use Rattle.campaign_server.specs.Uplinks.{uplink_step}
use Rattle.campaign_server.specs.Counts.{Call, NextFragment, StatusAll, Uplink, after_call}
use Rattle.campaign_server.specs.Saving.{saved_of, IsOver}

-- ---- without an end

-- what a call answers: the payload, or that there is none
pub data Told : Type 0 where
  Fragment : Result DownlinkCommand Spent → Told
  ToAll : Option DownlinkCommand → Told
  Answer : Result (Option DownlinkCommand) Refusal → Told

-- what a call answers
abbrev pub told_by : ServerState → Call → Told
told_by server NextFragment = Fragment (next_fragment server)
told_by server StatusAll = ToAll (status_to_all server)
told_by server (Uplink dev port payload t) = Answer (uplink_step server dev port payload t).answer

-- those of one call after another, and the server after them
abbrev pub all_told : ServerState → List Call → List Told
all_told server [] = []
all_told server (call ∷ calls) = told_by server call ∷ all_told (after_call server call) calls

abbrev pub after_calls : ServerState → List Call → ServerState
after_calls server [] = server
after_calls server (call ∷ calls) = after_calls (after_call server call) calls

-- ---- with them

-- a call, or the server ends and another is restored from the bytes that it saved
pub data Step : Type 0 where
  Calls : Call → Step
  Restarts : Step

-- the calls of a list, its restarts left out
abbrev pub calls_of : List Step → List Call
calls_of [] = []
calls_of (Calls call ∷ steps) = call ∷ calls_of steps
calls_of (Restarts ∷ steps) = calls_of steps

-- any record that has the saved bytes, as `restore` promises no more
abbrev pub IsRestored : (server again : ServerState) → Type 0
IsRestored server again = IsOver server.plan server.image again × (saved_of again ≡ saved_of server)

-- what the steps answer, and the server after them
abbrev pub Leads : ServerState → List Step → List Told → ServerState → Type 0
Leads server [] told last = (told ≡ []) × (last ≡ server)
Leads server (Calls call ∷ steps) told last =
    (rest : List Told) × (told ≡ told_by server call ∷ rest) × Leads (after_call server call) steps rest last
Leads server (Restarts ∷ steps) told last =
    (again : ServerState) × IsRestored server again × Leads again steps told last

-- the group's MAX is a number of four bytes
abbrev pub HasWidth : Option PlanGroup → Type 0
HasWidth None = Unit {0}
HasWidth (Some group) = group.max < 2 ^ 32

pub record LastsThroughRestarts : Type 0 where
  -- no two records of one plan and image have the same bytes
  pub apart : (plan : Plan) (image : List ℕ) (a b : ServerState) → IsOver plan image a → IsOver plan image b
      → saved_of a ≡ saved_of b → a ≡ b
  -- from a new server on, restarts change neither what the calls answer nor the server after them
  pub same : (plan : Plan) (image : List ℕ) (steps : List Step) (told : List Told) (last : ServerState)
      → bad_field (length image) plan ≡ None → HasWidth plan.group → Leads (first_server image plan) steps told last
      → let calls = calls_of steps in
      (told ≡ all_told (first_server image plan) calls) × (last ≡ after_calls (first_server image plan) calls)
  -- and of the server after any calls the bytes are those of a server that can be restored
  pub restorable : (plan : Plan) (image : List ℕ) (calls : List Call)
      → bad_field (length image) plan ≡ None → HasWidth plan.group
      → IsOver plan image (after_calls (first_server image plan) calls)
