-- Servers of one group that has more devices than one server's plan: shards, each with its own of the devices (this project's
-- profile).
use Rattle.std.specs.Prelude.{◌≡◌, ℕ, List, [], ◌∷◌, length, Option, None}
use Rattle.campaign_server.specs.Plan.{Plan, bad_field}
use Rattle.campaign_server.specs.Server.{ServerState, first_server}
use Rattle.campaign_server.specs.Counts.{Call, NextFragment, StatusAll, Uplink}
use Rattle.campaign_server.specs.Restarts.{Told, Fragment, ToAll, Answer, all_told, after_calls, Step, calls_of, HasWidth, Leads}

-- ---- what is the same

-- a plan but for its devices
abbrev pub but_devices : Plan → Plan
but_devices plan = record plan { devices = [] }

-- a server but for its devices: their stages, and what they said last
abbrev pub for_all : ServerState → ServerState
for_all server = record server { plan = but_devices server.plan; stages = []; statuses = [] }

-- ---- what goes to all

-- of calls those that send to all
abbrev pub calls_to_all : List Call → List Call
calls_to_all [] = []
calls_to_all (NextFragment ∷ calls) = NextFragment ∷ calls_to_all calls
calls_to_all (StatusAll ∷ calls) = StatusAll ∷ calls_to_all calls
calls_to_all (Uplink dev port payload t ∷ calls) = calls_to_all calls

-- of what calls answer, the payloads to all, and that there is none
abbrev pub told_to_all : List Told → List Told
told_to_all [] = []
told_to_all (Fragment sent ∷ told) = Fragment sent ∷ told_to_all told
told_to_all (ToAll sent ∷ told) = ToAll sent ∷ told_to_all told
told_to_all (Answer sent ∷ told) = told_to_all told

-- ---- the law

pub record ShardsSendAlike : Type 0 where
  -- from any two servers that are the same but for their devices, over any calls that have the same of those to all
  pub alike : (a b : ServerState) (calls others : List Call) → for_all a ≡ for_all b → calls_to_all calls ≡ calls_to_all others
      → (told_to_all (all_told a calls) ≡ told_to_all (all_told b others))
      × (for_all (after_calls a calls) ≡ for_all (after_calls b others))
  -- and from their start, with restarts anywhere
  pub restarted : (image : List ℕ) (p q : Plan) (steps others : List Step) (told said : List Told) (last end : ServerState)
      → bad_field (length image) p ≡ None → bad_field (length image) q ≡ None → HasWidth p.group → but_devices p ≡ but_devices q
      → Leads (first_server image p) steps told last → Leads (first_server image q) others said end
      → calls_to_all (calls_of steps) ≡ calls_to_all (calls_of others)
      → (told_to_all told ≡ told_to_all said) × (for_all last ≡ for_all end)
