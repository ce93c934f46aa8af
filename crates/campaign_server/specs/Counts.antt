-- The frame counts of the group that a server sends with, over any run of its calls (TS005-1.0.0: a count is used once).
use Rattle.std.specs.Prelude.{◌≡◌, ℕ, ◌<◌, ◌≤◌, List, [], ◌∷◌, ◌++◌, length, All, Option, Some, None, Result, Ok, Err}
use Rattle.std.specs.List.{range_with_len, AllPairs}
use Rattle.package_grammar.specs.declared.downlink.To.{To}
use Rattle.package_grammar.specs.declared.downlink.To.TheVariants as to
use Rattle.campaign_server.specs.declared.plan.PlanGroup.{PlanGroup}
use Rattle.campaign_server.specs.declared.fragments.Spent.{Spent}
use Rattle.campaign_server.specs.Plan.{Plan}
use Rattle.campaign_server.specs.Server.{ServerState, DownlinkCommand, first_server, first_count}
use Rattle.campaign_server.specs.Fragments.{next_fragment, after_fragment, status_to_all, after_status_to_all}
use Rattle.campaign_server.specs.Uplinks.{uplink_step}

-- the calls that change a server: the next fragment, a status request to all, and an uplink of a device
pub data Call : Type 0 where
  NextFragment : Call
  StatusAll : Call
  Uplink : (dev port : ℕ) → (payload : List ℕ) → (t : ℕ) → Call

-- the server after a call, whatever it answers
abbrev pub after_call : ServerState → Call → ServerState
after_call server NextFragment = after_fragment server
after_call server StatusAll = after_status_to_all server
after_call server (Uplink dev port payload t) = (uplink_step server dev port payload t).server

-- ---- counts

-- the count that a payload is sent with: that of the group's frame, and none by unicast
abbrev pub counts_to : To → List ℕ
counts_to to.Unicast = []
counts_to (to.Group addr count) = count ∷ []

-- the frame counts of the group with which a fragment goes out, one or none
abbrev pub counts_of_sent : Result DownlinkCommand Spent → List ℕ
counts_of_sent (Ok down) = counts_to down.to
counts_of_sent (Err spent) = []

abbrev pub counts_of_status : Option DownlinkCommand → List ℕ
counts_of_status (Some down) = counts_to down.to
counts_of_status None = []

-- the counts of what one call sends to all: an uplink is answered by unicast
abbrev pub counts_of : ServerState → Call → List ℕ
counts_of server NextFragment = counts_of_sent (next_fragment server)
counts_of server StatusAll = counts_of_status (status_to_all server)
counts_of server (Uplink dev port payload t) = []

-- those of one call after another, in order
abbrev pub counts_sent : ServerState → List Call → List ℕ
counts_sent server [] = []
counts_sent server (call ∷ calls) = counts_of server call ++ counts_sent (after_call server call) calls

-- of any run of calls from a new server
pub record CountsOnce : Type 0 where
  -- the counts are MIN, MIN + 1 and so on, without a gap
  pub in_order : (image : List ℕ) (plan : Plan) (calls : List Call)
      → let counts = counts_sent (first_server image plan) calls in
      counts ≡ range_with_len (first_count plan.group) (length counts)
  -- so each is below all later ones, and none is sent twice
  pub once : (image : List ℕ) (plan : Plan) (calls : List Call)
      → AllPairs (λ earlier later. earlier < later) (counts_sent (first_server image plan) calls)
  -- and below the group's MAX
  pub below : (image : List ℕ) (plan : Plan) (group : PlanGroup) (calls : List Call) → plan.group ≡ Some group
      → group.min ≤ group.max → All (λ count. count < group.max) (counts_sent (first_server image plan) calls)
