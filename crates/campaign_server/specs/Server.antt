-- A server of a campaign: what it is at a moment, and at its start (this project's profile).
use Rattle.std.specs.Prelude.{◌≡◌, ℕ, ◌≤◌, List, length, replicate, slice_index_or, Option, Some, None}
use Rattle.wire_base.specs.Numbered.{numbered}
use Rattle.package_grammar.specs.declared.command.Command.{Command}
use Rattle.package_grammar.specs.declared.downlink.To.{To}
use Rattle.package_grammar.specs.declared.downlink.Downlink.{Downlink}
use Rattle.package_grammar.specs.Grammar.{row, canonical}
use Rattle.campaign_server.specs.declared.plan.PlanGroup.{PlanGroup}
use Rattle.campaign_server.specs.declared.stage.LastStatus.{LastStatus}
use Rattle.campaign_server.specs.declared.stage.Stage.{Stage}
use Rattle.campaign_server.specs.declared.stage.Stage.TheVariants.{At}
use Rattle.campaign_server.specs.declared.stage.Request.TheVariants.{Version}
use Rattle.campaign_server.specs.Plan.{Plan}

-- its plan and image; the stage of each device, and what it said last of its session; the number of the fragment that is sent
-- next, and the group's next frame count
pub record ServerState : Type 0 where
  pub plan : Plan
  pub image : List ℕ
  pub stages : List Stage
  pub statuses : List (Option LastStatus)
  pub next : ℕ
  pub count : ℕ

-- counts begin with the group's MIN
abbrev pub first_count : Option PlanGroup → ℕ
first_count None = 0
first_count (Some group) = group.min

-- and are from it to the group's MAX; without a group the count stays 0
abbrev pub IsCount : Option PlanGroup → (count : ℕ) → Type 0
IsCount None count = count ≡ 0
IsCount (Some group) count = (group.min ≤ count) × (count ≤ group.max)

-- at its start every device is at version, and has said nothing
abbrev pub first_server : List ℕ → Plan → ServerState
first_server image plan = record {
  plan = plan;
  image = image;
  stages = replicate (length plan.devices) (At Version);
  statuses = replicate (length plan.devices) None;
  next = 1;
  count = first_count plan.group;
}

-- the stage of a device: the ledger
abbrev pub ledger : ServerState → (dev : ℕ) → Option Stage
ledger server dev = numbered server.stages dev

-- what it said last; None where it said nothing
abbrev pub last_status : ServerState → (dev : ℕ) → Option (Option LastStatus)
last_status server dev = numbered server.statuses dev

-- ---- what it sends

-- a command on its way to devices
pub record DownlinkCommand : Type 0 where
  pub to : To
  pub command : Command

-- the one port that the tables give a command of a campaign
abbrev pub port_of : Command → ℕ
port_of command = slice_index_or (row command).ports 0 0

-- as it is sent: its bytes, with reserved bits 0
abbrev pub downlink_of : DownlinkCommand → Downlink
downlink_of down = record { to = down.to; port = port_of down.command; payload = canonical down.command }
