-- Two campaigns of one script are isolated (this project's profile): what the other sends changes only the counters of a
-- campaign's devices.
use Rattle.std.specs.Prelude.{◌≡◌, ℕ, ◌^◌, ◌<◌, List, map, All, Some, Ok}
use Rattle.std.specs.List.{AllZip}
use Rattle.wire_base.specs.Numbered.{numbered}
use Rattle.script_lines.specs.declared.forms.Campaign.{Campaign}
use Rattle.device_core.specs.declared.counts.Counts.{Counts}
use Rattle.device_core.specs.Device.{DeviceState}
use Rattle.campaign_server.specs.declared.stage.Stage.{Stage}
use Rattle.campaign_server.specs.Server.{ledger}
use Rattle.report_lines.specs.Devices.{standing_of}
use Rattle.report_lines.specs.Sessions.{same, session_lines}
use Rattle.campaign_world.specs.World.{WorldState}
use Rattle.campaign_world.specs.Said.{Line, Elsewhere, Reached}
use Rattle.campaign_world.specs.Script.{campaign_of}
use Rattle.campaign_world.specs.Report.{all_lines, lines_under}
use Rattle.pair_run.specs.Counting.{IsAlike}
use Rattle.pair_run.specs.Pair.{PairState, side}
use Rattle.pair_run.specs.PairLines.{image_of}
use Rattle.pair_run.specs.PairScript.{campaigns_of}
use Rattle.pair_laws.specs.EachCampaign.{own_lines}

-- a script of two campaigns that is accepted, over two files
pub record IsScriptOfTwo (image_a image_b : List ℕ) (lines : List (List ℕ)) (pair : PairState) : Type 0 where
  pub bytes_a : All (λ b. b < 2 ^ 8) image_a
  pub bytes_b : All (λ b. b < 2 ^ 8) image_b
  pub accepted : campaigns_of image_a image_b lines ≡ Ok pair

-- ---- the campaign alone

-- where the other campaign's payload reaches a device, the line is skipped, as all lines of the other are
abbrev pub unreached : Line → Line
unreached (Ok (Reached device word down)) = Ok Elsewhere
unreached line = line

-- what the script says to a campaign, and nothing that the other sends
abbrev pub lines_alone : Campaign → (image_a image_b : List ℕ) → (lines : List (List ℕ)) → List Line
lines_alone x image_a image_b lines = map unreached (own_lines x image_a image_b lines)

-- ---- what is the same

-- two campaigns that differ only in their devices' counters: the same server, payloads, uplinks, lines and time, and each device
-- the same except for its counters
pub record DifferInCounters (one other : WorldState) : Type 0 where
  pub rest : other ≡ record one { devices = other.devices }
  pub devices : AllZip IsAlike one.devices other.devices

-- the lines of a device under a name, with these counts
abbrev pub part_counting : (image name : List ℕ) → Stage → DeviceState → Counts → List ℕ
part_counting image name stage device counts =
    all_lines name stage (standing_of device) counts (session_lines (same image) device.sessions)

-- what both reports say of a device: under any name the same device line and the same session lines, each report with its counts
pub record AreToldAlike (world alone : WorldState) (id : ℕ) (name : List ℕ) (stage : Stage) (device one : DeviceState) : Type 0 where
  pub beside : lines_under name id world ≡ part_counting world.server.image name stage one device.counts
  pub alone_is : lines_under name id alone ≡ part_counting world.server.image name stage one one.counts

-- a device of the campaign alone is the one next to the other campaign, except for its counters
pub record IsOneOf (world alone : WorldState) (id : ℕ) (device one : DeviceState) : Type 0 where
  pub there : numbered alone.devices id ≡ Some one
  pub alike : IsAlike device one
  pub told : (name : List ℕ) (stage : Stage) → ledger world.server id ≡ Some stage → AreToldAlike world alone id name stage device one

-- the campaign alone: no line of it is refused, and it is the campaign next to the other, except for its devices' counters
pub record IsAlone (image : List ℕ) (lines : List Line) (world alone : WorldState) : Type 0 where
  pub accepted : campaign_of image lines ≡ Ok alone
  pub differ : DifferInCounters world alone
  pub each : (id : ℕ) (device : DeviceState) → numbered world.devices id ≡ Some device → (one : DeviceState) × IsOneOf world alone id device one

-- ---- the laws

-- for any two images and any accepted script, for each of the two campaigns
abbrev pub CampaignsAreIsolated : Type 0
CampaignsAreIsolated = (x : Campaign) (image_a image_b : List ℕ) (lines : List (List ℕ)) (pair : PairState)
    → IsScriptOfTwo image_a image_b lines pair
    → (alone : WorldState) × IsAlone (image_of x image_a image_b) (lines_alone x image_a image_b lines) (side pair x) alone

-- so for any other campaign, whatever it sends: two accepted scripts that say the same to a campaign over the same image, except
-- for the other's payloads, make the same of it except for its devices' counters
abbrev pub NoOtherCampaignMatters : Type 0
NoOtherCampaignMatters = (x : Campaign) (image_a image_b : List ℕ) (lines : List (List ℕ)) (pair : PairState)
    (other_a other_b : List ℕ) (others : List (List ℕ)) (beside : PairState)
    → IsScriptOfTwo image_a image_b lines pair → IsScriptOfTwo other_a other_b others beside
    → image_of x image_a image_b ≡ image_of x other_a other_b
    → lines_alone x image_a image_b lines ≡ lines_alone x other_a other_b others
    → DifferInCounters (side pair x) (side beside x)
