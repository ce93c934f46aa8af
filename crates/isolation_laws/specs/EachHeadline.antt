-- The headline of each of two campaigns that share a script (this project's profile): the lines of each are honest, so what holds
-- for one campaign holds for each of the two, with its own image.
use Rattle.std.specs.Prelude.{◌≡◌, ◌⊎◌, ℕ, true, false, List, codes, Some, is_some}
use Rattle.wire_base.specs.Numbered.{numbered}
use Rattle.frag_session.specs.Session.{Session, Seen, seen_of}
use Rattle.frag_session.specs.Setup.{other_descriptor}
use Rattle.image_slots.specs.Image.{is_image, firmware_of}
use Rattle.device_core.specs.Device.{DeviceState}
use Rattle.device_core.specs.SessionTable.{session_at}
use Rattle.campaign_server.specs.declared.stage.Stage.{Stage}
use Rattle.campaign_server.specs.declared.stage.Stage.TheVariants.{Updated}
use Rattle.campaign_server.specs.Server.{ledger}
use Rattle.script_lines.specs.declared.forms.Campaign.{Campaign}
use Rattle.report_lines.specs.Devices.{standing_of}
use Rattle.report_lines.specs.Sessions.{session_text}
use Rattle.campaign_world.specs.Honest.{AreHonest}
use Rattle.campaign_world.specs.Report.{all_lines}
use Rattle.campaign_laws.specs.Fields.{AllFit}
use Rattle.campaign_laws.specs.Headline.{HasNoOther, IsServed, HearsBrought, IsRecovered, Brings, setup_command, WholeAt, OverAt, StaysOpen, complete_words, no_rows_words}
use Rattle.campaign_laws.specs.Ledger.{Runs}
use Rattle.pair_run.specs.declared.owners.Owner.{Owner}
use Rattle.pair_run.specs.Pair.{PairState, side}
use Rattle.pair_run.specs.PairLines.{image_of}
use Rattle.pair_run.specs.PairReport.{pair_name, part_of}
use Rattle.pair_laws.specs.EachCampaign.{own_lines}
use Rattle.isolation_laws.specs.Isolation.{IsScriptOfTwo}

-- a device of one of the two, its stage, and its session of that campaign's index
pub record HasSession (x : Campaign) (image_a image_b : List ℕ) (lines : List (List ℕ)) (pair : PairState) (id : ℕ) (stage : Stage) (device : DeviceState) (session : Session) : Type 0 where
  pub script : IsScriptOfTwo image_a image_b lines pair
  pub stage_is : ledger (side pair x).server id ≡ Some stage
  pub device_is : numbered (side pair x).devices id ≡ Some device
  pub session_is : session_at device.sessions (side pair x).server.plan.index ≡ Some session

-- ---- what the report of both says

-- the lines of the device with this ID in the script, where this is said of its one session
abbrev pub part_saying : Campaign → (id index : ℕ) → Stage → DeviceState → Seen → (words : List ℕ) → List ℕ
part_saying x id index stage device seen words =
    all_lines (pair_name id x) stage (standing_of device) device.counts (session_text index seen.received seen.missing words)

-- its campaign, and the number that it has there
abbrev pub owner_of : Campaign → (number : ℕ) → Owner
owner_of x number = record { campaign = x; number = number }

-- what the report says of the session, for any ID that the device has in the script
pub record IsToldOf (x : Campaign) (image : List ℕ) (pair : PairState) (number : ℕ) (stage : Stage) (device : DeviceState) (s : Session) : Type 0 where
  -- some fragment is the first after which only one file fits, the image; or one exceeds the rows first; or it is still open
  pub cases : ((line : ℕ) × WholeAt image s line) ⊎ (((line : ℕ) × OverAt s line) ⊎ StaysOpen s)
  -- where there is one, the report names its line
  pub complete : (id line : ℕ) → WholeAt image s line
      → part_of pair id (owner_of x number) ≡ part_saying x id (side pair x).server.plan.index stage device (seen_of s) (complete_words line)
  pub no_rows : (id line : ℕ) → OverAt s line
      → part_of pair id (owner_of x number) ≡ part_saying x id (side pair x).server.plan.index stage device (seen_of s) (no_rows_words line)
  -- and until then says so
  pub receiving : (id : ℕ) → StaysOpen s
      → part_of pair id (owner_of x number) ≡ part_saying x id (side pair x).server.plan.index stage device (seen_of s) (codes "receiving")

-- ---- the laws

-- for any images and any accepted script
pub record EachHasItsHeadline : Type 0 where
  -- the two have different indexes
  pub apart : (image_a image_b : List ℕ) (lines : List (List ℕ)) (pair : PairState) → IsScriptOfTwo image_a image_b lines pair
      → pair.a.server.plan.index ≡ pair.b.server.plan.index → ⊥
  -- all that reaches the devices of one is what its server sent, or what the other's sent to all, for another index
  pub honest : (x : Campaign) (image_a image_b : List ℕ) (lines : List (List ℕ)) (pair : PairState) → IsScriptOfTwo image_a image_b lines pair
      → AreHonest (side pair x).server.plan.index (own_lines x image_a image_b lines)
  -- and what its lines say fits its fields
  pub fits : (x : Campaign) (image_a image_b : List ℕ) (lines : List (List ℕ)) (pair : PairState) → IsScriptOfTwo image_a image_b lines pair
      → AllFit (side pair x).server.plan.index (own_lines x image_a image_b lines)
  -- so a device has no session but its own campaign's
  pub one : (x : Campaign) (image_a image_b : List ℕ) (lines : List (List ℕ)) (pair : PairState) (id : ℕ) (device : DeviceState)
      → IsScriptOfTwo image_a image_b lines pair → numbered (side pair x).devices id ≡ Some device
      → HasNoOther (side pair x).server.plan.index device.sessions
  -- which is the one for its campaign's image
  pub served : (x : Campaign) (image_a image_b : List ℕ) (lines : List (List ℕ)) (pair : PairState) (id : ℕ) (stage : Stage) (device : DeviceState) (session : Session)
      → HasSession x image_a image_b lines pair id stage device session
      → IsServed (image_of x image_a image_b) (side pair x).server device.config.rows session
  -- it hears what the lines bring, and nothing of the other campaign
  pub brought : (x : Campaign) (image_a image_b : List ℕ) (lines : List (List ℕ)) (pair : PairState) (id : ℕ) (stage : Stage) (device : DeviceState) (session : Session)
      → HasSession x image_a image_b lines pair id stage device session
      → HearsBrought (image_of x image_a image_b) (own_lines x image_a image_b lines) (side pair x) id session
  -- it is complete exactly when only one file fits, its campaign's image, unless the rows are exceeded first
  pub recovered : (x : Campaign) (image_a image_b : List ℕ) (lines : List (List ℕ)) (pair : PairState) (id : ℕ) (stage : Stage) (device : DeviceState) (session : Session)
      → HasSession x image_a image_b lines pair id stage device session → IsRecovered (image_of x image_a image_b) session
  -- the report of both says so
  pub reported : (x : Campaign) (image_a image_b : List ℕ) (lines : List (List ℕ)) (pair : PairState) (id : ℕ) (stage : Stage) (device : DeviceState) (session : Session)
      → HasSession x image_a image_b lines pair id stage device session
      → IsToldOf x (image_of x image_a image_b) pair id stage device session

-- where the ledger of one says that a device is updated, it runs that campaign's image, with exactly its bytes
abbrev pub EachLedgerIsTrue : Type 0
EachLedgerIsTrue = (x : Campaign) (image_a image_b : List ℕ) (lines : List (List ℕ)) (pair : PairState) (id : ℕ)
    → IsScriptOfTwo image_a image_b lines pair → is_image (image_of x image_a image_b) ≡ true
    → ledger (side pair x).server id ≡ Some Updated → Runs (image_of x image_a image_b) (side pair x).devices id

-- a device to which a line brought its server's setup, and that accepts its descriptor, has its session
abbrev pub EachSessionLives : Type 0
EachSessionLives = (x : Campaign) (image_a image_b : List ℕ) (lines : List (List ℕ)) (pair : PairState) (id : ℕ) (device : DeviceState) (n : ℕ)
    → IsScriptOfTwo image_a image_b lines pair → is_image (image_of x image_a image_b) ≡ true
    → numbered (side pair x).devices id ≡ Some device
    → other_descriptor device.config.descriptor (firmware_of (image_of x image_a image_b)) ≡ false
    → Brings (image_of x image_a image_b) (own_lines x image_a image_b lines) (side pair x).sent id n (setup_command (side pair x).server)
    → is_some (session_at device.sessions (side pair x).server.plan.index) ≡ true
