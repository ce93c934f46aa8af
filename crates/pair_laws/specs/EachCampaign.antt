-- What holds for each of two campaigns that share a script (this project's profile): the laws of one campaign, over its own image
-- and what the lines say to it.
use Rattle.std.specs.Prelude.{◌≡◌, ℕ, ◌<◌, List, length, Some, Ok}
use Rattle.wire_base.specs.Numbered.{numbered}
use Rattle.frag_session.specs.Session.{Session}
use Rattle.frag_session.specs.FirstMoment.{IsDecidedAtFirst}
use Rattle.device_core.specs.SessionTable.{session_at}
use Rattle.device_core.specs.Device.{DeviceState}
use Rattle.device_core.specs.Events.{CameInTurn}
use Rattle.script_lines.specs.declared.forms.Campaign.{Campaign}
use Rattle.campaign_world.specs.Said.{Line}
use Rattle.campaign_laws.specs.Verdicts.{Carries}
use Rattle.campaign_laws.specs.Independence.{own_record}
use Rattle.pair_run.specs.Pair.{PairState, first_pair, side}
use Rattle.pair_run.specs.PairLines.{lines_to}
use Rattle.pair_run.specs.PairScript.{campaigns_of}

-- what all lines say to a campaign, from the start on
abbrev pub own_lines : Campaign → (image_a image_b : List ℕ) → (lines : List (List ℕ)) → List Line
own_lines x image_a image_b lines = lines_to x (first_pair image_a image_b) lines

-- a session of a device of one of the two campaigns of an accepted script
pub record IsSessionOf (x : Campaign) (image_a image_b : List ℕ) (lines : List (List ℕ)) (pair : PairState) (id : ℕ) (device : DeviceState) (index : ℕ) (s : Session) : Type 0 where
  pub accepted : campaigns_of image_a image_b lines ≡ Ok pair
  pub device_is : numbered (side pair x).devices id ≡ Some device
  pub index_is : index < 4
  pub session_is : session_at device.sessions index ≡ Some s

-- for any images and any accepted script
pub record EachHasItsVerdicts : Type 0 where
  -- a session hears nothing but what the lines bring its device, each fragment at its line
  pub heard : (x : Campaign) (image_a image_b : List ℕ) (lines : List (List ℕ)) (pair : PairState) (id : ℕ) (device : DeviceState) (index : ℕ) (s : Session)
      → IsSessionOf x image_a image_b lines pair id device index s
      → let own = own_lines x image_a image_b lines in
      let world = side pair x in
      CameInTurn (Carries own world.server.plan.group world.sent id) index (length own) s.heard
  -- and is decided at the first fragment after which its file is no longer open
  pub decided : (x : Campaign) (image_a image_b : List ℕ) (lines : List (List ℕ)) (pair : PairState) (id : ℕ) (device : DeviceState) (index : ℕ) (s : Session)
      → IsSessionOf x image_a image_b lines pair id device index s → IsDecidedAtFirst s

-- each device of either is its own first record, changed only by what the lines let happen at it
abbrev pub EachHasItsDevices : Type 0
EachHasItsDevices = (x : Campaign) (image_a image_b : List ℕ) (lines : List (List ℕ)) (pair : PairState) (id : ℕ)
    → campaigns_of image_a image_b lines ≡ Ok pair
    → let world = side pair x in
    numbered world.devices id ≡ own_record (own_lines x image_a image_b lines) world.server.plan.group world.sent id
