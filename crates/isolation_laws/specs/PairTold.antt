-- Where the report of two campaigns says what about a device (this project's profile).
use Rattle.std.specs.Prelude.{◌≡◌, ℕ, ◌+◌, ◌-◌, List, take, drop, codes, Some}
use Rattle.wire_base.specs.Numbered.{numbered}
use Rattle.device_core.specs.Device.{DeviceState}
use Rattle.script_lines.specs.declared.forms.Campaign.{Campaign}
use Rattle.script_lines.specs.declared.forms.Campaign.TheVariants as campaign
use Rattle.report_lines.specs.Devices.{◌⧺◌}
use Rattle.pair_run.specs.Pair.{PairState, side}
use Rattle.pair_run.specs.PairReport.{pair_image_line, part_of, pair_parts, pair_report_of}
use Rattle.isolation_laws.specs.EachHeadline.{owner_of}
use Rattle.isolation_laws.specs.Isolation.{IsScriptOfTwo}

-- the report of both before the lines of the device with an ID, and after them
abbrev pub pair_text_before : PairState → (id : ℕ) → List ℕ
pair_text_before pair id =
    codes "fuota report 2\n" ⧺ pair_image_line campaign.A pair.a.server ⧺ pair_image_line campaign.B pair.b.server
    ⧺ pair_parts pair 1 (take (id - 1) pair.owners)

abbrev pub pair_text_after : PairState → (id : ℕ) → List ℕ
pair_text_after pair id = pair_parts pair (id + 1) (drop id pair.owners) ⧺ codes "end\n"

-- the report of both in which these are its lines
abbrev pub pair_report_with : PairState → (id : ℕ) → (part : List ℕ) → List ℕ
pair_report_with pair id part = pair_text_before pair id ⧺ part ⧺ pair_text_after pair id

-- a device of a campaign has this ID in the script, and its lines are in the report in the place of that ID
pub record IsPlaced (x : Campaign) (pair : PairState) (number id : ℕ) : Type 0 where
  pub named : numbered pair.owners id ≡ Some (owner_of x number)
  pub report : pair_report_of pair ≡ pair_report_with pair id (part_of pair id (owner_of x number))

-- each device of either has one, for any two images and any accepted script
abbrev pub EachIsReported : Type 0
EachIsReported = (x : Campaign) (image_a image_b : List ℕ) (lines : List (List ℕ)) (pair : PairState) (number : ℕ) (device : DeviceState)
    → IsScriptOfTwo image_a image_b lines pair → numbered (side pair x).devices number ≡ Some device
    → (id : ℕ) × IsPlaced x pair number id
