-- How a line that is not refused changes two campaigns (this project's profile): what it says to each. Its own campaign takes it,
-- and the other counts it; only a payload that was sent to all reaches a device of the other campaign.
use Rattle.std.specs.Prelude.{ℕ, if◌then◌else◌, List, [], ◌∷◌, ◌++◌, Option, Some, None}
use Rattle.wire_base.specs.Numbered.{numbered}
use Rattle.script_lines.specs.declared.forms.Campaign.{Campaign}
use Rattle.script_lines.specs.declared.forms.Campaign.TheVariants as campaign
use Rattle.script_lines.specs.declared.forms.Form.{Form}
use Rattle.script_lines.specs.declared.forms.Form.TheVariants as form
use Rattle.campaign_world.specs.declared.numbered.SentPayload.{SentPayload}
use Rattle.campaign_world.specs.World.{WorldState}
use Rattle.campaign_world.specs.Said.{Said, Own, Elsewhere, Reached}
use Rattle.campaign_world.specs.Making.{after_said}
use Rattle.campaign_world.specs.Script.{one_line_more}
use Rattle.pair_run.specs.declared.owners.Owner.{Owner}
use Rattle.pair_run.specs.Targets.{Target, Header, At, End, One, Across, Nobody}
use Rattle.pair_run.specs.Pair.{PairState, side, is_same}

-- a payload of the other campaign reaches a device. The other's group has another address, so that the device hears the frame
-- of such a payload on the air as little as the payload itself
abbrev pub reached_by : (device word : ℕ) → Option SentPayload → Said
reached_by device word None = Elsewhere
reached_by device word (Some sent) = Reached device word sent.down

-- what a line says to a campaign
abbrev pub said_to : Campaign → PairState → Target → Said
said_to x pair Header = Own form.Header
said_to x pair (At time) = Own (form.At time)
said_to x pair End = Own form.End
said_to x pair (One y f) = if is_same x y then Own f else Elsewhere
said_to x pair (Across y by number device word) =
    if is_same x y then Elsewhere else reached_by device word (numbered (side pair y).sent number)
said_to x pair Nobody = Elsewhere

-- a campaign after the line
abbrev pub behind : Campaign → PairState → Target → WorldState
behind x pair target = one_line_more (after_said (side pair x) (said_to x pair target))

-- a device line says to which campaign the next device belongs
abbrev pub joined : Campaign → Form → List Owner
joined x (form.Device dev) = record { campaign = x; number = dev.id } ∷ []
joined x f = []

-- the devices that a line adds: one, or none
abbrev pub newcomers : Target → List Owner
newcomers (One x f) = joined x f
newcomers target = []

-- both after the line
unfoldable pub after_target : PairState → Target → PairState
after_target pair target = record {
  a = behind campaign.A pair target;
  b = behind campaign.B pair target;
  owners = pair.owners ++ newcomers target;
}
