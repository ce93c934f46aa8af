-- What a line says (this project's profile), and to which of the two campaigns.
use Rattle.std.specs.Prelude.{ℕ, ◌+◌, if◌then◌else◌, List, Option, Some, None}
use Rattle.wire_base.specs.Numbered.{numbered}
use Rattle.script_lines.specs.declared.forms.Campaign.{Campaign}
use Rattle.script_lines.specs.declared.forms.Campaign.TheVariants as campaign
use Rattle.script_lines.specs.declared.forms.Form.{Form}
use Rattle.script_lines.specs.declared.forms.Form.TheVariants as form
use Rattle.script_lines.specs.declared.forms.PairForm.{PairForm}
use Rattle.pair_run.specs.declared.owners.Owner.{Owner}
use Rattle.pair_run.specs.declared.targets.Way.{Way}
use Rattle.pair_run.specs.declared.targets.Way.TheVariants as way
use Rattle.pair_run.specs.Pair.{is_same}

-- what a line says to which of two campaigns
pub data Target : Type 0 where
  -- its first line, to both
  Header : Target
  -- the time now, in ms, to both
  At : (time : ℕ) → Target
  -- the end, to both
  End : Target
  -- a line of one campaign; a device has the number that it has there
  One : Campaign → Form → Target
  -- a payload of one campaign's server, by its number, reaches a device of the other
  Across : Campaign → Way → (number device word : ℕ) → Target
  -- there is no such device
  Nobody : Target

-- to the campaign of the device, under the device's number there
abbrev pub to_owner : (Owner → Target) → Option Owner → Target
to_owner target None = Nobody
to_owner target (Some owner) = target owner

-- a payload of one campaign reaches a device of the same one, or of the other
abbrev pub carried_form : Way → (number device word : ℕ) → Form
carried_form way.Downlink number device word = form.Down number device word
carried_form way.Air number device word = form.Air number device word

-- a payload goes to a device of its own campaign, or across
abbrev pub carried_target : Campaign → Way → (number word : ℕ) → Owner → Target
carried_target x by number word owner =
    if is_same owner.campaign x then One x (carried_form by number owner.number word)
    else Across x by number owner.number word

-- a line that names no campaign: both hear the header, the time and the end; a line for a device is its campaign's
abbrev pub common_target : List Owner → Form → Target
common_target owners form.Header = Header
common_target owners (form.At time) = At time
common_target owners form.End = End
common_target owners (form.Wake device) =
    to_owner (λ owner. One owner.campaign (form.Wake owner.number)) (numbered owners device)
common_target owners (form.Migrate device) =
    to_owner (λ owner. One owner.campaign (form.Migrate owner.number)) (numbered owners device)
common_target owners (form.Power device) =
    to_owner (λ owner. One owner.campaign (form.Power owner.number)) (numbered owners device)
common_target owners (form.Ask device) =
    to_owner (λ owner. One owner.campaign (form.Ask owner.number)) (numbered owners device)
common_target owners f = Nobody

-- a line that names one: its devices have numbers of their own, from 1 on
abbrev pub named_target : List Owner → (count : ℕ) → Campaign → Form → Target
named_target owners count x (form.Down number device word) =
    to_owner (λ owner. carried_target x way.Downlink number word owner) (numbered owners device)
named_target owners count x (form.Air number device word) =
    to_owner (λ owner. carried_target x way.Air number word owner) (numbered owners device)
named_target owners count x (form.Device dev) =
    One x (form.Device (record dev { id = count + 1 }))
named_target owners count x f = One x f

-- after so many devices of the one and of the other
abbrev pub count_of : (count_a count_b : ℕ) → Campaign → ℕ
count_of count_a count_b campaign.A = count_a
count_of count_a count_b campaign.B = count_b

-- a line names a campaign or none
abbrev pub target_for : List Owner → (count_a count_b : ℕ) → Option Campaign → Form → Target
target_for owners count_a count_b None f = common_target owners f
target_for owners count_a count_b (Some x) f = named_target owners (count_of count_a count_b x) x f

unfoldable pub target_of : List Owner → (count_a count_b : ℕ) → PairForm → Target
target_of owners count_a count_b pair_form = target_for owners count_a count_b pair_form.campaign pair_form.form
