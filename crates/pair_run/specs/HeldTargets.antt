-- What the code keeps of what a line says: its campaign, besides its form.
use Rattle.std.specs.Prelude.{ℕ, if◌then◌else◌, Option, Some, None}
use Rattle.script_lines.specs.declared.forms.Campaign.{Campaign}
use Rattle.script_lines.specs.declared.forms.Form.{Form}
use Rattle.script_lines.specs.declared.forms.Form.TheVariants as form
use Rattle.pair_run.specs.declared.owners.Owner.{Owner}
use Rattle.pair_run.specs.declared.targets.Way.{Way}
use Rattle.pair_run.specs.declared.targets.Whose.{Whose}
use Rattle.pair_run.specs.declared.targets.Whose.TheVariants as whose
use Rattle.pair_run.specs.Pair.{is_same}
use Rattle.pair_run.specs.Targets.{Target, Header, At, End, One, Across, Nobody}

-- what a form says to both
abbrev pub told_both : Form → Target
told_both form.Header = Header
told_both (form.At time) = At time
told_both form.End = End
told_both f = Nobody

-- what a form says, by its campaign
abbrev pub told : Whose → Form → Target
told whose.Both f = told_both f
told (whose.One x) f = One x f
told (whose.Across x by number device word) f = Across x by number device word
told whose.Nobody f = Nobody

-- the number that a device has in its campaign
abbrev pub number_of : Option Owner → (device : ℕ) → ℕ
number_of None device = device
number_of (Some owner) device = owner.number

-- a line that names a device is of its campaign
abbrev pub owners_word : Option Owner → Whose
owners_word None = whose.Nobody
owners_word (Some owner) = whose.One owner.campaign

-- a payload of one campaign reaches a device
abbrev pub carried_word : Campaign → Way → (number word : ℕ) → Option Owner → Whose
carried_word x by number word None = whose.Nobody
carried_word x by number word (Some owner) =
    if is_same owner.campaign x then whose.One x else whose.Across x by number owner.number word
