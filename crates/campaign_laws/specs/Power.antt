-- Power that goes and comes back (this project's profile): `at` the time now instead of `power` leaves a campaign unchanged.
use Rattle.std.specs.Prelude.{◌≡◌, ◌⊎◌, ℕ, List, [], ◌∷◌, Ok}
use Rattle.script_lines.specs.declared.forms.Form.TheVariants.{At, Power}
use Rattle.campaign_world.specs.World.{WorldState}
use Rattle.campaign_world.specs.Said.{Own, Line}
use Rattle.campaign_world.specs.Script.{campaign_of}
use Rattle.campaign_laws.specs.Independence.{time_after}

-- the other line is the same, or says `at` this time instead of `power`
abbrev pub SaysAt : (now : ℕ) → (line other : Line) → Type 0
SaysAt now line other = (other ≡ line)
    ⊎ ((device : ℕ) × (line ≡ Ok (Own (Power device))) × (other ≡ Ok (Own (At now))))

-- so does each, at its moment: the first of them comes at this time
abbrev pub SayAt : (now : ℕ) → (lines others : List Line) → Type 0
SayAt now [] [] = Unit {0}
SayAt now (line ∷ lines) (other ∷ others) = SaysAt now line other × SayAt (time_after now line) lines others
SayAt now lines others = ⊥

-- for any image and any accepted lines, and whichever of their `power` are written as `at` their moments: the campaign is the
-- same, and so is its report
abbrev pub PowerIsAt : Type 0
PowerIsAt = (image : List ℕ) (lines others : List Line) (world : WorldState) → campaign_of image lines ≡ Ok world
    → SayAt 0 lines others → campaign_of image others ≡ campaign_of image lines
