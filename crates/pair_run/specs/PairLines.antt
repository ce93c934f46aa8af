-- What the lines of a script say to each of its two campaigns (this project's profile); and each is the campaign of these lines,
-- as if it had its own script.
use Rattle.std.specs.Prelude.{◌≡◌, ℕ, List, [], ◌∷◌, Option, Some, None, Ok, Err}
use Rattle.script_lines.specs.declared.forms.Campaign.{Campaign}
use Rattle.script_lines.specs.declared.forms.Campaign.TheVariants as campaign
use Rattle.script_lines.specs.declared.forms.PairForm.{PairForm}
use Rattle.script_lines.specs.PairForms.{pair_form_of}
use Rattle.report_lines.specs.declared.faults.LineWhy.TheVariants as why
use Rattle.campaign_world.specs.Said.{Line}
use Rattle.campaign_world.specs.Script.{campaign_of}
use Rattle.pair_run.specs.Pair.{PairState, first_pair, side}
use Rattle.pair_run.specs.PairCauses.{target_in}
use Rattle.pair_run.specs.PairMaking.{said_to}
use Rattle.pair_run.specs.PairScript.{after_pair_line, campaigns_of}

-- what a line says to a campaign, after the lines before it
abbrev pub form_to : Campaign → PairState → Option PairForm → Line
form_to x pair None = Err why.Syntax
form_to x pair (Some pair_form) = Ok (said_to x pair (target_in pair pair_form))

-- what a line of the script says to one of the two
abbrev pub line_to : Campaign → PairState → (line : List ℕ) → Line
line_to x pair line = form_to x pair (pair_form_of line)

-- what all lines say to it
unfoldable pub lines_to : Campaign → PairState → (lines : List (List ℕ)) → List Line
lines_to x pair [] = []
lines_to x pair (line ∷ lines) = line_to x pair line ∷ lines_to x (after_pair_line pair line) lines

abbrev pub image_of : Campaign → (image_a image_b : List ℕ) → List ℕ
image_of campaign.A image_a image_b = image_a
image_of campaign.B image_a image_b = image_b

-- for any two images and any accepted script, each campaign is the one that its image, and what the lines say to it, define. So
-- what holds of one campaign over its lines holds of each of the two
abbrev pub EachReadsItsLines : Type 0
EachReadsItsLines = (x : Campaign) (image_a image_b : List ℕ) (lines : List (List ℕ)) (pair : PairState)
    → campaigns_of image_a image_b lines ≡ Ok pair
    → campaign_of (image_of x image_a image_b) (lines_to x (first_pair image_a image_b) lines) ≡ Ok (side pair x)
