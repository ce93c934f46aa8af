-- A device that answers is updated, of each of two campaigns: the lines of each are honest and fit its fields.
use Rattle.std.proofs.Common.{◌≡◌, ℕ, ◌^◌, ◌<◌, List, All}
use Rattle.script_lines.specs.declared.forms.Campaign.{Campaign}
use Rattle.script_lines.specs.declared.forms.Campaign.TheVariants as campaign
use Rattle.pair_run.specs.Pair.{PairState, side}
use Rattle.pair_run.specs.PairLines.{image_of}
use Rattle.pair_run.proofs.ReadAlone.{reads_alone}
use Rattle.pair_laws.specs.EachCampaign.{own_lines}
use Rattle.isolation_laws.specs.Isolation.{IsScriptOfTwo}
use Rattle.isolation_laws.proofs.EachHeadline.{headlines}
use Rattle.exchange_laws.specs.EachUpdating.{EachAnswersUpdate}
use Rattle.exchange_laws.proofs.Exchanging.{answers_update}

bytes_of : (x : Campaign) (image_a image_b : List ℕ) (lines : List (List ℕ)) (pair : PairState) → IsScriptOfTwo image_a image_b lines pair
    → All (λ b. b < 2 ^ 8) (image_of x image_a image_b)
bytes_of campaign.A image_a image_b lines pair s = s.bytes_a
bytes_of campaign.B image_a image_b lines pair s = s.bytes_b

pub each_answers_update : EachAnswersUpdate
each_answers_update x image_a image_b lines pair id device s file there suits has =
    answers_update (image_of x image_a image_b) (own_lines x image_a image_b lines) (side pair x) id device
    (bytes_of x image_a image_b lines pair s) file (headlines.fits x image_a image_b lines pair s) (headlines.honest x image_a image_b lines pair s)
    (reads_alone x image_a image_b lines pair s.accepted) there suits has
