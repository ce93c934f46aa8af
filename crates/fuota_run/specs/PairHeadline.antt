-- The program answers two campaigns of one script with the report of both, and what holds for one campaign holds for each, over
-- what the lines say to it. (This project's profile.)
use Rattle.std.specs.Prelude.{◌≡◌, ℕ, ◌^◌, ◌<◌, ◌≤◌, List, length, All, true, Option, Some, Ok}
use Rattle.std.specs.Io.KnownBytes.{Appends}
use Rattle.image_slots.specs.Image.{is_image}
use Rattle.wire_base.specs.Numbered.{numbered}
use Rattle.frag_session.specs.Session.{Session}
use Rattle.frag_session.specs.FirstMoment.{IsDecidedAtFirst}
use Rattle.device_core.specs.Device.{DeviceState}
use Rattle.device_core.specs.Events.{CameInTurn}
use Rattle.script_lines.specs.declared.forms.Campaign.{Campaign}
use Rattle.script_lines.specs.Lines.{lines_of}
use Rattle.campaign_server.specs.declared.stage.Stage.{Stage}
use Rattle.campaign_world.specs.World.{WorldState}
use Rattle.campaign_world.specs.Said.{Line}
use Rattle.campaign_world.specs.Script.{campaign_of}
use Rattle.campaign_laws.specs.Headline.{HasNoOther, IsServed, HearsBrought, IsRecovered}
use Rattle.campaign_laws.specs.Verdicts.{Carries}
use Rattle.campaign_laws.specs.Independence.{own_record}
use Rattle.pair_run.specs.Pair.{PairState, first_pair, side, other}
use Rattle.pair_run.specs.PairLines.{image_of}
use Rattle.pair_run.specs.PairScript.{campaigns_in}
use Rattle.pair_run.specs.PairReport.{pair_report_of}
use Rattle.pair_laws.specs.EachCampaign.{own_lines, IsSessionOf}
use Rattle.isolation_laws.specs.EachHeadline.{HasSession, IsToldOf}
use Rattle.isolation_laws.specs.AtMoments.{IsBesideMoments, with_moments}
use Rattle.isolation_laws.specs.Isolation.{IsScriptOfTwo, IsAlone, lines_alone}
use Rattle.isolation_laws.specs.PairTold.{IsPlaced}
use Rattle.fuota_run.specs.declared.status.Status.{Status}
use Rattle.fuota_run.specs.declared.status.Status.TheVariants as status
use Rattle.fuota_run.specs.Outside.{Held}
use Rattle.fuota_run.specs.Limits.{image_limit, script_limit}
use Rattle.fuota_run.specs.Words.{plays_two, asked}
use Rattle.fuota_run.specs.Answer.{Answer, pair_answer, IsAnswer}

-- an image file that is held under a name, within its limit
pub record IsImageHeld (held : Held) (name image : List ℕ) : Type 0 where
  pub bytes : held name ≡ Some image
  pub short : length image ≤ image_limit
  pub fine : is_image image ≡ true

-- the words and the files of the form over two campaigns: all are within their limits, and both images are image files
pub record ArePairHandedIn (words : List (List ℕ)) (held : Held) (image_a image_b script : List ℕ) : Type 0 where
  pub name_a : List ℕ
  pub name_b : List ℕ
  pub script_name : List ℕ
  pub form : asked words ≡ Some (plays_two name_a name_b script_name)
  pub first : IsImageHeld held name_a image_a
  pub second : IsImageHeld held name_b image_b
  pub script_held : held script_name ≡ Some script
  pub script_short : length script ≤ script_limit

-- for any two images and any accepted script, the answer is the report of those two campaigns
abbrev pub IsPairAnswered : Type 0
IsPairAnswered = (words : List (List ℕ)) (held : Held) (image_a image_b script : List ℕ) (pair : PairState)
    → ArePairHandedIn words held image_a image_b script → campaigns_in image_a image_b script ≡ Ok pair
    → (a : Answer) → IsAnswer words held a → a ≡ pair_answer pair

-- what all lines of the script say to a campaign
abbrev pub lines_for : Campaign → (image_a image_b script : List ℕ) → List Line
lines_for x image_a image_b script = own_lines x image_a image_b (lines_of script)

-- what is said of each session of a campaign of the two: it hears nothing but what the lines bring its device, and is
-- decided at the first fragment after which its file is no longer open
pub record IsVerdictOfTwo (x : Campaign) (image_a image_b script : List ℕ) (pair : PairState) (id index : ℕ) (s : Session)
    : Type 0 where
  pub heard : let lines = lines_for x image_a image_b script in
      let world = side pair x in
      CameInTurn (Carries lines world.server.plan.group world.sent id) index (length lines) s.heard
  pub decided : IsDecidedAtFirst s

-- what is said of a campaign of the two
pub record IsOneOfTwo (x : Campaign) (image_a image_b script : List ℕ) (pair : PairState) : Type 0 where
  -- it is the campaign that its own image, and what the lines say to it, define
  pub own : campaign_of (image_of x image_a image_b) (lines_for x image_a image_b script) ≡ Ok (side pair x)
  -- each of its devices is its own first record, changed only by what the lines let happen at it
  pub devices : (id : ℕ) → let world = side pair x in
      numbered world.devices id ≡ own_record (lines_for x image_a image_b script) world.server.plan.group world.sent id
  pub verdicts : (id : ℕ) (device : DeviceState) (index : ℕ) (s : Session)
      → IsSessionOf x image_a image_b (lines_of script) pair id device index s
      → IsVerdictOfTwo x image_a image_b script pair id index s

-- so is each of any two campaigns that are accepted
abbrev pub AreTwoCampaigns : Type 0
AreTwoCampaigns = (x : Campaign) (image_a image_b script : List ℕ) (pair : PairState)
    → campaigns_in image_a image_b script ≡ Ok pair → IsOneOfTwo x image_a image_b script pair

-- what is said of a device of one of the two that has its campaign's session
pub record IsHeadlineOfTwo (x : Campaign) (image_a image_b script : List ℕ) (pair : PairState) (id : ℕ) (stage : Stage) (device : DeviceState)
    (session : Session) : Type 0 where
  -- the session is the one for its own campaign's image, and hears nothing but what the lines bring it
  pub served : IsServed (image_of x image_a image_b) (side pair x).server device.config.rows session
  pub brought : HearsBrought (image_of x image_a image_b) (lines_for x image_a image_b script) (side pair x) id session
  -- it is complete from the first heard fragment on after which only one file fits, that image, unless its rows run out first
  pub recovered : IsRecovered (image_of x image_a image_b) session
  -- and the device's lines in the report say so
  pub told : IsToldOf x (image_of x image_a image_b) pair id stage device session

-- what is said of one campaign of the two next to the other
pub record IsApartOfTwo (x : Campaign) (image_a image_b script : List ℕ) (pair : PairState) : Type 0 where
  -- a device has no session but its own campaign's
  pub one : (id : ℕ) (device : DeviceState) → numbered (side pair x).devices id ≡ Some device
      → HasNoOther (side pair x).server.plan.index device.sessions
  -- which has the headline
  pub headline : (id : ℕ) (stage : Stage) (device : DeviceState) (session : Session)
      → HasSession x image_a image_b (lines_of script) pair id stage device session
      → IsHeadlineOfTwo x image_a image_b script pair id stage device session
  -- each of its devices has an ID in the script, and its lines are in the report in that place
  pub placed : (number : ℕ) (device : DeviceState) → numbered (side pair x).devices number ≡ Some device
      → (id : ℕ) × IsPlaced x pair number id
  -- and nothing that the other sends changes more than the counters of its devices
  pub isolated : (alone : WorldState)
      × IsAlone (image_of x image_a image_b) (lines_alone x image_a image_b (lines_of script)) (side pair x) alone
  -- so in the same script, where each event of the other is written as `at` its moment
  pub moments : (beside : PairState) × (let moments = with_moments (other x) (first_pair image_a image_b) (lines_of script) in
      IsBesideMoments x image_a image_b moments pair beside)

-- so is each of any two campaigns that are accepted, whose images are bytes
abbrev pub AreTwoApart : Type 0
AreTwoApart = (x : Campaign) (image_a image_b script : List ℕ) (pair : PairState)
    → IsScriptOfTwo image_a image_b (lines_of script) pair → IsApartOfTwo x image_a image_b script pair

-- the whole report of both was appended, and each is such a campaign
pub record IsPairWritten (image_a image_b script : List ℕ) (pair : PairState) (s : Status) (old new : Option (List ℕ))
    : Type 0 where
  pub done : s ≡ status.Done
  pub report : Appends old new (pair_report_of pair)
  pub each : (x : Campaign) → IsOneOfTwo x image_a image_b script pair
  pub apart : (x : Campaign) → All (λ b. b < 2 ^ 8) image_a → All (λ b. b < 2 ^ 8) image_b
      → IsApartOfTwo x image_a image_b script pair

-- so it is for any two images and any accepted script that the words ask for
abbrev pub IsPairRun : List (List ℕ) → Held → Status → Option (List ℕ) → Option (List ℕ) → Type 0
IsPairRun words held s old new = (image_a image_b script : List ℕ) (pair : PairState)
    → ArePairHandedIn words held image_a image_b script → campaigns_in image_a image_b script ≡ Ok pair
    → IsPairWritten image_a image_b script pair s old new
