-- Two campaigns of one script are isolated, by their scripts (this project's profile): where each event of the other campaign is
-- written as `at` its moment, a campaign is the same except for the counters of its devices.
use Rattle.std.specs.Prelude.{◌≡◌, ℕ, ◌≤◌, Bool, true, false, ◌&&◌, ◌||◌, if◌then◌else◌, List, [], ◌∷◌, ◌++◌, length, codes, Option, Some, None, Ok}
use Rattle.std.specs.Fmt.{decimal}
use Rattle.wire_base.specs.Numbered.{numbered}
use Rattle.script_lines.specs.declared.forms.Campaign.{Campaign}
use Rattle.script_lines.specs.declared.forms.Form.{Form}
use Rattle.script_lines.specs.declared.forms.Form.TheVariants.{At, Wake, Migrate, Power, Ask, Down, Air}
use Rattle.script_lines.specs.declared.forms.PairForm.{PairForm}
use Rattle.script_lines.specs.Limits.{max_line}
use Rattle.script_lines.specs.PairForms.{pair_form_of}
use Rattle.device_core.specs.Device.{DeviceState}
use Rattle.campaign_server.specs.declared.stage.Stage.{Stage}
use Rattle.campaign_server.specs.Server.{ledger}
use Rattle.campaign_world.specs.Causes.{is_event_or_end}
use Rattle.pair_run.specs.declared.owners.Owner.{Owner}
use Rattle.pair_run.specs.Counting.{IsAlike}
use Rattle.pair_run.specs.Pair.{PairState, first_pair, side, other, is_same}
use Rattle.pair_run.specs.PairReport.{pair_name, part_of}
use Rattle.pair_run.specs.PairScript.{after_pair_line, campaigns_of}
use Rattle.isolation_laws.specs.EachHeadline.{owner_of}
use Rattle.isolation_laws.specs.Isolation.{IsScriptOfTwo, DifferInCounters, part_counting}

-- ---- an event that names a campaign, or one of its devices

abbrev pub names_it : Campaign → Option Campaign → Bool
names_it y None = false
names_it y (Some x) = is_same x y

abbrev pub is_one_of : Campaign → Option Owner → Bool
is_one_of y None = false
is_one_of y (Some owner) = is_same owner.campaign y

abbrev pub names_one_of : Campaign → List Owner → Form → Bool
names_one_of y owners (Wake device) = is_one_of y (numbered owners device)
names_one_of y owners (Migrate device) = is_one_of y (numbered owners device)
names_one_of y owners (Power device) = is_one_of y (numbered owners device)
names_one_of y owners (Ask device) = is_one_of y (numbered owners device)
names_one_of y owners (Down number device word) = is_one_of y (numbered owners device)
names_one_of y owners (Air number device word) = is_one_of y (numbered owners device)
names_one_of y owners form = false

abbrev pub is_event_of : Campaign → List Owner → Option PairForm → Bool
is_event_of y owners None = false
is_event_of y owners (Some pair_form) =
    is_event_or_end pair_form.form && (names_it y pair_form.campaign || names_one_of y owners pair_form.form)

-- ---- the script without its events

-- a line that reads as `at` the moment so far
pub record IsAtMoment (pair : PairState) (line : List ℕ) : Type 0 where
  pub short : length line ≤ max_line
  pub reads : pair_form_of line ≡ Some (record { campaign = None; form = At pair.a.time })

-- it is in the line's place, or the line is the same
abbrev pub StandsFor : (is_its : Bool) → PairState → (line other : List ℕ) → Type 0
StandsFor true pair line other = IsAtMoment pair other
StandsFor false pair line other = other ≡ line

-- each event that names this campaign, or one of its devices, is `at` its moment: after this pair so far. All else stays
abbrev pub AreMoments : Campaign → PairState → (lines others : List (List ℕ)) → Type 0
AreMoments y pair [] [] = Unit {0}
AreMoments y pair (line ∷ lines) (other ∷ others) =
    StandsFor (is_event_of y pair.owners (pair_form_of line)) pair line other × AreMoments y (after_pair_line pair line) lines others
AreMoments y pair lines others = ⊥

-- `at` this time, as a line
abbrev pub at_text : (now : ℕ) → List ℕ
at_text now = codes "at " ++ decimal now

-- the script with such a line instead of each
abbrev pub with_moments : Campaign → PairState → (lines : List (List ℕ)) → List (List ℕ)
with_moments y pair [] = []
with_moments y pair (line ∷ lines) =
    (if is_event_of y pair.owners (pair_form_of line) then at_text pair.a.time else line) ∷ with_moments y (after_pair_line pair line) lines

-- ---- what is the same

-- what both reports of two say of a device: the same device line and the same session lines, each report with its counts
pub record AreBothTold (x : Campaign) (pair beside : PairState) (id number : ℕ) (stage : Stage) (device one : DeviceState) : Type 0 where
  pub told : part_of pair id (owner_of x number) ≡ part_counting (side pair x).server.image (pair_name id x) stage one device.counts
  pub told_beside : part_of beside id (owner_of x number) ≡ part_counting (side pair x).server.image (pair_name id x) stage one one.counts

-- a device of a campaign is the same next to the moments, except for its counters
pub record IsOneBeside (x : Campaign) (pair beside : PairState) (number : ℕ) (device one : DeviceState) : Type 0 where
  pub there : numbered (side beside x).devices number ≡ Some one
  pub alike : IsAlike device one
  pub told : (id : ℕ) (stage : Stage) → ledger (side pair x).server number ≡ Some stage → AreBothTold x pair beside id number stage device one

-- the campaign next to the moments: no line is refused, each ID is the same campaign's device, and this campaign is the same
-- except for its devices' counters
pub record IsBesideMoments (x : Campaign) (image_a image_b : List ℕ) (others : List (List ℕ)) (pair beside : PairState) : Type 0 where
  pub accepted : campaigns_of image_a image_b others ≡ Ok beside
  pub owners : beside.owners ≡ pair.owners
  pub differ : DifferInCounters (side pair x) (side beside x)
  pub each : (number : ℕ) (device : DeviceState) → numbered (side pair x).devices number ≡ Some device
      → (one : DeviceState) × IsOneBeside x pair beside number device one

-- ---- the laws

-- for any two images and any accepted script, for each of the two campaigns, however the moments are spelt
abbrev pub OthersEventsAreMoments : Type 0
OthersEventsAreMoments = (x : Campaign) (image_a image_b : List ℕ) (lines others : List (List ℕ)) (pair : PairState)
    → IsScriptOfTwo image_a image_b lines pair
    → AreMoments (other x) (first_pair image_a image_b) lines others
    → (beside : PairState) × IsBesideMoments x image_a image_b others pair beside

-- and so with a plain `at` line for each
abbrev pub ScriptsAreIsolated : Type 0
ScriptsAreIsolated = (x : Campaign) (image_a image_b : List ℕ) (lines : List (List ℕ)) (pair : PairState)
    → IsScriptOfTwo image_a image_b lines pair
    → (beside : PairState) × IsBesideMoments x image_a image_b (with_moments (other x) (first_pair image_a image_b) lines) pair beside
