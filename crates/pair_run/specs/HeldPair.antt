-- What a pair holds, for which two campaigns it stands, and what it answers.
use Rattle.std.specs.Prelude.{◌≡◌, ℕ, ◌+◌, ◌<◌, ◌≤◌, ◌^◌, true, List, length, Option, Some, None, Result, Ok, Err}
use Rattle.wire_base.specs.Numbered.{numbered}
use Rattle.script_lines.specs.declared.forms.Campaign.{Campaign}
use Rattle.script_lines.specs.declared.forms.Campaign.TheVariants as campaign
use Rattle.script_lines.specs.declared.forms.Form.TheVariants as form
use Rattle.script_lines.specs.declared.forms.PairForm.{PairForm}
use Rattle.device_core.specs.Device.{DeviceState}
use Rattle.report_lines.specs.declared.faults.LineError.{LineError}
use Rattle.report_lines.specs.declared.faults.LineError.TheVariants as error
use Rattle.campaign_world.specs.declared.numbered.SentPayload.{SentPayload}
use Rattle.campaign_world.specs.Causes.{takes_events}
use Rattle.campaign_world.specs.HeldWorld.{HeldWorld, WorldStands, EndsStand, IsAnswerTo, IsFine, world_of}
use Rattle.pair_run.specs.declared.owners.Owner.{Owner}
use Rattle.pair_run.specs.Targets.{Target, Header, At, End, One, Across, Nobody}
use Rattle.pair_run.specs.Pair.{PairState, other}
use Rattle.pair_run.specs.PairCauses.{pair_cause_of, pair_form_cause, target_in}
use Rattle.pair_run.specs.PairScript.{after_pair_line, pair_end}
use Rattle.pair_run.specs.PairReport.{pair_report_of}

-- both campaigns as they are held, and whose device is whose
pub record HeldPair : Type 0 where
  pub a : HeldWorld
  pub b : HeldWorld
  pub owners : List Owner
  pub kept : Option LineError

-- each of its worlds stands for a campaign, and the devices are theirs
pub record PairStands (held : HeldPair) (pair : PairState) : Type 0 where
  pub a : WorldStands held.a pair.a
  pub b : WorldStands held.b pair.b
  pub owners : pair.owners ≡ held.owners

-- for any two campaigns that were stood for, these of them are stood for now
abbrev pub PairBecomes : (old new : HeldPair) → (PairState → PairState) → Type 0
PairBecomes old new after = (pair : PairState) → PairStands old pair → PairStands new (after pair)

-- for any two that were stood for, the devices and the servers of both are stood for now
abbrev pub PairKeepsEnds : (old new : HeldPair) → Type 0
PairKeepsEnds old new = (pair : PairState) → PairStands old pair → EndsStand new.a pair.a × EndsStand new.b pair.b

-- the answer to a line: it was taken, or it is the first refused line with its first cause, or memory was missing
abbrev pub IsPairAnswer : PairState → (line : List ℕ) → (new : HeldPair) → Result (Unit {0}) LineError → Type 0
IsPairAnswer pair line new result =
    IsAnswerTo (pair_cause_of pair line) (pair.a.lines + 1) pair (after_pair_line pair line) new.kept (PairStands new) result

-- the answer of the report: it, where the script has ended, else that it has not
abbrev pub IsPairReport : PairState → Result (List ℕ) LineError → Type 0
IsPairReport pair (Ok text) = (pair_end (Ok pair) ≡ Ok pair) × (text ≡ pair_report_of pair)
IsPairReport pair (Err (error.Line fault)) = pair_end (Ok pair) ≡ Err fault
IsPairReport pair (Err error.Memory) = Unit {0}

-- the answer to whether the script has ended
abbrev pub IsPairEnded : PairState → Result (Unit {0}) LineError → Type 0
IsPairEnded pair (Ok done) = pair_end (Ok pair) ≡ Ok pair
IsPairEnded pair (Err (error.Line fault)) = pair_end (Ok pair) ≡ Err fault
IsPairEnded pair (Err error.Memory) = ⊥

-- ---- what its private calls ask and answer

-- the two campaigns that it stands for, with these devices
abbrev pub pair_of : HeldPair → (a b : List DeviceState) → PairState
pair_of held a b = record { a = world_of held.a a; b = world_of held.b b; owners = held.owners }

abbrev pub held_side : HeldPair → Campaign → HeldWorld
held_side held campaign.A = held.a
held_side held campaign.B = held.b

-- a fact of the two campaigns, for any devices it stands for
abbrev pub OfBoth : HeldPair → (PairState → Type 0) → Type 0
OfBoth held fact = (a b : List DeviceState) → length a ≡ length held.a.devices → length b ≡ length held.b.devices → fact (pair_of held a b)

-- a payload may cross over
pub record IsCrossing (from to : HeldWorld) (number device word : ℕ) : Type 0 where
  pub comes : takes_events to.section ≡ true
  pub first : 1 ≤ device
  pub last : device ≤ length to.devices
  pub random : word < 2 ^ 32
  pub sent : (s : SentPayload) × (numbered from.sent number ≡ Some s)

-- nothing refuses the line in its own campaign
abbrev pub IsFineTarget : HeldPair → Target → Type 0
IsFineTarget held Header = IsFine held.a form.Header × IsFine held.b form.Header
IsFineTarget held (At time) = IsFine held.a (form.At time) × IsFine held.b (form.At time)
IsFineTarget held End = IsFine held.a form.End × IsFine held.b form.End
IsFineTarget held (One x f) = IsFine (held_side held x) f
IsFineTarget held (Across x by number device word) =
    IsCrossing (held_side held x) (held_side held (other x)) number device word
IsFineTarget held Nobody = ⊥

-- a line that was read is accepted: what it says to the two campaigns, which nothing refuses
pub record IsAccepted (held : HeldPair) (pair_form : PairForm) (target : Target) : Type 0 where
  pub unrefused : OfBoth held (λ pair. pair_form_cause pair pair_form ≡ None)
  pub says : OfBoth held (λ pair. target ≡ target_in pair pair_form)
  pub fine : IsFineTarget held target
