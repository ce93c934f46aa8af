-- What holds of the target of each line, whichever campaign its device is of, and of what it says to a campaign.
use Rattle.std.proofs.Common.{◌≡◌, ℕ, ◌+◌, Bool, true, false, cond, List, Option, Some, None, refl}
use Rattle.wire_base.specs.Numbered.{numbered}
use Rattle.script_lines.specs.declared.forms.Campaign.{Campaign}
use Rattle.script_lines.specs.declared.forms.Campaign.TheVariants as campaign
use Rattle.script_lines.specs.declared.forms.Form.{Form}
use Rattle.script_lines.specs.declared.forms.Form.TheVariants as form
use Rattle.campaign_world.specs.declared.numbered.SentPayload.{SentPayload}
use Rattle.campaign_world.specs.Said.{Said, Own, Elsewhere}
use Rattle.pair_run.specs.declared.owners.Owner.{Owner}
use Rattle.pair_run.specs.declared.targets.Way.{Way}
use Rattle.pair_run.specs.declared.targets.Way.TheVariants as way
use Rattle.pair_run.specs.Targets.{Target, Header, At, End, One, Across, Nobody, to_owner, carried_form, carried_target, common_target, named_target, target_for}
use Rattle.pair_run.specs.Pair.{PairState, side, is_same}
use Rattle.pair_run.specs.PairMaking.{said_to, reached_by}

-- a form for a device, which its campaign hears with the number that the device has there
abbrev pub is_at_device : Form → Bool
is_at_device (form.Wake device) = true
is_at_device (form.Migrate device) = true
is_at_device (form.Power device) = true
is_at_device (form.Ask device) = true
is_at_device (form.Down number device word) = true
is_at_device (form.Air number device word) = true
is_at_device f = false

-- what holds of each owner's target, and where there is none
of_owner : (P : Target → Type 0) → P Nobody → (o : Option Owner) (target : Owner → Target) → ((owner : Owner) → P (target owner)) → P (to_owner target o)
of_owner P none None target each = none
of_owner P none (Some owner) target each = each owner

-- a line that names no campaign
pub of_common : (P : Target → Type 0) → P Header → ((time : ℕ) → P (At time)) → P End → P Nobody
    → ((x : Campaign) (f : Form) → is_at_device f ≡ true → P (One x f)) → (owners : List Owner) (f : Form) → P (common_target owners f)
of_common P header at end none one owners form.Header = header
of_common P header at end none one owners (form.At time) = at time
of_common P header at end none one owners form.End = end
of_common P header at end none one owners (form.Wake n) =
    of_owner P none (numbered owners n) (λ o. One o.campaign (form.Wake o.number)) (λ o. one o.campaign (form.Wake o.number) refl)
of_common P header at end none one owners (form.Migrate n) =
    of_owner P none (numbered owners n) (λ o. One o.campaign (form.Migrate o.number)) (λ o. one o.campaign (form.Migrate o.number) refl)
of_common P header at end none one owners (form.Power n) =
    of_owner P none (numbered owners n) (λ o. One o.campaign (form.Power o.number)) (λ o. one o.campaign (form.Power o.number) refl)
of_common P header at end none one owners (form.Ask n) =
    of_owner P none (numbered owners n) (λ o. One o.campaign (form.Ask o.number)) (λ o. one o.campaign (form.Ask o.number) refl)
of_common P header at end none one owners f = none

-- ---- of a form that goes to one campaign, whatever else there is

abbrev pub IfOne : (Campaign → Form → Type 0) → Target → Type 0
IfOne Q (One x f) = Q x f
IfOne Q target = Unit {0}

abbrev AtDevices : (Campaign → Form → Type 0) → Type 0
AtDevices Q = (x : Campaign) (f : Form) → is_at_device f ≡ true → Q x f

-- a form as a line that names its campaign says it: a device has the number after so many
abbrev pub own_form : (count : ℕ) → Form → Form
own_form count (form.Device dev) = form.Device (record dev { id = count + 1 })
own_form count f = f

pub common_if : (Q : Campaign → Form → Type 0) → AtDevices Q → (owners : List Owner) (f : Form) → IfOne Q (common_target owners f)
common_if Q one owners f = of_common (IfOne Q) tt (λ time. tt) tt tt one owners f

carried_if : (Q : Campaign → Form → Type 0) → AtDevices Q → (b : Bool) (x : Campaign) (by : Way) (number word n : ℕ)
    → IfOne Q (cond {A = Target} b (One x (carried_form by number n word)) (Across x by number n word))
carried_if Q one true x way.Downlink number word n = one x (form.Down number n word) refl
carried_if Q one true x way.Air number word n = one x (form.Air number n word) refl
carried_if Q one false x by number word n = tt

pub named_if : (Q : Campaign → Form → Type 0) → AtDevices Q → (owners : List Owner) (count : ℕ) (x : Campaign) (f : Form) → Q x (own_form count f)
    → IfOne Q (named_target owners count x f)
named_if Q one owners count x (form.Down number n word) k =
    of_owner (IfOne Q) tt (numbered owners n) (λ o. carried_target x way.Downlink number word o)
    (λ o. carried_if Q one (is_same o.campaign x) x way.Downlink number word o.number)
named_if Q one owners count x (form.Air number n word) k =
    of_owner (IfOne Q) tt (numbered owners n) (λ o. carried_target x way.Air number word o)
    (λ o. carried_if Q one (is_same o.campaign x) x way.Air number word o.number)
named_if Q one owners count x f k = k

pub target_if : (Q : Campaign → Form → Type 0) → AtDevices Q → (owners : List Owner) (count_a count_b : ℕ) (named : Option Campaign) (f : Form)
    → ((x : Campaign) (count : ℕ) → named ≡ Some x → Q x (own_form count f)) → IfOne Q (target_for owners count_a count_b named f)
target_if Q one owners count_a count_b None f k = common_if Q one owners f
target_if Q one owners count_a count_b (Some x) f k = named_if Q one owners _ x f (k x _ refl)

-- ---- of the form that a campaign hears as its own

abbrev pub IfOwn : (Form → Type 0) → Said → Type 0
IfOwn P (Own f) = P f
IfOwn P said = Unit {0}

own_if : (Q : Campaign → Form → Type 0) (x y : Campaign) (f : Form) → Q y f → IfOwn (Q x) (cond {A = Said} (is_same x y) (Own f) Elsewhere)
own_if Q campaign.A campaign.A f k = k
own_if Q campaign.A campaign.B f k = tt
own_if Q campaign.B campaign.A f k = tt
own_if Q campaign.B campaign.B f k = k

reached_if : (P : Form → Type 0) (b : Bool) (device word : ℕ) (o : Option SentPayload) → IfOwn P (cond {A = Said} b Elsewhere (reached_by device word o))
reached_if P true device word o = tt
reached_if P false device word None = tt
reached_if P false device word (Some sent) = tt

-- what holds of the lines that both hear, and of the form that goes to one, holds of what a line says to a campaign
pub said_if : (Q : Campaign → Form → Type 0) (x : Campaign) → Q x form.Header → ((time : ℕ) → Q x (form.At time)) → Q x form.End
    → (pair : PairState) (target : Target) → IfOne Q target → IfOwn (Q x) (said_to x pair target)
said_if Q x header at end pair Header k = header
said_if Q x header at end pair (At time) k = at time
said_if Q x header at end pair End k = end
said_if Q x header at end pair (One y f) k = own_if Q x y f k
said_if Q x header at end pair (Across y by number device word) k = reached_if (Q x) (is_same x y) device word (numbered (side pair y).sent number)
said_if Q x header at end pair Nobody k = tt
