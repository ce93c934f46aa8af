-- Whose an event of two campaigns is: of one that names neither the other campaign nor its devices, this one's or both take it; of
-- one that does, only a payload that crosses over reaches this one.
use Rattle.std.proofs.Common.{◌≡◌, ℕ, Bool, true, false, cond, ◌||◌, List, Option, Some, None, refl, subst}
use Rattle.wire_base.specs.Numbered.{numbered}
use Rattle.script_lines.specs.declared.forms.Campaign.{Campaign}
use Rattle.script_lines.specs.declared.forms.Campaign.TheVariants as campaign
use Rattle.script_lines.specs.declared.forms.Form.{Form}
use Rattle.script_lines.specs.declared.forms.Form.TheVariants as form
use Rattle.campaign_world.specs.Causes.{is_event_or_end}
use Rattle.pair_run.specs.Sides.{is_quiet}
use Rattle.pair_run.specs.declared.owners.Owner.{Owner}
use Rattle.pair_run.specs.declared.targets.Way.{Way}
use Rattle.pair_run.specs.declared.targets.Way.TheVariants as way
use Rattle.pair_run.specs.Targets.{Target, At, End, One, Across, Nobody, to_owner, carried_form, carried_target, common_target, named_target, target_for}
use Rattle.pair_run.specs.Pair.{other, is_same}
use Rattle.pair_run.proofs.EachTarget.{is_at_device, IfOne, own_form, target_if}
use Rattle.isolation_laws.specs.AtMoments.{names_it, is_one_of, names_one_of}
use Rattle.campaign_laws.proofs.FormBytes.{may_name}
use Rattle.isolation_laws.proofs.PairFields.{IsSpelt}

-- ---- this campaign's, or both's

abbrev pub IsOf : Campaign → Target → Type 0
IsOf x (At time) = Unit {0}
IsOf x End = Unit {0}
IsOf x Nobody = Unit {0}
IsOf x (One y f) = (y ≡ x) × (is_event_or_end f ≡ true)
IsOf x target = ⊥

pub not_other : (y x : Campaign) → is_same y (other x) ≡ false → y ≡ x
not_other campaign.A campaign.A is = refl
not_other campaign.A campaign.B is = absurd cc
not_other campaign.B campaign.A is = absurd cc
not_other campaign.B campaign.B is = refl

neither_is : (a b : Bool) → a || b ≡ false → (a ≡ false) × (b ≡ false)
neither_is true b is = absurd cc
neither_is false b is = (refl, is)

owner_of_it : (x : Campaign) (g : ℕ → Form) (o : Option Owner) → ((n : ℕ) → is_event_or_end (g n) ≡ true) → is_one_of (other x) o ≡ false
    → IsOf x (to_owner (λ owner. One owner.campaign (g owner.number)) o)
owner_of_it x g None event is = tt
owner_of_it x g (Some owner) event is = (not_other owner.campaign x is, event owner.number)

carried_event : (by : Way) (number device word : ℕ) → is_event_or_end (carried_form by number device word) ≡ true
carried_event way.Downlink number device word = refl
carried_event way.Air number device word = refl

carried_of_it : (x z c : Campaign) (by : Way) (number word n : ℕ) → is_same z (other x) ≡ false → is_same c (other x) ≡ false
    → IsOf x (cond {A = Target} (is_same c z) (One z (carried_form by number n word)) (Across z by number n word))
carried_of_it campaign.A campaign.A campaign.A by number word n one two = (refl, carried_event by number n word)
carried_of_it campaign.B campaign.B campaign.B by number word n one two = (refl, carried_event by number n word)
carried_of_it campaign.A campaign.B c by number word n one two = absurd cc
carried_of_it campaign.B campaign.A c by number word n one two = absurd cc
carried_of_it campaign.A campaign.A campaign.B by number word n one two = absurd cc
carried_of_it campaign.B campaign.B campaign.A by number word n one two = absurd cc

to_its_owner : (x z : Campaign) (by : Way) (number word : ℕ) (o : Option Owner) → is_same z (other x) ≡ false → is_one_of (other x) o ≡ false
    → IsOf x (to_owner (λ owner. carried_target z by number word owner) o)
to_its_owner x z by number word None one two = tt
to_its_owner x z by number word (Some owner) one two = carried_of_it x z owner.campaign by number word owner.number one two

common_of_it : (x : Campaign) (owners : List Owner) (f : Form) → is_event_or_end f ≡ true → names_one_of (other x) owners f ≡ false
    → IsOf x (common_target owners f)
common_of_it x owners form.Header event is = absurd cc
common_of_it x owners (form.At time) event is = tt
common_of_it x owners form.End event is = tt
common_of_it x owners (form.Wake n) event is = owner_of_it x (λ n. form.Wake n) (numbered owners n) (λ n. refl) is
common_of_it x owners (form.Migrate n) event is = owner_of_it x (λ n. form.Migrate n) (numbered owners n) (λ n. refl) is
common_of_it x owners (form.Power n) event is = owner_of_it x (λ n. form.Power n) (numbered owners n) (λ n. refl) is
common_of_it x owners (form.Ask n) event is = owner_of_it x (λ n. form.Ask n) (numbered owners n) (λ n. refl) is
common_of_it x owners f event is = tt

named_of_it : (x z : Campaign) (owners : List Owner) (count : ℕ) (f : Form) → is_event_or_end f ≡ true → is_same z (other x) ≡ false
    → names_one_of (other x) owners f ≡ false → IsOf x (named_target owners count z f)
named_of_it x z owners count (form.Down number n word) event one two = to_its_owner x z way.Downlink number word (numbered owners n) one two
named_of_it x z owners count (form.Air number n word) event one two = to_its_owner x z way.Air number word (numbered owners n) one two
named_of_it x z owners count (form.Device dev) event one two = absurd cc
named_of_it x z owners count f event one two = (not_other z x one, event)

pub of_it : (x : Campaign) (owners : List Owner) (count_a count_b : ℕ) (named : Option Campaign) (f : Form) → is_event_or_end f ≡ true
    → names_it (other x) named || names_one_of (other x) owners f ≡ false → IsOf x (target_for owners count_a count_b named f)
of_it x owners count_a count_b None f event is = common_of_it x owners f event is
of_it x owners count_a count_b (Some z) f event is =
    let both = neither_is (is_same z (other x)) (names_one_of (other x) owners f) is in
    named_of_it x z owners _ f event both.0 both.1

-- ---- the other's

-- a form that one campaign takes
abbrev pub IsLone : Form → Type 0
IsLone f = (is_event_or_end f ≡ true) × (is_quiet f ≡ false)

abbrev pub IsOfOther : Campaign → Target → Type 0
IsOfOther x (One y f) = (y ≡ other x) × IsLone f
IsOfOther x (Across y by number device word) = Unit {0}
IsOfOther x Nobody = Unit {0}
IsOfOther x target = ⊥

same_is : (y z : Campaign) → is_same y z ≡ true → y ≡ z
same_is campaign.A campaign.A is = refl
same_is campaign.A campaign.B is = absurd cc
same_is campaign.B campaign.A is = absurd cc
same_is campaign.B campaign.B is = refl

owner_of_other : (x : Campaign) (g : ℕ → Form) (o : Option Owner) → ((n : ℕ) → IsLone (g n)) → is_one_of (other x) o ≡ true
    → IsOfOther x (to_owner (λ owner. One owner.campaign (g owner.number)) o)
owner_of_other x g None event is = tt
owner_of_other x g (Some owner) event is = (same_is owner.campaign (other x) is, event owner.number)

carried_lone : (by : Way) (number device word : ℕ) → IsLone (carried_form by number device word)
carried_lone way.Downlink number device word = (refl, refl)
carried_lone way.Air number device word = (refl, refl)

carried_of_other : (x z c : Campaign) (by : Way) (number word n : ℕ) → is_same z (other x) || is_same c (other x) ≡ true
    → IsOfOther x (cond {A = Target} (is_same c z) (One z (carried_form by number n word)) (Across z by number n word))
carried_of_other campaign.A campaign.A campaign.A by number word n is = absurd cc
carried_of_other campaign.A campaign.B campaign.B by number word n is = (refl, carried_lone by number n word)
carried_of_other campaign.B campaign.A campaign.A by number word n is = (refl, carried_lone by number n word)
carried_of_other campaign.B campaign.B campaign.B by number word n is = absurd cc
carried_of_other campaign.A campaign.A campaign.B by number word n is = tt
carried_of_other campaign.A campaign.B campaign.A by number word n is = tt
carried_of_other campaign.B campaign.A campaign.B by number word n is = tt
carried_of_other campaign.B campaign.B campaign.A by number word n is = tt

to_other_owner : (x z : Campaign) (by : Way) (number word : ℕ) (o : Option Owner) → is_same z (other x) || is_one_of (other x) o ≡ true
    → IsOfOther x (to_owner (λ owner. carried_target z by number word owner) o)
to_other_owner x z by number word None is = tt
to_other_owner x z by number word (Some owner) is = carried_of_other x z owner.campaign by number word owner.number is

common_of_other : (x : Campaign) (owners : List Owner) (f : Form) → names_one_of (other x) owners f ≡ true
    → IsOfOther x (common_target owners f)
common_of_other x owners (form.Wake n) is = owner_of_other x (λ n. form.Wake n) (numbered owners n) (λ n. (refl, refl)) is
common_of_other x owners (form.Migrate n) is = owner_of_other x (λ n. form.Migrate n) (numbered owners n) (λ n. (refl, refl)) is
common_of_other x owners (form.Power n) is = owner_of_other x (λ n. form.Power n) (numbered owners n) (λ n. (refl, refl)) is
common_of_other x owners (form.Ask n) is = owner_of_other x (λ n. form.Ask n) (numbered owners n) (λ n. (refl, refl)) is
common_of_other x owners (form.Down number n word) is = tt
common_of_other x owners (form.Air number n word) is = tt
common_of_other x owners f is = absurd cc

either_is : (a : Bool) → a || false ≡ true → a ≡ true
either_is true is = refl
either_is false is = absurd cc

named_of_other : (x z : Campaign) (owners : List Owner) (count : ℕ) (f : Form) → is_event_or_end f ≡ true → may_name f ≡ true
    → is_same z (other x) || names_one_of (other x) owners f ≡ true → IsOfOther x (named_target owners count z f)
named_of_other x z owners count (form.Down number n word) event name is = to_other_owner x z way.Downlink number word (numbered owners n) is
named_of_other x z owners count (form.Air number n word) event name is = to_other_owner x z way.Air number word (numbered owners n) is
named_of_other x z owners count form.Frag event name is = (same_is z (other x) (either_is _ is), (refl, refl))
named_of_other x z owners count form.Status event name is = (same_is z (other x) (either_is _ is), (refl, refl))
named_of_other x z owners count (form.Up number) event name is = (same_is z (other x) (either_is _ is), (refl, refl))
named_of_other x z owners count (form.Image frag_size parity index) event name is = absurd cc
named_of_other x z owners count (form.Group id addr key min max) event name is = absurd cc
named_of_other x z owners count (form.WindowC start timeout freq dr) event name is = absurd cc
named_of_other x z owners count (form.WindowB start periodicity timeout freq dr) event name is = absurd cc
named_of_other x z owners count (form.Device dev) event name is = absurd cc
named_of_other x z owners count f event name is = absurd cc

pub of_other : (x : Campaign) (owners : List Owner) (count_a count_b : ℕ) (named : Option Campaign) (f : Form) → is_event_or_end f ≡ true
    → IsSpelt named f → names_it (other x) named || names_one_of (other x) owners f ≡ true
    → IsOfOther x (target_for owners count_a count_b named f)
of_other x owners count_a count_b None f event name is = common_of_other x owners f is
of_other x owners count_a count_b (Some z) f event name is = named_of_other x z owners _ f event name is

-- ---- after whatever devices

named_alike : (owners : List Owner) (m n : ℕ) (x : Campaign) (f : Form) → is_event_or_end f ≡ true
    → named_target owners m x f ≡ named_target owners n x f
named_alike owners m n x (form.Device dev) event = absurd cc
named_alike owners m n x f event = refl

pub same_target : (owners : List Owner) (a b c d : ℕ) (named : Option Campaign) (f : Form) → is_event_or_end f ≡ true
    → target_for owners a b named f ≡ target_for owners c d named f
same_target owners a b c d None f event = refl
same_target owners a b c d (Some x) f event = named_alike owners _ _ x f event

-- ---- both hear the time

abbrev pub IsTimeless : Target → Type 0
IsTimeless target = IfOne (λ x f. is_quiet f ≡ false) target

timeless_at : (x : Campaign) (f : Form) → is_at_device f ≡ true → is_quiet f ≡ false
timeless_at x form.Header is = absurd cc
timeless_at x (form.At time) is = absurd cc
timeless_at x form.End is = absurd cc
timeless_at x f is = refl

own_timeless : (count : ℕ) (f : Form) → may_name f ≡ true → is_quiet (own_form count f) ≡ false
own_timeless count form.Header name = absurd cc
own_timeless count (form.At time) name = absurd cc
own_timeless count form.End name = absurd cc
own_timeless count f name = refl

pub timeless : (owners : List Owner) (count_a count_b : ℕ) (named : Option Campaign) (f : Form) → IsSpelt named f
    → IsTimeless (target_for owners count_a count_b named f)
timeless owners count_a count_b named f name =
    target_if (λ x g. is_quiet g ≡ false) timeless_at owners count_a count_b named f
    (λ x count is. own_timeless count f (subst (λ (n : Option Campaign). IsSpelt n f) is name))
