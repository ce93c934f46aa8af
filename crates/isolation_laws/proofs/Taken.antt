-- What a line of two campaigns that no cause refuses is to each of them.
use Rattle.std.proofs.Common.{◌≡◌, ℕ, Bool, true, false, not, ◌==◌, ◌&&◌, List, length, Option, Some, None, is_none, Ok, refl, sym, ap, ◌∙◌, subst, true≢false}
use Rattle.std.proofs.lemmas.Bool.{and_parts, eqb-false}
use Rattle.wire_base.specs.Numbered.{numbered}
use Rattle.script_lines.specs.declared.forms.Campaign.{Campaign}
use Rattle.script_lines.specs.declared.forms.Campaign.TheVariants as campaign
use Rattle.script_lines.specs.declared.forms.Form.{Form}
use Rattle.script_lines.specs.declared.forms.Form.TheVariants as form
use Rattle.script_lines.specs.declared.forms.PairForm.{PairForm}
use Rattle.script_lines.specs.Ranges.{in_range}
use Rattle.report_lines.specs.declared.faults.LineWhy.TheVariants as why
use Rattle.campaign_server.specs.Plan.{Plan}
use Rattle.campaign_world.specs.declared.numbered.SentPayload.{SentPayload}
use Rattle.campaign_world.specs.declared.section.Section.{Section}
use Rattle.campaign_world.specs.declared.section.Section.TheVariants as section
use Rattle.campaign_world.specs.World.{WorldState}
use Rattle.campaign_world.specs.Said.{Said, Reached}
use Rattle.campaign_world.specs.Causes.{is_device, said_cause, cause_of}
use Rattle.campaign_world.specs.Script.{after_line}
use Rattle.pair_run.specs.declared.owners.Owner.{Owner}
use Rattle.pair_run.specs.declared.targets.Way.{Way}
use Rattle.pair_run.specs.Targets.{Target, Header, At, End, One, Across, Nobody, target_for, target_of}
use Rattle.pair_run.specs.Pair.{PairState, side, other}
use Rattle.pair_run.specs.PairCauses.{pair_cause_of, common_cause, crossing_cause, may_cross, goes_by, target_cause, target_in, pair_may_come, is_planned, is_next, is_apart}
use Rattle.pair_run.specs.PairMaking.{said_to, reached_by}
use Rattle.pair_run.specs.PairScript.{after_pair_line}
use Rattle.pair_run.specs.PairLines.{line_to}
use Rattle.pair_run.proofs.Accepts.{cut_cause}
use Rattle.pair_run.proofs.Unrefused.{unrefused, cause_is, after_is, said_by, side_after}
use Rattle.pair_run.proofs.EachTarget.{is_at_device, IfOne, own_form, target_if, IfOwn, said_if}
use Rattle.isolation_laws.proofs.PairFields.{Has, form_spelt}
use Rattle.campaign_world.proofs.Sections.{by_section, never}

-- ---- what it says to its own campaign

-- the form of it fits
abbrev pub SaysFit : Said → Type 0
SaysFit said = IfOwn Has said

has_at : (x : Campaign) (f : Form) → is_at_device f ≡ true → Has f
has_at x (form.Group id addr key min max) is = absurd cc
has_at x (form.Device dev) is = absurd cc
has_at x (form.Raw device port payload word) is = absurd cc
has_at x (form.RawAir device bytes word) is = absurd cc
has_at x f is = tt

own_has : (count : ℕ) (f : Form) → Has f → Has (own_form count f)
own_has count (form.Device dev) has = has
own_has count f has = has

target_fits : (owners : List Owner) (count_a count_b : ℕ) (named : Option Campaign) (f : Form) → Has f
    → IfOne (λ x g. Has g) (target_for owners count_a count_b named f)
target_fits owners count_a count_b named f has = target_if (λ x g. Has g) has_at owners count_a count_b named f (λ x count is. own_has count f has)

says_fit : (x : Campaign) (pair : PairState) (target : Target) → IfOne (λ y g. Has g) target → SaysFit (said_to x pair target)
says_fit x pair target fits = said_if (λ y g. Has g) x tt (λ time. tt) tt pair target fits

-- ---- what crosses over was sent to all

crosses_to : (by : Way) (found : Option SentPayload) (sent : SentPayload) → may_cross by found ≡ true → found ≡ Some sent → sent.receiver ≡ None
crosses_to by None sent may is = absurd cc
crosses_to by (Some own) sent may is =
    let parts = and_parts (is_none own.receiver) (goes_by by own) may in
    let same : own ≡ sent = cc in
    subst (λ (s : SentPayload). s.receiver ≡ None) same (none_there own.receiver parts.0)
  where
    none_there : (o : Option ℕ) → is_none o ≡ true → o ≡ None
    none_there None is = refl
    none_there (Some n) is = absurd cc

-- so what reaches a device of a campaign is a payload of the other, sent to all
abbrev pub IsSentToAll : List SentPayload → Said → Type 0
IsSentToAll sent (Reached device word down) = (number : ℕ) × (payload : SentPayload) × (numbered sent number ≡ Some payload) × (payload.receiver ≡ None) × (payload.down ≡ down)
IsSentToAll sent said = Unit {0}

reached_sent : (by : Way) (sent : List SentPayload) (number device word : ℕ) (found : Option SentPayload) → numbered sent number ≡ found
    → may_cross by found ≡ true → IsSentToAll sent (reached_by device word found)
reached_sent by sent number device word None is may = tt
reached_sent by sent number device word (Some payload) is may = (number, payload, is, crosses_to by (Some payload) payload may refl, refl)

crossing_sent : (by : Way) (from to : WorldState) (number device word : ℕ) → crossing_cause by from to number device ≡ None
    → IsSentToAll from.sent (reached_by device word (numbered from.sent number))
crossing_sent by from to number device word none =
    let one = cut_cause (is_device (length to.devices) device) why.Device _ none in
    let two = cut_cause (may_cross by (numbered from.sent number)) why.Unsent None one.1 in
    reached_sent by from.sent number device word (numbered from.sent number) refl two.0

says_sent : (x : Campaign) (pair : PairState) (target : Target) → target_cause pair target ≡ None
    → IsSentToAll (side pair (other x)).sent (said_to x pair target)
says_sent x pair Header none = tt
says_sent x pair (At time) none = tt
says_sent x pair End none = tt
says_sent campaign.A pair (One campaign.A f) none = tt
says_sent campaign.A pair (One campaign.B f) none = tt
says_sent campaign.B pair (One campaign.A f) none = tt
says_sent campaign.B pair (One campaign.B f) none = tt
says_sent campaign.A pair (Across campaign.A by number device word) none = tt
says_sent campaign.A pair (Across campaign.B by number device word) none = crossing_sent by pair.b pair.a number device word none
says_sent campaign.B pair (Across campaign.A by number device word) none = crossing_sent by pair.a pair.b number device word none
says_sent campaign.B pair (Across campaign.B by number device word) none = tt
says_sent x pair Nobody none = tt

-- ---- the plan of b comes after that of a, and has another index

-- the image line came
abbrev pub is_late : Section → Bool
is_late section.Header = false
is_late section.Image = false
is_late here = true

planned_late : (here : Section) → is_planned here ≡ true → is_late here ≡ true
planned_late =
    by_section (λ (here : Section). is_planned here ≡ true → is_late here ≡ true) never never (λ is. refl) never (λ is. refl) never never never

-- an image line of b comes late in a, with another index
abbrev IsApart : Section → Plan → Form → Campaign → Type 0
IsApart a plan (form.Image frag_size parity index) campaign.B = (is_late a ≡ true) × (plan.index ≡ index → ⊥)
IsApart a plan f x = Unit {0}

abbrev ApartOf : Section → Plan → Target → Type 0
ApartOf a plan target = IfOne (λ x f. IsApart a plan f x) target

apart_at : (a : Section) (plan : Plan) (x : Campaign) (f : Form) → is_at_device f ≡ true → IsApart a plan f x
apart_at a plan x (form.Image frag_size parity index) is = absurd cc
apart_at a plan x f is = tt

other_index : (own its : ℕ) → not (its == own) ≡ true → own ≡ its → ⊥
other_index own its apart same = by (its == own) refl apart
  where
    by : (b : Bool) → (its == own) ≡ b → not b ≡ true → ⊥
    by true is not_it = true≢false (sym not_it)
    by false is not_it = eqb-false its own is (sym same)

own_apart : (a b : Section) (plan : Plan) (count : ℕ) (f : Form) (x : Campaign) → pair_may_come a b (Some x) f ≡ true
    → is_apart plan (Some x) f ≡ true → IsApart a plan (own_form count f) x
own_apart a b plan count (form.Image frag_size parity index) campaign.A may apart = tt
own_apart a b plan count (form.Image frag_size parity index) campaign.B may apart =
    let both = and_parts _ (is_planned a) may in (planned_late a both.1, other_index plan.index index apart)
own_apart a b plan count f x may apart = tt

target_apart : (a b : Section) (plan : Plan) (owners : List Owner) (count_a count_b : ℕ) (named : Option Campaign) (f : Form)
    → pair_may_come a b named f ≡ true → is_apart plan named f ≡ true → ApartOf a plan (target_for owners count_a count_b named f)
target_apart a b plan owners count_a count_b named f may apart =
    target_if (λ x g. IsApart a plan g x) (apart_at a plan) owners count_a count_b named f
    (λ x count is. own_apart a b plan count f x (subst (λ (n : Option Campaign). pair_may_come a b n f ≡ true) is may)
    (subst (λ (n : Option Campaign). is_apart plan n f ≡ true) is apart))

pub record Common (pair : PairState) (pair_form : PairForm) : Type 0 where
  pub comes : pair_may_come pair.a.section pair.b.section pair_form.campaign pair_form.form ≡ true
  pub apart : is_apart pair.a.server.plan pair_form.campaign pair_form.form ≡ true

pub common_passed : (pair : PairState) (pair_form : PairForm) → common_cause pair pair_form ≡ None → Common pair pair_form
unfolding common_cause
common_passed pair pair_form none =
    let one = cut_cause (pair_may_come pair.a.section pair.b.section pair_form.campaign pair_form.form) why.Order _ none in
    let two = cut_cause (in_range pair_form.form && is_next (length pair.owners) pair_form.form && is_apart pair.a.server.plan pair_form.campaign pair_form.form) why.Range _ one.1 in
    record { comes = one.0; apart = (and_parts _ _ two.0).1 }

-- what the lines say to b of its image
abbrev pub IsApartFrom : WorldState → Said → Type 0
IsApartFrom a said = IfOwn (λ f. IsApart a.section a.server.plan f campaign.B) said

told_apart : (pair : PairState) (target : Target) → ApartOf pair.a.section pair.a.server.plan target → IsApartFrom pair.a (said_to campaign.B pair target)
told_apart pair target k =
    said_if (λ x f. IsApart pair.a.section pair.a.server.plan f x) campaign.B tt (λ time. tt) tt pair target k

-- ---- all of it

-- what a line says to a campaign, and that it is taken there
pub record IsTaken (x : Campaign) (pair : PairState) (line : List ℕ) (said : Said) : Type 0 where
  pub says : line_to x pair line ≡ Ok said
  pub fine : said_cause (side pair x) said ≡ None
  pub cause : cause_of (side pair x) (Ok said) ≡ None
  pub fits : SaysFit said
  pub sent : IsSentToAll (side pair (other x)).sent said
  pub behind : side (after_pair_line pair line) x ≡ after_line (side pair x) (Ok said)

pub record AreTaken (pair : PairState) (line : List ℕ) : Type 0 where
  pub a : Said
  pub b : Said
  pub by_a : IsTaken campaign.A pair line a
  pub by_b : IsTaken campaign.B pair line b
  pub apart : IsApartFrom pair.a b

pub taken : (pair : PairState) (line : List ℕ) → pair_cause_of pair line ≡ None → AreTaken pair line
unfolding target_of
taken pair line none =
    let u = unrefused pair line none in
    let target : Target = target_in pair u.pair_form in
    let has = (form_spelt line u.pair_form u.spells).0 in
    let passed = common_passed pair u.pair_form u.common in
    let fits : IfOne (λ x g. Has g) target = target_fits pair.owners (length pair.a.devices) (length pair.b.devices) u.pair_form.campaign u.pair_form.form has in
    let apart : ApartOf pair.a.section pair.a.server.plan target =
    target_apart pair.a.section pair.b.section pair.a.server.plan pair.owners (length pair.a.devices) (length pair.b.devices) u.pair_form.campaign u.pair_form.form passed.comes passed.apart in
    let of : (x : Campaign) → IsTaken x pair line (said_to x pair target) = λ x. record {
      says = said_by x pair line u.pair_form u.spells;
      fine = u.fine x;
      cause = cause_is (side pair x) (said_to x pair target) (u.few x) (u.fine x);
      fits = says_fit x pair target fits;
      sent = says_sent x pair target u.target;
      behind = ap (λ (p : PairState). side p x) (after_is pair line u.pair_form u.spells) ∙ side_after x pair target;
    } in
    record {
      a = said_to campaign.A pair target;
      b = said_to campaign.B pair target;
      by_a = of campaign.A;
      by_b = of campaign.B;
      apart = told_apart pair target apart;
    }
