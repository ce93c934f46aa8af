-- What a line that no cause refuses is to each campaign of a pair.
use Rattle.std.proofs.Common.{◌≡◌, ℕ, Bool, true, false, cond, ◌||◌, nat_le, nat_lt, List, length, Option, Some, None, Ok, refl, sym}
use Rattle.wire_base.specs.Numbered.{numbered}
use Rattle.script_lines.specs.declared.forms.Campaign.{Campaign}
use Rattle.script_lines.specs.declared.forms.Campaign.TheVariants as campaign
use Rattle.script_lines.specs.declared.forms.Form.TheVariants as form
use Rattle.script_lines.specs.declared.forms.PairForm.{PairForm}
use Rattle.script_lines.specs.PairForms.{pair_form_of}
use Rattle.script_lines.specs.Limits.{max_lines, max_line}
use Rattle.report_lines.specs.declared.faults.LineWhy.{LineWhy}
use Rattle.report_lines.specs.declared.faults.LineWhy.TheVariants as why
use Rattle.campaign_world.specs.declared.numbered.SentPayload.{SentPayload}
use Rattle.campaign_world.specs.World.{WorldState}
use Rattle.campaign_world.specs.Said.{Said}
use Rattle.campaign_world.specs.Causes.{takes_events, is_device, form_cause, said_cause, cause_of}
use Rattle.campaign_world.specs.Script.{after_line}
use Rattle.pair_run.specs.declared.targets.Way.{Way}
use Rattle.pair_run.specs.Targets.{Target, Header, At, End, One, Across, Nobody}
use Rattle.pair_run.specs.Pair.{PairState, side}
use Rattle.pair_run.specs.PairCauses.{pair_cause_of, cause_of_pair_form, pair_form_cause, common_cause, crossing_cause, target_cause, target_in}
use Rattle.pair_run.specs.PairMaking.{said_to, reached_by, after_target}
use Rattle.pair_run.specs.PairScript.{after_pair_line}
use Rattle.pair_run.specs.PairLines.{line_to}
use Rattle.pair_run.proofs.Accepts.{neither, cut_cause, MayCross, may_cross_over}

-- ---- is refused in neither campaign

reached_fine : (world : WorldState) (found : Option SentPayload) (device word : ℕ) → takes_events world.section ≡ true
    → is_device (length world.devices) device ≡ true → said_cause world (reached_by device word found) ≡ None
reached_fine world None device word takes is = refl
reached_fine world (Some sent) device word takes is = rw (takes, is) refl

crosses_fine : (by : Way) (from to : WorldState) (number device word : ℕ) → takes_events to.section ≡ true
    → crossing_cause by from to number device ≡ None → said_cause to (reached_by device word (numbered from.sent number)) ≡ None
crosses_fine by from to number device word takes none =
    let one = cut_cause (is_device (length to.devices) device) why.Device _ none in
    reached_fine to (numbered from.sent number) device word takes one.0

abbrev MayReach : PairState → Target → Type 0
MayReach pair target = (y : Campaign) (by : Way) (number device word : ℕ) → target ≡ Across y by number device word → MayCross pair.a.section pair.b.section word

said_fine : (x : Campaign) (pair : PairState) (target : Target) → MayReach pair target
    → target_cause pair target ≡ None → said_cause (side pair x) (said_to x pair target) ≡ None
said_fine campaign.A pair Header may none = (neither (form_cause pair.a form.Header) (form_cause pair.b form.Header) none).0
said_fine campaign.B pair Header may none = (neither (form_cause pair.a form.Header) (form_cause pair.b form.Header) none).1
said_fine campaign.A pair (At time) may none = (neither (form_cause pair.a (form.At time)) (form_cause pair.b (form.At time)) none).0
said_fine campaign.B pair (At time) may none = (neither (form_cause pair.a (form.At time)) (form_cause pair.b (form.At time)) none).1
said_fine campaign.A pair End may none = (neither (form_cause pair.a form.End) (form_cause pair.b form.End) none).0
said_fine campaign.B pair End may none = (neither (form_cause pair.a form.End) (form_cause pair.b form.End) none).1
said_fine campaign.A pair (One campaign.A f) may none = none
said_fine campaign.A pair (One campaign.B f) may none = refl
said_fine campaign.B pair (One campaign.A f) may none = refl
said_fine campaign.B pair (One campaign.B f) may none = none
said_fine campaign.A pair (Across campaign.A by number device word) may none = refl
said_fine campaign.A pair (Across campaign.B by number device word) may none =
    crosses_fine by pair.b pair.a number device word (may campaign.B by number device word refl).a_takes none
said_fine campaign.B pair (Across campaign.A by number device word) may none =
    crosses_fine by pair.a pair.b number device word (may campaign.A by number device word refl).b_takes none
said_fine campaign.B pair (Across campaign.B by number device word) may none = refl
said_fine x pair Nobody may none = absurd cc

-- ---- a line of which no cause holds

pub record Unrefused (pair : PairState) (line : List ℕ) : Type 0 where
  pub few : (x : Campaign) → nat_le max_lines (side pair x).lines ≡ false
  pub short : nat_lt max_line (length line) ≡ false
  pub pair_form : PairForm
  pub spells : pair_form_of line ≡ Some pair_form
  pub common : common_cause pair pair_form ≡ None
  pub target : target_cause pair (target_in pair pair_form) ≡ None
  pub fine : (x : Campaign) → said_cause (side pair x) (said_to x pair (target_in pair pair_form)) ≡ None

by_form : (pair : PairState) (found : Option PairForm) → cause_of_pair_form pair found ≡ None
    → (pair_form : PairForm) × (found ≡ Some pair_form) × (pair_form_cause pair pair_form ≡ None)
by_form pair None none = absurd cc
by_form pair (Some pair_form) none = (pair_form, refl, none)

by_tests : (many_a many_b long : Bool) (rest : Option LineWhy) → cond (many_a || many_b || long) (Some why.Limit) rest ≡ None
    → (many_a ≡ false) × (many_b ≡ false) × (long ≡ false) × (rest ≡ None)
by_tests true many_b long rest none = absurd cc
by_tests false true long rest none = absurd cc
by_tests false false true rest none = absurd cc
by_tests false false false rest none = (refl, refl, refl, none)

few_of : (x : Campaign) (pair : PairState) → nat_le max_lines pair.a.lines ≡ false → nat_le max_lines pair.b.lines ≡ false
    → nat_le max_lines (side pair x).lines ≡ false
few_of campaign.A pair a b = a
few_of campaign.B pair a b = b

pub unrefused : (pair : PairState) (line : List ℕ) → pair_cause_of pair line ≡ None → Unrefused pair line
unfolding pair_cause_of
unrefused pair line none =
    let tests = by_tests (nat_le max_lines pair.a.lines) (nat_le max_lines pair.b.lines) (nat_lt max_line (length line)) _ none in
    let found = by_form pair (pair_form_of line) tests.3 in
    let target : Target = target_in pair found.0 in
    let both = neither (common_cause pair found.0) (target_cause pair target) found.2 in
    record {
      few = λ x. few_of x pair tests.0 tests.1;
      short = tests.2;
      pair_form = found.0;
      spells = found.1;
      common = both.0;
      target = both.1;
      fine = λ x. said_fine x pair target (λ y by number device word is. may_cross_over pair found.0 target y by number device word (sym both.0) refl is) both.1;
    }

-- ---- what it is to each

pub cause_is : (world : WorldState) (said : Said) → nat_le max_lines world.lines ≡ false
    → said_cause world said ≡ None → cause_of world (Ok said) ≡ None
unfolding cause_of
cause_is world said few none = rw few none

pub after_is : (pair : PairState) (line : List ℕ) (pair_form : PairForm) → pair_form_of line ≡ Some pair_form
    → after_pair_line pair line ≡ after_target pair (target_in pair pair_form)
unfolding after_pair_line
after_is pair line pair_form spells = rw spells refl

pub said_by : (x : Campaign) (pair : PairState) (line : List ℕ) (pair_form : PairForm) → pair_form_of line ≡ Some pair_form
    → line_to x pair line ≡ Ok (said_to x pair (target_in pair pair_form))
said_by x pair line pair_form spells = rw spells refl

pub side_after : (x : Campaign) (pair : PairState) (target : Target)
    → side (after_target pair target) x ≡ after_line (side pair x) (Ok (said_to x pair target))
unfolding after_target
side_after campaign.A pair target = refl
side_after campaign.B pair target = refl
