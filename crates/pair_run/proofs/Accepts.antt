-- The first cause for which a line of two campaigns is refused, test by test.
use Rattle.std.proofs.Common.{◌≡◌, ℕ, ◌≤◌, ◌<◌, ◌^◌, Bool, true, false, not, cond, ◌&&◌, List, length, nat_lt, nat_le, Option, Some, None, refl, sym, ap, ◌∙◌, subst, arith}
use Rattle.std.proofs.Math.Bool.{or-true}
use Rattle.std.proofs.lemmas.Bool.{le-leb, lt-ltb, leb-true, ltb-true, and_parts}
use Rattle.std.proofs.lemmas.Bool.Decides.{nat_tests}
use Rattle.device_core.specs.Device.{DeviceState}
use Rattle.wire_base.specs.Numbered.{numbered}
use Rattle.script_lines.specs.declared.forms.Campaign.{Campaign}
use Rattle.script_lines.specs.declared.forms.Campaign.TheVariants as campaign
use Rattle.script_lines.specs.declared.forms.Class.TheVariants as class
use Rattle.script_lines.specs.declared.forms.Form.{Form}
use Rattle.script_lines.specs.declared.forms.Form.TheVariants as form
use Rattle.script_lines.specs.Ranges.{in_range}
use Rattle.campaign_world.proofs.FormCauses.{some_devices}
use Rattle.campaign_world.specs.declared.numbered.SentPayload.{SentPayload}
use Rattle.campaign_world.specs.Causes.{takes_events, is_device, form_cause}
use Rattle.campaign_world.specs.declared.section.Section.{Section}
use Rattle.campaign_world.specs.HeldWorld.{HeldWorld, IsFine, world_of}
use Rattle.script_lines.specs.declared.forms.PairForm.{PairForm}
use Rattle.script_lines.specs.PairForms.{pair_form_of}
use Rattle.script_lines.specs.Limits.{max_lines, max_line}
use Rattle.report_lines.specs.declared.faults.LineWhy.{LineWhy}
use Rattle.report_lines.specs.declared.faults.LineWhy.TheVariants as why
use Rattle.pair_run.specs.declared.owners.Owner.{Owner}
use Rattle.pair_run.specs.declared.targets.Way.{Way}
use Rattle.pair_run.specs.declared.targets.Way.TheVariants as way
use Rattle.pair_run.specs.Targets.{Target, Header, At, End, One, Across, Nobody, to_owner, carried_form, carried_target, common_target, named_target, target_for, target_of}
use Rattle.pair_run.specs.HeldPair.{HeldPair, OfBoth, pair_of, IsCrossing, IsFineTarget}
use Rattle.pair_run.specs.Pair.{PairState, other}
use Rattle.pair_run.specs.PairCauses.{pair_cause_of, pair_form_cause, cause_of_pair_form, common_cause, both_cause, crossing_cause, may_cross, target_cause, target_in, first_of, pair_may_come, is_next, is_apart}
use Rattle.pair_run.specs.PairMaking.{after_target}
use Rattle.pair_run.specs.PairScript.{after_pair_line}
use Rattle.pair_run.proofs.EachTarget.{of_common}

not_le : (a b : ℕ) → b < a → nat_le a b ≡ false
not_le a b below = grind (arith, nat_tests)

not_lt : (a b : ℕ) → b ≤ a → nat_lt a b ≡ false
not_lt a b below = grind (arith, nat_tests)

pub many_a : (pair : PairState) (line : List ℕ) → max_lines ≤ pair.a.lines → pair_cause_of pair line ≡ Some why.Limit
unfolding pair_cause_of
many_a pair line many = rw (le-leb _ _ many) refl

pub many_b : (pair : PairState) (line : List ℕ) → max_lines ≤ pair.b.lines → pair_cause_of pair line ≡ Some why.Limit
unfolding pair_cause_of
many_b pair line many = rw (le-leb _ _ many, or-true) refl

pub long_line : (pair : PairState) (line : List ℕ) → max_line < length line → pair_cause_of pair line ≡ Some why.Limit
unfolding pair_cause_of
long_line pair line long = rw (lt-ltb _ _ long, or-true) refl

pub of_line : (pair : PairState) (line : List ℕ) (form : Option PairForm) → pair.a.lines < max_lines → pair.b.lines < max_lines → length line ≤ max_line
    → form ≡ pair_form_of line → pair_cause_of pair line ≡ cause_of_pair_form pair form
unfolding pair_cause_of
of_line pair line form few_a few_b short is =
    rw (not_le max_lines pair.a.lines few_a, not_le max_lines pair.b.lines few_b, not_lt max_line (length line) short, ← is) refl

-- what concerns both comes first
pub common_first : (pair : PairState) (form : PairForm) (cause : LineWhy) → Some cause ≡ common_cause pair form → pair_form_cause pair form ≡ Some cause
common_first pair form cause is = ap (λ (c : Option LineWhy). first_of c (target_cause pair (target_in pair form))) (sym is)

pub then_target : (pair : PairState) (form : PairForm) (target : Target) (cause : Option LineWhy) → None ≡ common_cause pair form → target ≡ target_in pair form
    → cause ≡ target_cause pair target → pair_form_cause pair form ≡ cause
then_target pair form target cause none is this =
    ap (λ (c : Option LineWhy). first_of c (target_cause pair (target_in pair form))) (sym none)
    ∙ ap (target_cause pair) (sym is) ∙ sym this

pub makes : (pair : PairState) (line : List ℕ) (form : PairForm) (target : Target) → pair_form_of line ≡ Some form → target ≡ target_in pair form
    → after_pair_line pair line ≡ after_target pair target
unfolding after_pair_line
makes pair line form target is same = rw (is) (ap (after_target pair) (sym same))

-- ---- the line is what was read of it

pub target_is : (held : HeldPair) (a b : List DeviceState) (owners : List Owner) (count_a count_b : ℕ) (form : PairForm) (target : Target)
    → target ≡ target_of owners count_a count_b form → owners ≡ held.owners → count_a ≡ length held.a.devices → count_b ≡ length held.b.devices
    → length a ≡ length held.a.devices → length b ≡ length held.b.devices → target ≡ target_in (pair_of held a b) form
target_is held a b owners count_a count_b form target is owners_are a_is b_is long_a long_b =
    rw (long_a, long_b, ← owners_are, ← a_is, ← b_is) is

-- ---- nothing refuses it in its own campaign

pub neither : (one other : Option LineWhy) → first_of one other ≡ None → (one ≡ None) × (other ≡ None)
neither None other is = (refl, is)
neither (Some cause) other is = absurd cc

both_fine : (held : HeldPair) (f : Form) → OfBoth held (λ pair. both_cause pair f ≡ None) → IsFine held.a f × IsFine held.b f
both_fine held f all =
    let of_a = some_devices (length held.a.devices) in
    let of_b = some_devices (length held.b.devices) in (
      λ a long. (neither (form_cause (world_of held.a a) f) (form_cause (world_of held.b of_b.0) f) (all a of_b.0 long of_b.1)).0,
      λ b long. (neither (form_cause (world_of held.a of_a.0) f) (form_cause (world_of held.b b) f) (all of_a.0 b of_a.1 long)).1,
    )

-- what a payload that crosses over is besides
pub record MayCross (a b : Section) (word : ℕ) : Type 0 where
  pub a_takes : takes_events a ≡ true
  pub b_takes : takes_events b ≡ true
  pub random : word < 2 ^ 32

pub cut_cause : (b : Bool) (cause : LineWhy) (rest : Option LineWhy) → cond (not b) (Some cause) rest ≡ None → (b ≡ true) × (rest ≡ None)
cut_cause true cause rest is = (refl, is)
cut_cause false cause rest is = absurd cc

pub sent_there : (by : Way) (sent : Option SentPayload) → may_cross by sent ≡ true → (s : SentPayload) × (sent ≡ Some s)
sent_there by None may = absurd cc
sent_there by (Some s) may = (s, refl)

crosses_well : (by : Way) (from to : HeldWorld) (a b : List DeviceState) (number device word : ℕ) → length b ≡ length to.devices
    → crossing_cause by (world_of from a) (world_of to b) number device ≡ None → takes_events to.section ≡ true → word < 2 ^ 32
    → IsCrossing from to number device word
crosses_well by from to a b number device word long none comes random =
    let one = cut_cause (is_device (length b) device) why.Device _ none in
    let two = cut_cause (may_cross by (numbered from.sent number)) why.Unsent None one.1 in
    let within = and_parts (nat_le 1 device) (nat_le device (length b)) one.0 in
    let last : device ≤ length b = leb-true device (length b) within.1 in
    record {
      comes = comes;
      first = leb-true 1 device within.0;
      last = omega (arith, last, long);
      random = random;
      sent = sent_there by (numbered from.sent number) two.0;
    }

pub fine_target : (held : HeldPair) (target : Target) → OfBoth held (λ pair. target_cause pair target ≡ None)
    → ((x : Campaign) (by : Way) (number device word : ℕ) → target ≡ Across x by number device word → MayCross held.a.section held.b.section word) → IsFineTarget held target
fine_target held Header all may = both_fine held form.Header all
fine_target held (At time) all may = both_fine held (form.At time) all
fine_target held End all may = both_fine held form.End all
fine_target held (One campaign.A f) all may =
    let of_b = some_devices (length held.b.devices) in λ a long. all a of_b.0 long of_b.1
fine_target held (One campaign.B f) all may =
    let of_a = some_devices (length held.a.devices) in λ b long. all of_a.0 b of_a.1 long
fine_target held (Across campaign.A by number device word) all may =
    let of_a = some_devices (length held.a.devices) in
    let of_b = some_devices (length held.b.devices) in
    let m = may campaign.A by number device word refl in
    crosses_well by held.a held.b of_a.0 of_b.0 number device word of_b.1 (all of_a.0 of_b.0 of_a.1 of_b.1) m.b_takes m.random
fine_target held (Across campaign.B by number device word) all may =
    let of_a = some_devices (length held.a.devices) in
    let of_b = some_devices (length held.b.devices) in
    let m = may campaign.B by number device word refl in
    crosses_well by held.b held.a of_b.0 of_a.0 number device word of_a.1 (all of_a.0 of_b.0 of_a.1 of_b.1) m.a_takes m.random
fine_target held Nobody all may =
    let of_a = some_devices (length held.a.devices) in
    let of_b = some_devices (length held.b.devices) in
    let no = all of_a.0 of_b.0 of_a.1 of_b.1 in absurd cc

-- ---- what crosses over is a payload that goes down, or on the air

record GoesOver (f : Form) (word : ℕ) : Type 0 where
  by : Way
  number : ℕ
  device : ℕ
  is : f ≡ carried_form by number device word

over_word : (b : Bool) (own : Form) (y x : Campaign) (by to : Way) (number device word n d w : ℕ)
    → cond {A = Target} b (One y own) (Across y to n d w) ≡ Across x by number device word → w ≡ word
over_word true own y x by to number device word n d w is = absurd cc
over_word false own y x by to number device word n d w is = cc

over_across : (owner : Option Owner) (y x : Campaign) (by to : Way) (number device word n w : ℕ)
    → to_owner (λ o. carried_target y to n w o) owner ≡ Across x by number device word → w ≡ word
over_across None y x by to number device word n w is = absurd cc
over_across (Some o) y x by to number device word n w is = over_word _ _ y x by to number device word n o.number w is

common_across : (owners : List Owner) (f : Form) (x : Campaign) (by : Way) (number device word : ℕ)
    → common_target owners f ≡ Across x by number device word → ⊥
common_across owners f x by number device word =
    of_common (λ (t : Target). t ≡ Across x by number device word → ⊥) (λ is. absurd cc) (λ time is. absurd cc) (λ is. absurd cc) (λ is. absurd cc)
    (λ y g at is. absurd cc) owners f

named_across : (owners : List Owner) (count : ℕ) (y : Campaign) (f : Form) (x : Campaign) (by : Way) (number device word : ℕ)
    → named_target owners count y f ≡ Across x by number device word → GoesOver f word
named_across owners count y (form.Down n d w) x by number device word is = record {
  by = way.Downlink;
  number = n;
  device = d;
  is = ap (λ (k : ℕ). form.Down n d k) (over_across (numbered owners d) y x by way.Downlink number device word n w is);
}
named_across owners count y (form.Air n d w) x by number device word is = record {
  by = way.Air;
  number = n;
  device = d;
  is = ap (λ (k : ℕ). form.Air n d k) (over_across (numbered owners d) y x by way.Air number device word n w is);
}
named_across owners count y (form.Device dev) x by number device word is = absurd cc
named_across owners count y f x by number device word is = absurd cc

across_over : (owners : List Owner) (count_a count_b : ℕ) (named : Option Campaign) (f : Form) (x : Campaign) (by : Way)
    (number device word : ℕ) → target_for owners count_a count_b named f ≡ Across x by number device word → GoesOver f word
across_over owners count_a count_b None f x by number device word is = absurd (common_across owners f x by number device word is)
across_over owners count_a count_b (Some y) f x by number device word is = named_across owners _ y f x by number device word is

record Common (pair : PairState) (form : PairForm) : Type 0 where
  comes : pair_may_come pair.a.section pair.b.section form.campaign form.form ≡ true
  ranges : in_range form.form ≡ true

common_passed : (pair : PairState) (form : PairForm) → None ≡ common_cause pair form → Common pair form
unfolding common_cause
common_passed pair form none =
    let one = cut_cause (pair_may_come pair.a.section pair.b.section form.campaign form.form) why.Order _ (sym none) in
    let two = cut_cause (in_range form.form && is_next (length pair.owners) form.form && is_apart pair.a.server.plan form.campaign form.form) why.Range _ one.1 in
    record { comes = one.0; ranges = (and_parts _ _ (and_parts _ _ two.0).0).0 }

low_word : (by : Way) (number device word : ℕ) → in_range (carried_form by number device word) ≡ true → word < 2 ^ 32
unfolding in_range
low_word way.Downlink number device word is = ltb-true word (2 ^ 32) is
low_word way.Air number device word is = ltb-true word (2 ^ 32) is

come_both : (a b : Section) (named : Option Campaign) (by : Way) (number device word : ℕ)
    → pair_may_come a b named (carried_form by number device word) ≡ true → (takes_events a && takes_events b) ≡ true
come_both a b named way.Downlink number device word is = is
come_both a b named way.Air number device word is = is

-- so it may come to both
pub may_cross_over : (pair : PairState) (pair_form : PairForm) (target : Target) (x : Campaign) (by : Way)
    (number device word : ℕ) → None ≡ common_cause pair pair_form → target ≡ target_in pair pair_form
    → target ≡ Across x by number device word → MayCross pair.a.section pair.b.section word
unfolding target_of
may_cross_over pair pair_form target x by number device word none is crossing =
    let over = across_over pair.owners (length pair.a.devices) (length pair.b.devices) pair_form.campaign pair_form.form x by number device word
    (sym is ∙ crossing) in
    let passed = common_passed pair pair_form none in
    let comes : pair_may_come pair.a.section pair.b.section pair_form.campaign (carried_form over.by over.number over.device word) ≡ true =
    subst (λ (f : Form). pair_may_come pair.a.section pair.b.section pair_form.campaign f ≡ true) over.is passed.comes in
    let both = and_parts (takes_events pair.a.section) (takes_events pair.b.section)
    (come_both pair.a.section pair.b.section pair_form.campaign over.by over.number over.device word comes) in
    record {
      a_takes = both.0;
      b_takes = both.1;
      random = low_word over.by over.number over.device word (subst (λ (f : Form). in_range f ≡ true) over.is passed.ranges);
    }

-- some devices that it may stand for
pub record SomeBoth (held : HeldPair) : Type 0 where
  pub a : List DeviceState
  pub b : List DeviceState
  pub long_a : length a ≡ length held.a.devices
  pub long_b : length b ≡ length held.b.devices

pub some_both : (held : HeldPair) → SomeBoth held
some_both held =
    let of_a = some_devices (length held.a.devices) in
    let of_b = some_devices (length held.b.devices) in
    record { a = of_a.0; b = of_b.0; long_a = of_a.1; long_b = of_b.1 }
