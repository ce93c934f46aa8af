-- What a form says to both campaigns.
use Rattle.std.proofs.Common.{◌≡◌, [], true, refl}
use Rattle.script_lines.specs.declared.forms.Campaign.{Campaign}
use Rattle.script_lines.specs.declared.forms.Form.{Form}
use Rattle.script_lines.specs.declared.forms.Form.TheVariants as form
use Rattle.campaign_world.specs.Said.{Own}
use Rattle.campaign_world.specs.HeldWorld.{IsFine}
use Rattle.pair_run.specs.Pair.{PairState}
use Rattle.pair_run.specs.Sides.{is_quiet}
use Rattle.pair_run.specs.PairCauses.{both_cause, target_cause}
use Rattle.pair_run.specs.PairMaking.{said_to, newcomers}
use Rattle.pair_run.specs.HeldTargets.{told_both}
use Rattle.pair_run.specs.HeldPair.{HeldPair, IsFineTarget}

pub both_said : (x : Campaign) (pair : PairState) (f : Form) → is_quiet f ≡ true → said_to x pair (told_both f) ≡ Own f
both_said x pair form.Header quiet = refl
both_said x pair (form.At time) quiet = refl
both_said x pair form.End quiet = refl
both_said x pair f quiet = absurd cc

pub both_newcomers : (f : Form) → newcomers (told_both f) ≡ []
both_newcomers form.Header = refl
both_newcomers (form.At time) = refl
both_newcomers form.End = refl
both_newcomers f = refl

pub both_refused : (pair : PairState) (f : Form) → is_quiet f ≡ true → target_cause pair (told_both f) ≡ both_cause pair f
both_refused pair form.Header quiet = refl
both_refused pair (form.At time) quiet = refl
both_refused pair form.End quiet = refl
both_refused pair f quiet = absurd cc

-- what is fine to both is one of the three
pub record FineToBoth (held : HeldPair) (f : Form) : Type 0 where
  pub quiet : is_quiet f ≡ true
  pub a : IsFine held.a f
  pub b : IsFine held.b f

pub fine_both : (held : HeldPair) (f : Form) → IsFineTarget held (told_both f) → FineToBoth held f
fine_both held form.Header fine = record { quiet = refl; a = fine.0; b = fine.1 }
fine_both held (form.At time) fine = record { quiet = refl; a = fine.0; b = fine.1 }
fine_both held form.End fine = record { quiet = refl; a = fine.0; b = fine.1 }
fine_both held f fine = absurd fine
