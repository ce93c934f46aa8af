use Rattle.std.proofs.Common.{refl, ◌≡◌, List, None, length, ◌∙◌, sym}
use Rattle.device_core.specs.Device.{DeviceState}
use Rattle.pair_run.specs.PairCauses.{target_in}
use Rattle.pair_run.specs.HeldPair.{pair_of}
use Rattle.pair_run.specs.HeldTargets.{told}
use Rattle.pair_run.proofs.Accepts.{common_first, then_target, target_is, fine_target, may_cross_over, some_both}
use Rattle.pair_run.proofs.pair.Pair.accept.Goals as goal

pub returns-in-Some-clause-why : goal.returns-in-Some-clause-why
returns-in-Some-clause-why c = λ a b count_a count_b.
    common_first (pair_of c.args.self.now a b) c.args.pair_form.now c.in-Some.why (sym c.in-Some.is ∙ c.common_cause.ensures a b count_a count_b)

pub returns-in-None-clause-target : goal.returns-in-None-clause-target
returns-in-None-clause-target c =
    let same : (a b : List DeviceState) → length a ≡ length c.args.self.now.a.devices → length b ≡ length c.args.self.now.b.devices
    → told c.whose_of-whose.result c.whose_of-whose.new.pair_form.form ≡ target_in (pair_of c.args.self.now a b) c.args.pair_form.now = λ a b count_a count_b.
    target_is c.args.self.now a b _ _ _ c.args.pair_form.now (told c.whose_of-whose.result c.whose_of-whose.new.pair_form.form) c.whose_of-whose.ensures.told
    (rw (← c.self.view_is) c.deref-owners.ensures.value) (rw (← c.self.view_is) refl) (rw (← c.self.view_is) refl) count_a count_b in
    record {
      unrefused = λ a b count_a count_b.
          then_target (pair_of c.args.self.now a b) c.args.pair_form.now (told c.whose_of-whose.result c.whose_of-whose.new.pair_form.form) None
          (sym c.in_default.is ∙ c.common_cause.ensures a b count_a count_b) (same a b count_a count_b)
          (sym c.in-None.is ∙ c.target_cause.ensures a b count_a count_b);
      says = same;
      fine = fine_target c.args.self.now (told c.whose_of-whose.result c.whose_of-whose.new.pair_form.form)
          (λ a b count_a count_b. sym (c.target_cause.ensures a b count_a count_b) ∙ c.in-None.is)
          (λ x by number device word crossing. let of = some_both c.args.self.now in
          may_cross_over (pair_of c.args.self.now of.a of.b) c.args.pair_form.now (told c.whose_of-whose.result c.whose_of-whose.new.pair_form.form) x by number device word
          (sym c.in_default.is ∙ c.common_cause.ensures of.a of.b of.long_a of.long_b) (same of.a of.b of.long_a of.long_b) crossing);
    }
