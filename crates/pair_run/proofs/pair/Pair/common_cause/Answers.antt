use Rattle.std.proofs.Common.{refl, sym, ◌∙◌}
use Rattle.pair_run.specs.PairCauses.{common_cause}
use Rattle.pair_run.proofs.pair.Pair.common_cause.Goals as goal

pub returns-then-not-comes : goal.returns-then-not-comes
unfolding common_cause
returns-then-not-comes c = λ a b count_a count_b. rw (sym c.comes.ensures ∙ c.if-not-comes.true) refl

pub returns-then-not-is_in_range : goal.returns-then-not-is_in_range
unfolding common_cause
returns-then-not-is_in_range c = λ a b count_a count_b. rw (sym c.comes.ensures ∙ c.if-not-comes.false, sym c.is_in_range.ensures ∙ c.if-not-is_in_range.true) refl

pub returns-then-not-names_device : goal.returns-then-not-names_device
unfolding common_cause
returns-then-not-names_device c = λ a b count_a count_b. rw (sym c.comes.ensures ∙ c.if-not-comes.false, sym c.is_in_range.ensures ∙ c.if-not-is_in_range.false, sym c.names_device.ensures ∙ c.if-not-names_device.true) refl

pub returns-then-not-fits_flash : goal.returns-then-not-fits_flash
unfolding common_cause
returns-then-not-fits_flash c = λ a b count_a count_b. rw (sym c.comes.ensures ∙ c.if-not-comes.false, sym c.is_in_range.ensures ∙ c.if-not-is_in_range.false, sym c.names_device.ensures ∙ c.if-not-names_device.false, sym c.fits_flash.ensures ∙ c.if-not-fits_flash.true) refl

pub returns : goal.returns
unfolding common_cause
returns c = λ a b count_a count_b. rw (sym c.comes.ensures ∙ c.if-not-comes.false, sym c.is_in_range.ensures ∙ c.if-not-is_in_range.false, sym c.names_device.ensures ∙ c.if-not-names_device.false, sym c.fits_flash.ensures ∙ c.if-not-fits_flash.false) refl
