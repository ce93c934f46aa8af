use Rattle.std.proofs.Common.{◌+◌, ◌<◌, length, sym, ap, ap₂, ◌∙◌, eqb-true, not, arith}
use Rattle.std.specs.Prelude.{if◌then◌else◌}
use Rattle.std.proofs.lemmas.Bool.{eqb-false}
use Rattle.frag_model.proofs.Sums.{gain_empty, gain_first}
use Rattle.frag_model.proofs.gains.+plain_gain.Goals as goal

pub returns-then-is_empty-clause-value : goal.returns-then-is_empty-clause-value
returns-then-is_empty-clause-value t c = sym (gain_empty c.args.lines.now (eqb-true _ _ (sym c.is_empty.ensures ∙ c.if-is_empty.true)))

pub returns-else-is_empty-clause-value : goal.returns-else-is_empty-clause-value
returns-else-is_empty-clause-value t c =
    let ne = eqb-false _ _ (sym c.is_empty.ensures ∙ c.if-is_empty.false) in
    let some : 0 < length c.args.lines.now = omega (arith, ne) in
    ap₂ ◌+◌ c.plain_gain.ensures.value (c.one_if.ensures.value ∙ ap (λ b. if not b then 1 else 0) c.plain_is_sum.ensures) ∙ sym (gain_first c.args.lines.now some)
