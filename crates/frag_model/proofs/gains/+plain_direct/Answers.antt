use Rattle.std.proofs.Common.{◌+◌, ◌<◌, length, sym, ap, ap₂, ◌∙◌, eqb-true, arith}
use Rattle.std.specs.Prelude.{if◌then◌else◌}
use Rattle.std.proofs.lemmas.Bool.{eqb-false}
use Rattle.frag_model.proofs.Sums.{direct_empty, direct_first}
use Rattle.frag_model.proofs.gains.+plain_direct.Goals as goal

pub returns-then-is_empty-clause-value : goal.returns-then-is_empty-clause-value
returns-then-is_empty-clause-value t c = sym (direct_empty c.args.nb_frag c.args.numbers.now (eqb-true _ _ (sym c.is_empty.ensures ∙ c.if-is_empty.true)))

pub returns-else-is_empty-clause-value : goal.returns-else-is_empty-clause-value
returns-else-is_empty-clause-value t c =
    let ne = eqb-false _ _ (sym c.is_empty.ensures ∙ c.if-is_empty.false) in
    let some : 0 < length c.args.numbers.now = omega (arith, ne) in
    ap₂ ◌+◌ c.plain_direct.ensures.value (c.one_if.ensures.value ∙ ap (λ b. if b then 1 else 0) c.is_new_piece.ensures) ∙ sym (direct_first c.args.nb_frag c.args.numbers.now some)
