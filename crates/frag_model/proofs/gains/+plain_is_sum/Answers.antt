use Rattle.std.proofs.Common.{◌<◌, ◌||◌, ◌-◌, length, get_or, take, drop, bit_xor, sym, ap, ◌∙◌, eqb-true, arith}
use Rattle.std.proofs.lemmas.Bool.{eqb-false}
use Rattle.frag_model.specs.Gain.{is_sum}
use Rattle.frag_model.proofs.Sums.{is_sum_empty, is_sum_first}
use Rattle.frag_model.proofs.gains.+plain_is_sum.Goals as goal

pub returns-then-is_empty : goal.returns-then-is_empty
returns-then-is_empty t c = sym (is_sum_empty c.args.x c.args.lines.now (eqb-true _ _ (sym c.is_empty.ensures ∙ c.if-is_empty.true)))

pub returns-then-plain_is_sum : goal.returns-then-plain_is_sum
returns-then-plain_is_sum t c =
    let ne = eqb-false _ _ (sym c.is_empty.ensures ∙ c.if-is_empty.false) in
    let some : 0 < length c.args.lines.now = omega (arith, ne) in
    let found = sym c.plain_is_sum.ensures ∙ c.if-plain_is_sum.true in
    let older = take (length c.args.lines.now - 1) (drop 1 c.args.lines.now) in
    c.if-plain_is_sum.true ∙ sym (is_sum_first c.args.x c.args.lines.now some ∙ ap (λ r. r || is_sum (bit_xor (get_or c.args.lines.now 0 0) c.args.x) older) found)

pub returns-else-plain_is_sum : goal.returns-else-plain_is_sum
returns-else-plain_is_sum t c =
    let ne = eqb-false _ _ (sym c.is_empty.ensures ∙ c.if-is_empty.false) in
    let some : 0 < length c.args.lines.now = omega (arith, ne) in
    let missed = sym c.plain_is_sum.ensures ∙ c.if-plain_is_sum.false in
    let older = take (length c.args.lines.now - 1) (drop 1 c.args.lines.now) in
    c.plain_is_sum-else-plain_is_sum.ensures ∙ sym (is_sum_first c.args.x c.args.lines.now some ∙ ap (λ r. r || is_sum (bit_xor (get_or c.args.lines.now 0 0) c.args.x) older) missed)
