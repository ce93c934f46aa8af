use Rattle.std.proofs.Common.{sym, ap, ◌∙◌, ◌+◌, cond, Bool}
use Rattle.frag_model.specs.Parity.{modulus}
use Rattle.frag_model.proofs.lines.plain_modulus.Goals as goal

pub returns-then-is_power_of_two-clause-value : goal.returns-then-is_power_of_two-clause-value
unfolding modulus
returns-then-is_power_of_two-clause-value c = ap (λ (t : Bool). cond t (c.args.cols + 1) c.args.cols) (sym c.if-is_power_of_two.true ∙ c.is_power_of_two.ensures)

pub returns-else-is_power_of_two-clause-value : goal.returns-else-is_power_of_two-clause-value
unfolding modulus
returns-else-is_power_of_two-clause-value c = ap (λ (t : Bool). cond t (c.args.cols + 1) c.args.cols) (sym c.if-is_power_of_two.false ∙ c.is_power_of_two.ensures)
