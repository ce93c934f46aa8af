use Rattle.frag_model.proofs.Draws.{all_columns, most_draws}
use Rattle.frag_model.proofs.laws.every_line_has_enough_draws.Goals as goal

pub returns : goal.returns
returns c = record { columns = λ n cols last most. all_columns n cols last; draws = most_draws }
