use Rattle.std.proofs.Common.{◌-◌, sym, ◌∙◌, arith}
use Rattle.frag_model.proofs.Sums.{one_shifted, line_of_coded}
use Rattle.frag_model.proofs.Uncoded.{line_of_piece}
use Rattle.frag_model.proofs.gains.plain_line_of.Goals as goal

pub returns-then-n-nb_frag : goal.returns-then-n-nb_frag
returns-then-n-nb_frag c = one_shifted (c.args.n - 1) (omega arith) ∙ sym (line_of_piece c.args.nb_frag c.args.n c.if-n-nb_frag.true)

pub returns-else-n-nb_frag : goal.returns-else-n-nb_frag
returns-else-n-nb_frag c = c.plain_word.ensures ∙ c.plain_line.ensures.line ∙ sym (line_of_coded c.args.nb_frag c.args.n c.if-n-nb_frag.false)
