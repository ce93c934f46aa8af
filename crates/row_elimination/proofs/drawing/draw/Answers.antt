use Rattle.std.proofs.Common.{sym, ◌∙◌, arith}
use Rattle.frag_model.proofs.Sums.{line_of_coded}
use Rattle.frag_model.proofs.Uncoded.{line_of_piece}
use Rattle.frag_model.proofs.Work.{draws_of_piece, draws_of_coded}
use Rattle.row_elimination.proofs.Lines.{words_are}
use Rattle.row_elimination.proofs.drawing.draw.Goals as goal

pub returns-then-n-pieces-clause-line : goal.returns-then-n-pieces-clause-line
returns-then-n-pieces-clause-line g c = c.mark_piece.ensures ∙ sym (line_of_piece c.args.pieces c.args.n (omega arith))

pub returns-else-n-pieces-clause-line : goal.returns-else-n-pieces-clause-line
returns-else-n-pieces-clause-line g c =
    words_are c.line.new.out ∙ c.line.ensures.line.line ∙ sym (line_of_coded c.args.pieces c.args.n (omega arith))

pub returns-then-n-pieces-clause-draws : goal.returns-then-n-pieces-clause-draws
returns-then-n-pieces-clause-draws g c = omega (arith, draws_of_piece c.args.pieces c.args.n (omega arith))

pub returns-else-n-pieces-clause-draws : goal.returns-else-n-pieces-clause-draws
returns-else-n-pieces-clause-draws g c = omega (arith, c.line.ensures.drawn.draws, draws_of_coded c.args.pieces c.args.n (omega arith))
