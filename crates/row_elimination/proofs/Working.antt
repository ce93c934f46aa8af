-- What a fragment's work comes to.
use Rattle.std.proofs.Common.{◌≡◌, ℕ, ◌+◌, ◌*◌, ◌/◌, ◌≤◌, arith}
use Rattle.frag_model.specs.Fragments.{Shape, columns_in, draws_of, line_of}
use Rattle.frag_model.proofs.Work.{draws_of_piece, few_in_line}
use Rattle.row_elimination.specs.Work.{CountsWork}

-- a line that was drawn, and the sums that were made over it
pub work_of_line : (shape : Shape) (n drawn drawn_now summed summed_now : ℕ) → drawn_now ≡ drawn + draws_of shape.nb_frag n → drawn_now ≤ drawn + 25 * (shape.nb_frag / 2)
    → summed_now ≤ summed + columns_in (line_of shape.nb_frag n) + shape.rows → CountsWork shape n drawn drawn_now summed summed_now
work_of_line shape n drawn drawn_now summed summed_now draws few sums = record {
  draws = draws;
  few_draws = few;
  sums = sums;
  few_sums = omega (arith, few_in_line shape.nb_frag n);
}

-- a piece for which no line is needed
pub work_of_piece : (shape : Shape) (n drawn summed : ℕ) → n ≤ shape.nb_frag → CountsWork shape n drawn drawn summed summed
work_of_piece shape n drawn summed uncoded =
    work_of_line shape n drawn drawn summed summed (omega (arith, draws_of_piece shape.nb_frag n uncoded)) (omega arith) (omega arith)
