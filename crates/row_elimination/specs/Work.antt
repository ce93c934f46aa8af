-- What feeding a fragment counts. (This project's profile.)
use Rattle.std.specs.Prelude.{◌≡◌, ℕ, ◌+◌, ◌*◌, ◌/◌, ◌≤◌, max}
use Rattle.frag_model.specs.Fragments.{Shape, columns_in, draws_of, line_of}

-- so many parts more were added to another, at most one for each column of a line
abbrev pub AddsColumns : (line sums sums_now : ℕ) → Type 0
AddsColumns line sums sums_now = sums_now ≤ sums + columns_in line

-- fragment n of a file was taken in, between these two counts of states drawn and of sums made
pub record CountsWork (shape : Shape) (n drawn drawn_now summed summed_now : ℕ) : Type 0 where
  -- just the draws of its line, none for a piece
  pub draws : drawn_now ≡ drawn + draws_of shape.nb_frag n
  pub few_draws : drawn_now ≤ drawn + 25 * (shape.nb_frag / 2)
  -- at most one sum for each column of its line and one for each row
  pub sums : summed_now ≤ summed + columns_in (line_of shape.nb_frag n) + shape.rows
  -- so at most one for each of half the file's pieces, and one for each row
  pub few_sums : summed_now ≤ summed + max 1 (shape.nb_frag / 2) + shape.rows
