-- What a line in words is, and what drawing it counts.
use Rattle.std.specs.Prelude.{◌≡◌, ◌↔◌, ℕ, ◌+◌, ◌*◌, ◌/◌, ◌%◌, ◌^◌, ◌<◌, ◌≤◌, List, All, IsBitSet, slice_index}
use Rattle.frag_model.specs.Members.{In}
use Rattle.frag_model.specs.Parity.{columns_drawn, line, draws}
use Rattle.parity_lines.specs.Words.{words_number}

-- these words are the line of coded fragment n over so many columns
pub record IsLine (n cols : ℕ) (out : List ℕ) : Type 0 where
  pub line : words_number out ≡ line n cols
  -- column c is bit c % 64 of word c / 64
  pub columns : (c : ℕ) → IsBitSet (slice_index out (c / 64)) (c % 64) ↔ In c (columns_drawn n cols)
  pub words : All (λ w. w < 2 ^ 64) out

-- it was drawn between these two counts
pub record IsDrawn (n cols before after : ℕ) : Type 0 where
  -- one step for each state of the register
  pub draws : after ≡ before + draws n cols
  pub few : after ≤ before + 25 * (cols / 2)
