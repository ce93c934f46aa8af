-- Rows, their sums and their room, worked out.
use Rattle.std.specs.Prelude.{◌≡◌, ℕ, ◌+◌, ◌^◌, true, false, [], ◌∷◌}
use Rattle.row_arena.specs.Limits.{max_words, max_bytes, max_width}
use Rattle.row_arena.specs.Rows.{Row, Arena, zero_row, row_at, with_row, row_sum, words_for, has_room, line_in}
use Rattle.row_arena.specs.Sums.{after_pieces, after_flips}

-- a row of two bytes
abbrev pub row : (line a b : ℕ) → Row
row line a b = record { line = line; part = a ∷ b ∷ [] }

abbrev pub two_rows : Arena
two_rows = record { cols = 3; cell = 2; rows = row 5 1 2 ∷ row 6 3 8 ∷ [] }

pub record WorkedRows : Type 0 where
  -- 64 columns a word
  pub no_words : words_for 0 ≡ 0
  pub one_word : words_for 64 ≡ 1
  pub two_words : words_for 65 ≡ 2
  -- three rows of two words and 13 bytes
  pub room : has_room 6 39 3 65 13 ≡ true
  pub words : has_room 5 39 3 65 13 ≡ false
  pub bytes : has_room 6 38 3 65 13 ≡ false
  -- column 0 is the lowest bit of the first word
  pub line : line_in (5 ∷ 2 ∷ []) ≡ 1 + 4 + 2 ^ 65
  pub zero : zero_row 2 ≡ row 0 0 0
  pub sum : row_sum (row 5 1 2) (row 6 3 8) ≡ row 3 2 10
  pub first : row_at two_rows 0 ≡ row 5 1 2
  pub second : row_at two_rows 1 ≡ row 6 3 8
  pub other_row : with_row two_rows 1 (row 7 4 4) ≡ record two_rows { rows = row 5 1 2 ∷ row 7 4 4 ∷ [] }
  -- byte 1 of the pieces 0 and 2 of two bytes each, added to 64
  pub pieces : after_pieces 2 (1 ∷ 2 ∷ 4 ∷ 8 ∷ 16 ∷ 32 ∷ []) 1 64 (0 ∷ 2 ∷ []) ≡ 64 + 2 + 32
  -- columns 0 and 1 of a line of the columns 0 and 2
  pub flips : after_flips 5 (0 ∷ 1 ∷ []) ≡ 6
  pub most_words : max_words ≡ 16384
  pub most_bytes : max_bytes ≡ 61184
  pub widest : max_width ≡ 1024
