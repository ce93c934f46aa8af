-- Rows of one shape, each with its line, column c as bit c of a number, and its bytes. (This project's profile.)
use Rattle.std.specs.Prelude.{ℕ, ◌+◌, ◌*◌, ◌/◌, ◌^◌, Bool, ◌&&◌, nat_le, List, slice_index_or, slice_set, replicate, bit_xor}
use Rattle.std.specs.Simd.Lanes.{number_l, zip2}

pub record Row : Type 0 where
  pub line : ℕ
  pub part : List ℕ

-- how many columns and bytes each row has, and the rows
pub record Arena : Type 0 where
  pub cols : ℕ
  pub cell : ℕ
  pub rows : List Row

-- a row of no column, whose bytes are all zero
abbrev pub zero_row : ℕ → Row
zero_row cell = record { line = 0; part = replicate cell 0 }

-- row r
unfoldable pub row_at : Arena → ℕ → Row
row_at arena r = slice_index_or arena.rows r (zero_row arena.cell)

-- the same rows, with another instead of row r
abbrev pub with_row : Arena → ℕ → Row → Arena
with_row arena r row = record arena { rows = slice_set arena.rows r row }

-- the XOR of two rows
unfoldable pub row_sum : Row → Row → Row
row_sum a b = record { line = bit_xor a.line b.line; part = zip2 bit_xor a.part b.part }

-- how many words of 64 columns a row takes
unfoldable pub words_for : ℕ → ℕ
words_for cols = (cols + 63) / 64

-- rows of this shape fit in so many words and bytes
unfoldable pub has_room : ℕ → ℕ → ℕ → ℕ → ℕ → Bool
has_room words bytes rows cols cell = nat_le (rows * words_for cols) words && nat_le (rows * cell) bytes

-- the line that words hold, the lowest word first: column c is bit c % 64 of word c / 64
unfoldable pub line_in : List ℕ → ℕ
line_in words = number_l (2 ^ 64) words
