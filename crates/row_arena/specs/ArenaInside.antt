-- What an arena keeps true, and where its rows are.
use Rattle.std.specs.Prelude.{◌≡◌, ℕ, ◌*◌, ◌^◌, ◌<◌, List, map, length}
use Rattle.std.specs.List.{range_with_len}
use Rattle.row_arena.specs.Rows.{Row, words_for, line_in}
use Rattle.row_arena.specs.Stretch.{stretch}

-- what the storage says of row r
unfoldable pub row_in : ℕ → ℕ → List ℕ → List ℕ → ℕ → Row
row_in width cell words bytes r = record { line = line_in (stretch r width words); part = stretch r cell bytes }

-- what it says of all rows
unfoldable pub rows_in : ℕ → ℕ → ℕ → List ℕ → List ℕ → List Row
rows_in rows width cell words bytes = map (λ r. row_in width cell words bytes r) (range_with_len 0 rows)

-- the fields of an arena
pub record IsArena (rows cols cell : ℕ) (words bytes : List ℕ) : Type 0 where
  pub words_sized : length words ≡ rows * words_for cols
  pub bytes_sized : length bytes ≡ rows * cell
  pub within : (r : ℕ) → r < rows → line_in (stretch r (words_for cols) words) < 2 ^ cols
