-- Where the places are: pieces in the area, one after the other; the line and the part of each row in a slot of the arena.
use Rattle.std.specs.Prelude.{◌≡◌, ◌≢◌, ℕ, suc, ◌^◌, ◌<◌, ◌≤◌, List, [], ◌∷◌, length, get_or, set, ◌==◌, if◌then◌else◌}
use Rattle.std.specs.Int.{bit_at}
use Rattle.row_arena.specs.Rows.{Arena, Row as Line, row_at, row_sum, line_in, words_for}
use Rattle.row_arena.specs.Stretch.{stretch}
use Rattle.row_elimination.specs.declared.columns.Column.{Column}
use Rattle.row_elimination.specs.declared.columns.Column.TheVariants.{Free, Piece, Row}
use Rattle.row_elimination.specs.HeldPlaces.{Place, free, piece, row}

-- what the storage says of column c
unfoldable pub place_in : ℕ → List ℕ → Arena → ℕ → Column → Place
place_in size area arena c Free = free
place_in size area arena c Piece = piece (stretch c size area)
place_in size area arena c (Row slot) = row (row_at arena slot).line (row_at arena slot).part

-- what it says of the columns from c on
unfoldable pub places_from : ℕ → List ℕ → Arena → ℕ → List Column → List Place
places_from size area arena c [] = []
places_from size area arena c (o ∷ os) = place_in size area arena c o ∷ places_from size area arena (suc c) os

unfoldable pub places_in : ℕ → List ℕ → Arena → List Column → List Place
places_in size area arena os = places_from size area arena 0 os

-- the arena has the rows that the columns name, of this size, and no two columns lead one row
pub record IsStored (size : ℕ) (arena : Arena) (os : List Column) : Type 0 where
  pub cols : arena.cols ≡ length os
  pub cell : arena.cell ≡ size
  pub rows : (c slot : ℕ) → get_or os c Free ≡ Row slot → slot < length arena.rows
  pub parts : (c slot : ℕ) → get_or os c Free ≡ Row slot → length (row_at arena slot).part ≡ size
  pub alone : (c d slot : ℕ) → get_or os c Free ≡ Row slot → get_or os d Free ≡ Row slot → c ≡ d

-- a line and a part that the arena takes as a row
pub record IsRowOf (arena : Arena) (line part : List ℕ) : Type 0 where
  pub words : length line ≡ words_for arena.cols
  pub within : line_in line < 2 ^ arena.cols
  pub sized : length part ≡ arena.cell

-- as many rows as before, of the same shape
pub record SameShape (old new : Arena) : Type 0 where
  pub cols : new.cols ≡ old.cols
  pub cell : new.cell ≡ old.cell
  pub rows : length new.rows ≡ length old.rows

-- a row without the column of a new row
unfoldable pub line_cleared : ℕ → ℕ → List ℕ → Line → Line
line_cleared p y q r = if bit_at r.line p == 1 then row_sum r (record { line = y; part = q }) else r

-- one row was cleared of a new row's column, and all else stayed
pub record Clears (slot p y : ℕ) (q : List ℕ) (old new : Arena) : Type 0 where
  pub here : row_at new slot ≡ line_cleared p y q (row_at old slot)
  pub others : (s : ℕ) → s ≢ slot → row_at new s ≡ row_at old s
  pub shape : SameShape old new

-- all rows were
pub record ClearsAll (p y : ℕ) (q : List ℕ) (old new : Arena) : Type 0 where
  pub each : (s : ℕ) → s < length old.rows → row_at new s ≡ line_cleared p y q (row_at old s)
  pub shape : SameShape old new

-- what is kept of a column once its piece is in the area: there the piece, or in its slot the part of its row
unfoldable pub part_in : ℕ → List ℕ → Arena → ℕ → Column → List ℕ
part_in size area arena c Free = stretch c size area
part_in size area arena c Piece = stretch c size area
part_in size area arena c (Row slot) = (row_at arena slot).part

-- which slots are in use: each by one column, and the spare ones by none
pub record Slots (os : List Column) (spare : List ℕ) (rows count : ℕ) : Type 0 where
  pub within : (c slot : ℕ) → get_or os c Free ≡ Row slot → slot < rows
  pub alone : (c d slot : ℕ) → get_or os c Free ≡ Row slot → get_or os d Free ≡ Row slot → c ≡ d
  pub few : count ≤ rows
  pub spare_within : (i : ℕ) → count ≤ i → i < rows → get_or spare i 0 < rows
  pub spare_free : (i c : ℕ) → count ≤ i → i < rows → get_or os c Free ≢ Row (get_or spare i 0)
  pub spare_alone : (i j : ℕ) → count ≤ i → i < rows → count ≤ j → j < rows → get_or spare i 0 ≡ get_or spare j 0 → i ≡ j

-- a row was put into the slot that was kept, if one was
pub record TakesOver (kept : Column) (p y : ℕ) (q : List ℕ) (arena arena' : Arena) (os os' : List Column) : Type 0 where
  pub row : (slot : ℕ) → kept ≡ Row slot → (os' ≡ set os p (Row slot))
      × ((size : ℕ) (area : List ℕ) → places_in size area arena' os' ≡ set (places_in size area arena os) p (row y q))
  pub none : ((slot : ℕ) → kept ≢ Row slot) → (os' ≡ os) × (arena' ≡ arena)
