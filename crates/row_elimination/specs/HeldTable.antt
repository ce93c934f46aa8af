-- The table as a value, and what its fields keep true.
use Rattle.std.specs.Prelude.{◌≡◌, ℕ, ◌*◌, ◌/◌, ◌≤◌, List, length, take, set}
use Rattle.frag_model.specs.Fragments.{Shape}
use Rattle.frag_model.specs.Limits.{max_pieces}
use Rattle.row_arena.specs.Limits.{max_bytes, max_words}
use Rattle.row_arena.specs.Rows.{Arena, line_in, words_for}
use Rattle.row_elimination.specs.declared.columns.Column.{Column}
use Rattle.row_elimination.specs.HeldPlaces.{Place, piece, rows_held, gained_held}
use Rattle.row_elimination.specs.Inside.{IsReduced, Marks}
use Rattle.row_elimination.specs.HeldStorage.{places_in, Slots}
use Rattle.row_elimination.specs.Room.{Extent}

-- how many words of 64 columns the line of the largest file takes
abbrev pub max_line_words : ℕ
max_line_words = max_pieces / 64

-- what is held, the bytes of the area that were written so far, and what there is memory for
pub record Grid : Type 0 where
  pub shape : Shape
  pub places : List Place
  pub area : List ℕ
  pub room : Extent

-- the fields of a table
pub record IsGrid (nb_frag size rows count gained : ℕ) (columns : List Column) (spare known area : List ℕ) (arena : Arena) : Type 0 where
  pub most : nb_frag ≤ max_pieces
  pub few : rows ≤ nb_frag
  pub columns_sized : nb_frag ≤ length columns
  pub spare_sized : rows ≤ length spare
  pub known_sized : words_for nb_frag ≤ length known
  pub arena_cols : arena.cols ≡ nb_frag
  pub arena_cell : arena.cell ≡ size
  pub arena_rows : length arena.rows ≡ rows
  pub slots : Slots (take nb_frag columns) spare rows count
  pub reduced : IsReduced nb_frag size (places_in size area arena (take nb_frag columns))
  pub marks : Marks (line_in (take (words_for nb_frag) known)) (places_in size area arena (take nb_frag columns))
  pub counted : count ≡ rows_held (places_in size area arena (take nb_frag columns))
  pub gained_all : gained ≡ gained_held (places_in size area arena (take nb_frag columns))

-- the capacities are for files of so many pieces, and for an area of so many bytes
pub record HaveMemory (most room columns spare known area : ℕ) : Type 0 where
  pub few : most ≤ max_pieces
  pub columns_held : most ≤ columns
  pub spare_held : most ≤ spare
  pub known_held : words_for most ≤ known
  pub area_held : room ≤ area

-- the same, of a table whose rows have so many words and bytes in all, with the capacities of its four vectors
pub record IsTable (words bytes nb_frag size rows count gained most room columns_cap spare_cap known_cap area_cap : ℕ)
    (columns : List Column) (spare known area : List ℕ) (arena : Arena) : Type 0 where
  pub words_few : words ≤ max_words
  pub bytes_few : bytes ≤ max_bytes
  pub memory : HaveMemory most room columns_cap spare_cap known_cap area_cap
  pub within : nb_frag ≤ most
  pub area_fits : length area ≤ room
  pub pieces_fit : nb_frag * size ≤ room
  pub grid : IsGrid nb_frag size rows count gained columns spare known area arena

-- the storage itself stays
pub record SameRoom (old new : Grid) : Type 0 where
  pub shape : new.shape ≡ old.shape
  pub room : new.room ≡ old.room

-- the piece of a column was put in
pub record IsPut (k : ℕ) (part : List ℕ) (old new : Grid) : Type 0 where
  pub places : new.places ≡ set old.places k (piece part)
  pub room : SameRoom old new
