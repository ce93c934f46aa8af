-- What the calls inside ask of their arguments, each in one record: a caller's proof compares the one name and its
-- arguments, where it would write out each of the clauses.
use Rattle.std.specs.Prelude.{◌≡◌, ◌≢◌, ◌⊎◌, ℕ, ◌+◌, ◌-◌, ◌*◌, ◌^◌, ◌<◌, ◌≤◌, List, length, get_or, take, false}
use Rattle.std.specs.Int.{bit_at}
use Rattle.frag_model.specs.Fragments.{IsPiece, line_of, xor_bytes}
use Rattle.frag_model.specs.Limits.{max_parity_index, max_pieces}
use Rattle.row_arena.specs.Rows.{Arena, line_in, words_for}
use Rattle.row_elimination.specs.declared.columns.Column.{Column}
use Rattle.row_elimination.specs.declared.columns.Column.TheVariants.{Free, Piece, Row}
use Rattle.row_elimination.specs.PackedColumns.{last_slot}
use Rattle.row_elimination.specs.HeldPlaces.{free, piece, is_piece, rows_held, gained_held, grown}
use Rattle.row_elimination.specs.Inside.{IsReduced, Marks}
use Rattle.row_elimination.specs.HeldStorage.{places_in, IsStored, IsRowOf}
use Rattle.row_elimination.specs.HeldSteps.{IsNew, Knows}
use Rattle.row_elimination.specs.HeldTable.{Grid, max_line_words}
use Rattle.row_elimination.specs.HeldTaking.{IsReady}

-- taking all that is kept out of an equation
pub record MayPass (columns : List Column) (area known : List ℕ) (arena : Arena) (line ps part rest : List ℕ) : Type 0 where
  pub stored : IsStored (length part) arena columns
  pub marks : Marks (line_in known) (places_in (length part) area arena columns)
  pub reduced : IsReduced (length columns) (length part) (places_in (length part) area arena columns)
  pub piece : IsPiece (length part) part
  pub words : length line ≡ words_for (length columns)
  pub same : length line ≡ length known
  pub few : length line ≤ max_line_words
  pub within : line_in line < 2 ^ length columns
  pub picks : 64 * length line ≤ length ps
  pub sized : length rest ≡ length part

-- taking all rows out of an equation, which has no column of which a piece is kept
pub record MayTakeRows (columns : List Column) (arena : Arena) (line ps rest : List ℕ) : Type 0 where
  pub stored : IsStored (length rest) arena columns
  pub words : length line ≡ words_for (length columns)
  pub few : length line ≤ max_line_words
  pub within : line_in line < 2 ^ length columns
  pub none : (c : ℕ) → get_or columns c Free ≡ Piece → bit_at (line_in line) c ≡ 0
  pub picks : 64 * length line ≤ length ps

-- adding a row in a slot
pub record MayAddRow (os : List Column) (arena : Arena) (s p : ℕ) (line part : List ℕ) : Type 0 where
  pub columns : arena.cols ≤ length os
  pub inside : p < arena.cols
  pub stored : IsStored (length part) arena (take arena.cols os)
  pub new : IsRowOf arena line part
  pub slot : s < length arena.rows
  pub fits : s ≤ last_slot
  pub alone : (c : ℕ) → get_or (take arena.cols os) c Free ≢ Row s

-- adding a piece, and a row in place of the one that its column led
pub record MayAddBoth (os : List Column) (area : List ℕ) (arena : Arena) (k : ℕ) (piece : List ℕ) (p : ℕ) (line part : List ℕ) : Type 0 where
  pub columns : arena.cols ≤ length os
  pub inside : p < arena.cols
  pub piece_inside : k < arena.cols
  pub sized : length piece ≡ length part
  pub room : k * length part + length part ≤ length area
  pub stored : IsStored (length part) arena (take arena.cols os)
  pub new : IsRowOf arena line part
  pub kind : (k ≡ p) ⊎ ((k ≢ p) × ((slot : ℕ) × (get_or (take arena.cols os) k Free ≡ Row slot)))
  pub lead : get_or (take arena.cols os) p Free ≡ Free

-- reducing an equation by a table
pub record MayReduce (g : Grid) (line ps part rest : List ℕ) : Type 0 where
  pub words : length line ≡ words_for g.shape.nb_frag
  pub within : line_in line < 2 ^ g.shape.nb_frag
  pub picks : 64 * length line ≤ length ps
  pub sized : length rest ≡ length part
  pub piece : IsPiece g.shape.frag_size part

-- a new row for a table
pub record MayPush (g : Grid) (p : ℕ) (line part : List ℕ) : Type 0 where
  pub words : length line ≡ words_for g.shape.nb_frag
  pub sized : length part ≡ g.shape.frag_size
  pub new : IsNew g.shape.nb_frag g.shape.frag_size g.places p (line_in line) part
  pub room : rows_held g.places < g.shape.rows

-- a piece and a new row for a table
pub record MayLearn (g : Grid) (k : ℕ) (piece : List ℕ) (p : ℕ) (line part : List ℕ) : Type 0 where
  pub words : length line ≡ words_for g.shape.nb_frag
  pub sized : length part ≡ g.shape.frag_size
  pub new : IsNew g.shape.nb_frag g.shape.frag_size g.places p (line_in line) part
  pub known : Knows g.shape (grown p (line_in line) part g.places) k piece
  pub fresh : is_piece (get_or g.places k free) ≡ false

-- a fragment, with room for a line, for its columns and for the bytes of a piece
pub record MayTake (g : Grid) (n : ℕ) (part line ps rest : List ℕ) : Type 0 where
  pub words : words_for g.shape.nb_frag ≤ length line
  pub picks : 64 * words_for g.shape.nb_frag ≤ length ps
  pub most : g.shape.nb_frag ≤ max_pieces
  pub bytes : length part ≤ length rest
  pub sized : length part ≡ g.shape.frag_size
  pub some : 1 ≤ g.shape.frag_size
  pub first : 1 ≤ n
  pub last : n ≤ g.shape.nb_frag + max_parity_index
  pub more : gained_held g.places < g.shape.nb_frag

-- a fragment whose line was drawn
pub record MayTakeIn (g : Grid) (n : ℕ) (part line ps rest : List ℕ) : Type 0 where
  pub words : length line ≡ words_for g.shape.nb_frag
  pub few : length line ≤ max_line_words
  pub drawn : line_in line ≡ line_of g.shape.nb_frag n
  pub picks : 64 * length line ≤ length ps
  pub sized : length rest ≡ length part
  pub piece : IsPiece g.shape.frag_size part
  pub some : 1 ≤ g.shape.frag_size
  pub first : 1 ≤ n
  pub more : gained_held g.places < g.shape.nb_frag

-- a piece that came before
pub record MayTakeAgain (g : Grid) (n : ℕ) (part before : List ℕ) : Type 0 where
  pub ready : IsReady g n part 0 (xor_bytes part before)
  pub uncoded : n ≤ g.shape.nb_frag
  pub held : get_or g.places (n - 1) free ≡ piece before

-- a piece that did not come before, where no row is held
pub record MayTakeFirst (g : Grid) (n : ℕ) (part : List ℕ) : Type 0 where
  pub ready : IsReady g n part (2 ^ (n - 1)) part
  pub uncoded : n ≤ g.shape.nb_frag
  pub fresh : get_or g.places (n - 1) free ≡ free
  pub none : rows_held g.places ≡ 0

-- a fragment of which a column is left
pub record MayTakeNew (g : Grid) (n : ℕ) (part : List ℕ) (p : ℕ) (line rest : List ℕ) : Type 0 where
  pub ready : IsReady g n part (line_in line) rest
  pub words : length line ≡ words_for g.shape.nb_frag
  pub inside : p < g.shape.nb_frag
  pub has : bit_at (line_in line) p ≡ 1
