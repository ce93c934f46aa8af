-- What the steps of taking a fragment in ask of each other.
use Rattle.std.specs.Prelude.{◌≡◌, ◌≢◌, ℕ, ◌^◌, ◌<◌, List, length, get_or, Some, bit_xor}
use Rattle.std.specs.Simd.Lanes.{zip2}
use Rattle.std.specs.Int.{bit_at}
use Rattle.frag_model.specs.Fragments.{Shape, Equation, IsPiece, xor_bytes, byte_at}
use Rattle.frag_model.specs.Gain.{IsSum}
use Rattle.row_arena.specs.Rows.{Arena, row_at}
use Rattle.row_elimination.specs.declared.columns.Column.{Column}
use Rattle.row_elimination.specs.declared.columns.Column.TheVariants.{Row}
use Rattle.row_elimination.specs.HeldPlaces.{Place, free, told, lines_held}
use Rattle.row_elimination.specs.Inside.{IsReduced}
use Rattle.row_elimination.specs.HeldStorage.{places_in}

-- byte by byte, the pieces at the line's columns add up to the part
abbrev pub Agrees : List (List ℕ) → ℕ → List ℕ → Type 0
Agrees block line part = (i : ℕ) → byte_at line i block ≡ get_or part i 0

-- the equation at a column
abbrev pub Tells : List Place → ℕ → Equation → Type 0
Tells ps c e = told c (get_or ps c free) ≡ Some e

-- the block agrees with each equation held
abbrev pub AgreesAll : List (List ℕ) → List Place → Type 0
AgreesAll b ps = (c : ℕ) (e : Equation) → Tells ps c e → Agrees b e.line e.part

-- some of the equations held were taken out of an equation: what was added is a sum, with which every fitting block agrees
pub record Taken (cols size : ℕ) (ps : List Place) (line : ℕ) (part : List ℕ) (l : ℕ) (q : List ℕ) : Type 0 where
  pub agrees : (b : List (List ℕ)) → AgreesAll b ps → Agrees b (bit_xor l line) (xor_bytes q part)
  pub sum : IsSum (bit_xor l line) (lines_held ps)
  pub within : l < 2 ^ cols
  pub piece : IsPiece size q

-- an equation reduced by all columns: what was added is a sum, with which every fitting block agrees
pub record Reduced (cols size : ℕ) (ps : List Place) (line : ℕ) (part : List ℕ) (l : ℕ) (q : List ℕ) : Type 0 where
  pub agrees : (b : List (List ℕ)) → AgreesAll b ps → Agrees b (bit_xor l line) (xor_bytes q part)
  pub sum : IsSum (bit_xor l line) (lines_held ps)
  pub clear : (d : ℕ) (e : Equation) → Tells ps d e → bit_at l d ≡ 0
  pub within : l < 2 ^ cols
  pub piece : IsPiece size q

-- a new row: it has none of the columns that lead, and a column to lead
pub record IsNew (cols size : ℕ) (ps : List Place) (p y : ℕ) (q : List ℕ) : Type 0 where
  pub reduced : IsReduced cols size ps
  pub clear : (d : ℕ) (e : Equation) → Tells ps d e → bit_at y d ≡ 0
  pub within : y < 2 ^ cols
  pub part : IsPiece size q
  pub inside : p < cols
  pub own : bit_at y p ≡ 1

-- what the places know of a piece: its column is a sum, and each block that fits has it
pub record Knows (shape : Shape) (ps : List Place) (k : ℕ) (part : List ℕ) : Type 0 where
  pub reduced : IsReduced shape.nb_frag shape.frag_size ps
  pub inside : k < shape.nb_frag
  pub sum : IsSum (2 ^ k) (lines_held ps)
  pub agrees : (b : List (List ℕ)) → AgreesAll b ps → Agrees b (2 ^ k) part
  pub piece : IsPiece shape.frag_size part

-- the row of a column, if it leads one, was added to an equation
pub record TakesRow (arena : Arena) (column : Column) (l : ℕ) (q : List ℕ) (l' : ℕ) (q' : List ℕ) : Type 0 where
  pub none : ((slot : ℕ) → column ≢ Row slot) → (l' ≡ l) × (q' ≡ q)
  pub row : (slot : ℕ) → column ≡ Row slot → (l' ≡ bit_xor l (row_at arena slot).line) × (q' ≡ zip2 bit_xor q (row_at arena slot).part)

-- of an equation of which all pieces were taken out, all rows were too
pub record TakesRows (size : ℕ) (arena : Arena) (os : List Column) (l : ℕ) (q : List ℕ) (l' : ℕ) (q' : List ℕ) : Type 0 where
  pub reduces : (area : List ℕ) (y : ℕ) (part : List ℕ) → IsReduced (length os) size (places_in size area arena os)
      → Taken (length os) size (places_in size area arena os) y part l q → Reduced (length os) size (places_in size area arena os) y part l' q'
