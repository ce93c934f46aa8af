-- What is held of a file while it is received: for each column its piece, or the row that it leads, or nothing.
-- (TS004-1.0.0 leaves recovery to the device; this project's profile.)
use Rattle.std.specs.Prelude.{ℕ, suc, ◌+◌, ◌^◌, Bool, true, false, ◌==◌, List, [], ◌∷◌, ◌++◌, map, set, All, Option, Some, None, bit_xor, if◌then◌else◌}
use Rattle.std.specs.Int.{bit_at}
use Rattle.std.specs.List.{count_by}
use Rattle.std.specs.Option.{option_to_list}
use Rattle.frag_model.specs.Fragments.{Shape, Equation, IsBlock, Meets, xor_bytes}

-- what is held of a column
pub data Place : Type 0 where
  -- nothing is known of it, and no row begins with it
  free : Place
  -- its piece came uncoded
  piece : List ℕ → Place
  -- it leads a row: the line and the part of an equation that coded fragments gave
  row : ℕ → List ℕ → Place

-- the equation that is held there
unfoldable pub told : ℕ → Place → Option Equation
told c free = None
told c (piece part) = Some (record { line = 2 ^ c; part = part })
told c (row line part) = Some (record { line = line; part = part })

-- the equations of the places from column c on
unfoldable pub equations_from : ℕ → List Place → List Equation
equations_from c [] = []
equations_from c (p ∷ ps) = option_to_list (told c p) ++ equations_from (suc c) ps

-- all equations that are held
unfoldable pub equations_held : List Place → List Equation
equations_held ps = equations_from 0 ps

-- their lines
unfoldable pub lines_held : List Place → List ℕ
lines_held ps = map (λ (e : Equation). e.line) (equations_held ps)

unfoldable pub is_piece : Place → Bool
is_piece free = false
is_piece (piece part) = true
is_piece (row line part) = false

unfoldable pub is_row : Place → Bool
is_row free = false
is_row (piece part) = false
is_row (row line part) = true

-- how many pieces came uncoded
unfoldable pub pieces_held : List Place → ℕ
pieces_held ps = count_by is_piece ps

-- how many rows are held
unfoldable pub rows_held : List Place → ℕ
rows_held ps = count_by is_row ps

-- what was gained: each place that is not free
unfoldable pub gained_held : List Place → ℕ
gained_held ps = pieces_held ps + rows_held ps

-- a block of the shape that meets all equations held
pub record FitsHeld (shape : Shape) (ps : List Place) (block : List (List ℕ)) : Type 0 where
  pub shaped : IsBlock shape block
  pub fitting : All (Meets shape.frag_size block) (equations_held ps)

-- ---- what a new row makes of the places

-- a place without the column of a new row
unfoldable pub cleared : ℕ → ℕ → List ℕ → Place → Place
cleared p y q free = free
cleared p y q (piece part) = piece part
cleared p y q (row line part) = if bit_at line p == 1 then row (bit_xor line y) (xor_bytes part q) else row line part

-- all places, without the column
unfoldable pub all_cleared : ℕ → ℕ → List ℕ → List Place → List Place
all_cleared p y q ps = map (cleared p y q) ps

-- the places with a new row, which its column leads
unfoldable pub grown : ℕ → ℕ → List ℕ → List Place → List Place
grown p y q ps = set (all_cleared p y q ps) p (row y q)
