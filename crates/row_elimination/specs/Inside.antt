-- What is always true of the places.
use Rattle.std.specs.Prelude.{◌≡◌, ◌≢◌, ℕ, ◌^◌, ◌<◌, List, length, get_or, Some, true}
use Rattle.std.specs.Int.{bit_at}
use Rattle.frag_model.specs.Fragments.{Equation, IsPiece}
use Rattle.row_elimination.specs.HeldPlaces.{Place, free, told, is_piece}

-- fully reduced: each equation has its own column, and none that another equation leads
pub record IsReduced (cols size : ℕ) (ps : List Place) : Type 0 where
  pub sized : length ps ≡ cols
  pub own : (c : ℕ) (e : Equation) → told c (get_or ps c free) ≡ Some e → bit_at e.line c ≡ 1
  pub within : (c : ℕ) (e : Equation) → told c (get_or ps c free) ≡ Some e → e.line < 2 ^ cols
  pub part : (c : ℕ) (e : Equation) → told c (get_or ps c free) ≡ Some e → IsPiece size e.part
  pub apart : (c d : ℕ) (e f : Equation) → c ≢ d → told c (get_or ps c free) ≡ Some e → told d (get_or ps d free) ≡ Some f → bit_at e.line d ≡ 0

-- the line has the columns whose pieces came uncoded, and no other
pub record Marks (line : ℕ) (ps : List Place) : Type 0 where
  pub on : (c : ℕ) → bit_at line c ≡ 1 → is_piece (get_or ps c free) ≡ true
  pub all : (c : ℕ) → is_piece (get_or ps c free) ≡ true → bit_at line c ≡ 1
