-- A column in two bytes: 0 where nothing is kept, 1 for its piece, and 2 more than the slot of the row that it leads.
use Rattle.std.specs.Prelude.{◌≡◌, ℕ, zero, suc, refl}
use Rattle.row_elimination.specs.declared.columns.Column.{Column}
use Rattle.row_elimination.specs.declared.columns.PackedColumn.TheInside.{Inside}
use Rattle.row_elimination.specs.declared.columns.Column.TheVariants.{Free, Piece, Row}

abbrev pub packed : ℕ → Inside
packed code = record { code = code }

-- the last slot that two bytes name
abbrev pub last_slot : ℕ
last_slot = 65533

unfoldable pub column_in : ℕ → Column
column_in zero = Free
column_in (suc zero) = Piece
column_in (suc (suc slot)) = Row slot

unfoldable pub code_in : Column → ℕ
code_in Free = 0
code_in Piece = 1
code_in (Row slot) = suc (suc slot)

code_back : (code : ℕ) → code_in (column_in code) ≡ code
unfolding column_in code_in
code_back zero = refl
code_back (suc zero) = refl
code_back (suc (suc slot)) = refl

-- a column is read as it was written
pub packed_back : (c : Inside) → packed (code_in (column_in c.code)) ≡ c
packed_back c = λ i. packed (code_back c.code i)
