-- What a packed column's number says.
use Rattle.std.proofs.Common.{◌≡◌, ◌≢◌, ℕ, zero, suc, ◌+◌, ◌-◌, ◌<◌, List, [], ◌∷◌, length, get_or, refl, ap, ◌∙◌, arith}
use Rattle.row_elimination.specs.declared.columns.Column.{Column}
use Rattle.row_elimination.specs.declared.columns.Column.TheVariants.{Free, Row}
use Rattle.row_elimination.specs.PackedColumns.{column_in}

pub row_in : (slot : ℕ) → column_in (slot + 2) ≡ Row slot
unfolding column_in
row_in slot = let e : slot + 2 ≡ suc (suc slot) = omega arith in ap column_in e

pub row_out : (code : ℕ) → code ≢ 0 → code ≢ 1 → Row (code - 2) ≡ column_in code
unfolding column_in
row_out zero some more = absurd (some refl)
row_out (suc zero) some more = absurd (more refl)
row_out (suc (suc slot)) some more = let e : suc (suc slot) - 2 ≡ slot = omega arith in ap Row e

-- inside a list no default is read
pub any_default : (xs : List Column) (i : ℕ) (d e : Column) → i < length xs → get_or xs i d ≡ get_or xs i e
any_default [] i d e lt = absurd (omega arith)
any_default (x ∷ xs) zero d e lt = refl
any_default (x ∷ xs) (suc i) d e lt = any_default xs i d e (omega arith)

-- a column that code reads
pub read_there : (columns : List Column) (k : ℕ) (x : Column) → k < length columns → x ≡ get_or columns k x → x ≡ get_or columns k Free
read_there columns k x lt is = is ∙ any_default columns k x Free lt
