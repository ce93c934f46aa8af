use Rattle.std.proofs.Common.{sym, ◌∙◌}
use Rattle.row_elimination.specs.PackedColumns.{column_in}
use Rattle.row_elimination.proofs.Packing.{row_in}
use Rattle.row_elimination.proofs.columns.PackedColumn.new.Goals as goal

pub returns-in-Free : goal.returns-in-Free
unfolding column_in
returns-in-Free c = sym c.in-Free.is

pub returns-in-Piece : goal.returns-in-Piece
unfolding column_in
returns-in-Piece c = sym c.in-Piece.is

pub returns-in-Row : goal.returns-in-Row
returns-in-Row c = row_in c.in-Row.slot ∙ sym c.in-Row.is
