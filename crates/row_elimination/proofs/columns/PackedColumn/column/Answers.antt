use Rattle.std.proofs.Common.{sym, ap, ◌∙◌}
use Rattle.row_elimination.specs.PackedColumns.{column_in}
use Rattle.row_elimination.proofs.Packing.{row_out}
use Rattle.row_elimination.proofs.columns.PackedColumn.column.Goals as goal

pub returns-then-self-eq0-clause-same : goal.returns-then-self-eq0-clause-same
unfolding column_in
returns-then-self-eq0-clause-same c = sym (ap column_in c.if-self-eq0.true) ∙ c.self.view_is

pub returns-then-self-eq1-clause-same : goal.returns-then-self-eq1-clause-same
unfolding column_in
returns-then-self-eq1-clause-same c = sym (ap column_in c.if-self-eq1.true) ∙ c.self.view_is

pub returns-else-self-eq1-clause-same : goal.returns-else-self-eq1-clause-same
returns-else-self-eq1-clause-same c = row_out c.self.inside.code c.if-self-eq0.false c.if-self-eq1.false ∙ c.self.view_is
