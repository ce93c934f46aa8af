use Rattle.row_arena.proofs.WorkedRows.{rows}
use Rattle.row_arena.proofs.laws.worked_rows.Goals as goal

pub returns : goal.returns
returns c = rows
