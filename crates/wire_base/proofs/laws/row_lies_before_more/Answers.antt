use Rattle.wire_base.proofs.RowLaws.{row_before_more}
use Rattle.wire_base.proofs.laws.row_lies_before_more.Goals as goal

pub returns : goal.returns
returns c = row_before_more
