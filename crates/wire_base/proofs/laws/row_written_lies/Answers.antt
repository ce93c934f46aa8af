use Rattle.std.proofs.Common.{append_assoc}
use Rattle.wire_base.proofs.RowLaws.{row_written}
use Rattle.wire_base.proofs.laws.row_written_lies.Goals as goal

pub returns : goal.returns
returns c = λ row before after formed fit small alone. rw append_assoc (row_written row before after formed fit small alone)
