use Rattle.std.proofs.Common.{append_assoc}
use Rattle.wire_base.proofs.NumberLaws.{number_at-number_bytes}
use Rattle.wire_base.proofs.laws.number_put_is_number_read.Goals as goal

pub returns : goal.returns
returns c = λ width n before after fits. rw append_assoc (number_at-number_bytes width n before after fits)
