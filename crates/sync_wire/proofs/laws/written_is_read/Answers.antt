use Rattle.std.proofs.Common.{append_assoc}
use Rattle.sync_wire.proofs.Spellings.{written}
use Rattle.sync_wire.proofs.laws.written_is_read.Goals as goal

pub returns : goal.returns
returns c = λ cmd port dir before after valid listed. rw append_assoc (written cmd port dir before after valid listed)
