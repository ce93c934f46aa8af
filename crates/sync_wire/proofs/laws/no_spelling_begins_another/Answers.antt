use Rattle.sync_wire.proofs.Spellings.{none_begins}
use Rattle.sync_wire.proofs.laws.no_spelling_begins_another.Goals as goal

pub returns : goal.returns
returns c = none_begins
