use Rattle.sync_wire.proofs.Spellings.{one}
use Rattle.sync_wire.proofs.laws.place_has_one_spelling.Goals as goal

pub returns : goal.returns
returns c = one
