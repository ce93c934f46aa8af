use Rattle.cast_wire.proofs.WorkedSpellings.{spellings}
use Rattle.cast_wire.proofs.laws.worked_spellings.Goals as goal

pub returns : goal.returns
returns c = spellings
