use Rattle.cast_wire.proofs.SetupBits.{kept, told_apart}
use Rattle.cast_wire.proofs.laws.refusal_bits_are_kept.Goals as goal

pub returns-clause-answer : goal.returns-clause-answer
returns-clause-answer c = kept

pub returns-clause-one : goal.returns-clause-one
returns-clause-one c = told_apart
