use Rattle.wire_base.proofs.WorkedNumbers.{numbers}
use Rattle.wire_base.proofs.laws.worked_numbers.Goals as goal

pub returns : goal.returns
returns c = numbers
