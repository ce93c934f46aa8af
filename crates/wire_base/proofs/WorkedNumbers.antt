-- The worked numbers, by computing.
use Rattle.wire_base.specs.Numbers.{number_at}
use Rattle.wire_base.specs.WorkedNumbers.{WorkedNumbers}

pub numbers : WorkedNumbers
unfolding number_at
numbers = search
