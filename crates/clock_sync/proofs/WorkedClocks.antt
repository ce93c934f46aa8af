-- The worked clocks, by computing.
use Rattle.std.specs.Int.{int_wrap}
use Rattle.clock_sync.specs.WorkedClocks.{WorkedClocks}

pub worked : WorkedClocks
unfolding int_wrap
worked = search
