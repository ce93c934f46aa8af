-- The worked spellings, by computing.
use Rattle.std.specs.Int.{int_wrap}
use Rattle.sync_wire.specs.WorkedSpellings.{WorkedSpellings}

pub spellings : WorkedSpellings
unfolding int_wrap
spellings = search
