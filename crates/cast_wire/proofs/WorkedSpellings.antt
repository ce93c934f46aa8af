-- The worked spellings, by computing.
use Rattle.cast_wire.specs.WorkedSpellings.{WorkedSpellings}

pub spellings : WorkedSpellings
spellings = search
