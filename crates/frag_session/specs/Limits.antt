-- What a session never exceeds.
use Rattle.std.specs.Prelude.{ℕ}

-- fragments that are counted: NbFragReceived has 14 bits (TS004-1.0.0, FragSessionStatusAns)
abbrev pub max_received : ℕ
max_received = 16383
