-- How much a command of TS004 or TS005 carries at most.
use Rattle.std.specs.Prelude.{ℕ}

-- the most bytes of a fragment: a payload's, without the first three of its command (this project's profile)
abbrev pub max_fragment : ℕ
max_fragment = 239

-- the most groups of a device (TS005-1.0.0)
abbrev pub max_groups : ℕ
max_groups = 4
