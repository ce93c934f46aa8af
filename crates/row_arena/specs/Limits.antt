-- The largest arena. (This project's profile.)
use Rattle.std.specs.Prelude.{ℕ}

-- words of 64 columns in all rows
abbrev pub max_words : ℕ
max_words = 16384

-- bytes in all rows
abbrev pub max_bytes : ℕ
max_bytes = 61184

-- words of one row, whose columns are counted in 16 bits
abbrev pub max_width : ℕ
max_width = 1024
