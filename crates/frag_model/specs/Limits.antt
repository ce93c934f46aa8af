-- What fragments of a file never exceed, each number once.
use Rattle.std.specs.Prelude.{ℕ}

-- pieces of a file, NbFrag (this project's profile; TS004-1.0.0 has 14 bits)
abbrev pub max_pieces : ℕ
max_pieces = 4096

-- bytes of a fragment: a payload of 242 without the three bytes before them
abbrev pub max_frag_size : ℕ
max_frag_size = 239

-- the number of a coded fragment beyond the pieces: up to here its seed 1 + 1001 n stays below 2^23
abbrev pub max_parity_index : ℕ
max_parity_index = 8380
