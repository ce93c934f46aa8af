-- What an encoder makes of a file. (TS004-1.0.0: fragments, and the forward error correction code.)
use Rattle.std.specs.Prelude.{◌≡◌, ◌⊎◌, ℕ, zero, suc, ◌-◌, ◌*◌, ◌<◌, ◌≤◌, List, [], ◌∷◌, ◌++◌, length, take, drop, replicate, nat_le, if◌then◌else◌}
use Rattle.std.specs.Int.{div_ceil}
use Rattle.frag_model.specs.Fragments.{columns_in, line_of, pieces_at, xor_all}
use Rattle.frag_model.specs.Limits.{max_frag_size, max_pieces}

-- how many pieces of this size hold so many bytes: rounded up
abbrev pub nb_frag_of : ℕ → ℕ → ℕ
nb_frag_of len frag_size = div_ceil len frag_size

-- how many bytes the last piece lacks
abbrev pub padding_of : ℕ → ℕ → ℕ
padding_of len frag_size = nb_frag_of len frag_size * frag_size - len

-- the file, and zeros for what its last piece lacks
abbrev pub filled : List ℕ → ℕ → List ℕ
filled file frag_size = file ++ replicate (padding_of (length file) frag_size) 0

-- so many pieces of a size, one after another
unfoldable pub pieces_of : ℕ → ℕ → List ℕ → List (List ℕ)
pieces_of zero size bytes = []
pieces_of (suc count) size bytes = take size bytes ∷ pieces_of count size (drop size bytes)

-- the block that a file makes
abbrev pub block_of : List ℕ → ℕ → List (List ℕ)
block_of file frag_size = pieces_of (nb_frag_of (length file) frag_size) frag_size (filled file frag_size)

-- the data of fragment n, from 1 on: the XOR of the pieces whose columns are in its line
unfoldable pub data_of : List ℕ → ℕ → ℕ → List ℕ
data_of file frag_size n = xor_all frag_size (pieces_at (line_of (nb_frag_of (length file) frag_size) n) (block_of file frag_size))

-- how many pieces are summed for it: none for a piece, else those of its line
unfoldable pub sums_of : ℕ → ℕ → ℕ
sums_of nb_frag n = if nat_le n nb_frag then 0 else columns_in (line_of nb_frag n)

-- what is encoded: a file, in pieces of this size
pub record Encoding : Type 0 where
  pub file : List ℕ
  pub frag_size : ℕ

-- no file of this length is encoded in pieces of this size (1 to 239 bytes fit a payload; 4,096 pieces: this project's profile)
abbrev pub IsBadSize : ℕ → ℕ → Type 0
IsBadSize len frag_size = (len ≡ 0) ⊎ (frag_size ≡ 0) ⊎ (max_frag_size < frag_size) ⊎ (max_pieces < nb_frag_of len frag_size)

-- what an encoder keeps: whole pieces, and which of their bytes fill the last one up
pub record IsFilled (bytes : List ℕ) (frag_size nb_frag padding : ℕ) : Type 0 where
  pub some : 0 < frag_size
  pub fits : frag_size ≤ max_frag_size
  pub first : 1 ≤ nb_frag
  pub last : nb_frag ≤ max_pieces
  pub whole : length bytes ≡ nb_frag * frag_size
  pub short : padding < frag_size
  pub zeros : bytes ≡ take (length bytes - padding) bytes ++ replicate padding 0
