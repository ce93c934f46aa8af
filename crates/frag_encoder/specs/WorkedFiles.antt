-- Files cut into pieces, and their fragments, worked out. (TS004-1.0.0: the last fragment is filled up with zeros.)
use Rattle.std.specs.Prelude.{◌≡◌, ℕ, List, [], ◌∷◌}
use Rattle.frag_encoder.specs.Encoding.{IsBadSize, nb_frag_of, padding_of, filled, block_of, data_of, sums_of}

-- five bytes
abbrev pub five : List ℕ
five = 0x11 ∷ 0x22 ∷ 0x33 ∷ 0x44 ∷ 0x55 ∷ []

pub record WorkedFiles : Type 0 where
  -- how many pieces, and what the last one lacks
  pub whole : nb_frag_of 6 3 ≡ 2
  pub no_padding : padding_of 6 3 ≡ 0
  pub uneven : nb_frag_of 7 3 ≡ 3
  pub two_lack : padding_of 7 3 ≡ 2
  -- zeros stand for what it lacks, and nothing where it lacks nothing
  pub filled_up : filled (1 ∷ []) 3 ≡ 1 ∷ 0 ∷ 0 ∷ []
  pub full : filled (1 ∷ 2 ∷ 3 ∷ []) 3 ≡ 1 ∷ 2 ∷ 3 ∷ []
  pub block : block_of five 2 ≡ (0x11 ∷ 0x22 ∷ []) ∷ (0x33 ∷ 0x44 ∷ []) ∷ (0x55 ∷ 0 ∷ []) ∷ []
  -- uncoded fragments are the pieces
  pub first : data_of five 2 1 ≡ 0x11 ∷ 0x22 ∷ []
  pub last : data_of five 2 3 ≡ 0x55 ∷ 0 ∷ []
  -- a coded one is the sum of the pieces of its line: of three pieces the second, of two the second
  pub coded : data_of five 2 4 ≡ 0x33 ∷ 0x44 ∷ []
  pub coded_with_padding : data_of five 3 3 ≡ 0x44 ∷ 0x55 ∷ 0 ∷ []
  -- and of four pieces the first and the third, or the second and the fourth, byte by byte without a carry
  pub coded_of_two : data_of (3 ∷ 2 ∷ 6 ∷ 8 ∷ []) 1 5 ≡ 5 ∷ []
  pub coded_of_others : data_of (3 ∷ 10 ∷ 6 ∷ 9 ∷ []) 1 7 ≡ 3 ∷ []
  -- a piece is no sum, and such a fragment is one of two
  pub no_sum : sums_of 4 4 ≡ 0
  pub sum_of_two : sums_of 4 5 ≡ 2

-- the files and sizes that are not encoded, and those next to them
pub record WorkedSizes : Type 0 where
  pub no_file : IsBadSize 0 13
  pub no_bytes : IsBadSize 7 0
  pub too_long : IsBadSize 7 240
  pub too_many : IsBadSize 4097 1
  pub longest : ¬ IsBadSize 7 239
  pub most : ¬ IsBadSize 4096 1
  pub last_of_most : ¬ IsBadSize 8191 2
