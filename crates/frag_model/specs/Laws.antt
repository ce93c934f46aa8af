-- Laws about the definitions. Functions with an empty body have them as their contracts.
use Rattle.std.specs.Prelude.{◌≡◌, ◌↔◌, ℕ, ◌+◌, ◌*◌, ◌/◌, ◌%◌, ◌<◌, ◌≤◌, List, [], ◌∷◌, ◌++◌, length, take}
use Rattle.std.specs.List.{AllByRecursion}
use Rattle.frag_model.specs.Parity.{prbs23, modulus, residues, columns_drawn, line, draws}
use Rattle.frag_model.specs.Gain.{gain_of, direct_of, gain, direct, excess}
use Rattle.frag_model.specs.Fragments.{Fragment, Shape, IsUncoded, line_of, draws_of, xor_bytes, file_of}
use Rattle.frag_model.specs.Verdict.{Verdict, verdict, verdict_now, IsVerdict, IsVerdictNow, FittingBlock, OneBlockFits}
use Rattle.frag_model.specs.File.{OneFileFits}
use Rattle.frag_model.specs.Limits.{max_parity_index, max_pieces}

-- of each list exactly one verdict is right, and it is the one that the function gives
pub record ExactlyOneVerdict : Type 0 where
  -- on the list taken for itself
  pub now : (shape : Shape) (heard : List Fragment) (mark : ℕ) (v : Verdict) → IsVerdictNow shape heard mark v ↔ (v ≡ verdict_now shape heard mark)
  -- and where the first one stays
  pub first : (shape : Shape) (heard : List Fragment) (v : Verdict) → IsVerdict shape heard v ↔ (v ≡ verdict shape heard)

-- where the padding is shorter than a piece, only one block fits exactly where only one file fits
pub record OneBlockIsOneFile : Type 0 where
  -- the block's file is then the one
  pub file : (shape : Shape) (padding : ℕ) (heard : List Fragment) (block : List (List ℕ)) → 0 < shape.nb_frag → padding < shape.frag_size
      → OneBlockFits shape heard block → OneFileFits shape padding heard (file_of padding shape block)
  -- and the file is that of the one block
  pub block : (shape : Shape) (padding : ℕ) (heard : List Fragment) (file : List ℕ) → 0 < shape.nb_frag → padding < shape.frag_size
      → OneFileFits shape padding heard file → (block : List (List ℕ)) × OneBlockFits shape heard block × (file ≡ file_of padding shape block)

-- fragment numbers begin with 1
abbrev pub AreNumbered : List Fragment → Type 0
AreNumbered heard = AllByRecursion (λ (f : Fragment). 1 ≤ f.number) heard

-- where some block fits, gain is full exactly where only one block fits
pub record FullGainIsUniqueness : Type 0 where
  pub unique : (shape : Shape) (heard : List Fragment) (block : List (List ℕ)) → AreNumbered heard
      → gain shape heard ≡ shape.nb_frag → FittingBlock shape heard block → OneBlockFits shape heard block
  pub full : (shape : Shape) (heard : List Fragment) (block : List (List ℕ)) → AreNumbered heard → 0 < shape.frag_size
      → OneBlockFits shape heard block → gain shape heard ≡ shape.nb_frag

-- how much is gained: no more than there are pieces, and no less than came uncoded, so that an excess is a whole number
pub record GainIsBounded : Type 0 where
  pub most : (shape : Shape) (heard : List Fragment) → AreNumbered heard → gain shape heard ≤ shape.nb_frag
  pub least : (shape : Shape) (heard : List Fragment) → AreNumbered heard → direct shape heard ≤ gain shape heard

-- where at most as many pieces as rows had not come uncoded before the first coded fragment, the excess never passes the rows
pub record EnoughRowsForTheUnheard : Type 0 where
  -- before it there is none
  pub before : (shape : Shape) (heard : List Fragment) → AllByRecursion (IsUncoded shape) heard → excess shape heard ≡ 0
  -- and from it on there are rows enough
  pub after : (shape : Shape) (newer older : List Fragment) → AllByRecursion (IsUncoded shape) older → shape.nb_frag ≤ direct shape older + shape.rows
      → AreNumbered newer → excess shape (newer ++ older) ≤ shape.rows

-- every line has enough draws, for every number of a coded fragment and up to 4,096 columns
pub record EveryLineHasEnoughDraws : Type 0 where
  -- half as many columns as there are, rounded down, are found among its residues, a column drawn twice counting twice
  pub columns : (n cols : ℕ) → n ≤ max_parity_index → cols ≤ max_pieces → length (columns_drawn n cols) ≡ cols / 2
  -- and the last of them in the 25 states for each
  pub draws : (n cols : ℕ) → draws n cols ≤ 25 * (cols / 2)

-- worked values of the standard's generator, of lines, and of gain and excess over four pieces, numbers newest first
pub record WorkedValues : Type 0 where
  pub state : prbs23 1002 ≡ 4194805
  pub two_columns : line 1 2 ≡ 2
  pub first_of_4096 : prbs23 1002 % modulus 4096 ≡ 3574
  pub line_1 : line 1 4 ≡ 5
  pub line_2 : line 2 4 ≡ 5
  pub line_3 : line 3 4 ≡ 10
  pub line_4 : line 4 4 ≡ 6
  pub line_5 : line 5 4 ≡ 9
  pub drawn_twice : columns_drawn 7 4 ≡ 3 ∷ 3 ∷ []
  pub line_7 : line 7 4 ≡ 8
  -- over a number of columns that is no power of two, odd and even, states are divided by that number
  pub five_columns : line 9 5 ≡ 24
  pub six_columns : line 4 6 ≡ 52
  pub rejected : take 4 (residues 9 4) ≡ 4 ∷ 3 ∷ 4 ∷ 1 ∷ []
  pub draws_9 : draws 9 4 ≡ 4
  pub one_piece : line 1 1 ≡ 0
  pub no_draw : draws 1 1 ≡ 0
  -- over four pieces the last of these is fragment 4, and the first coded one fragment 5
  pub last_piece : line_of 4 4 ≡ 8
  pub first_coded : line_of 4 5 ≡ 5
  pub third_coded : line_of 4 7 ≡ 10
  pub piece_draws : draws_of 4 4 ≡ 0
  pub coded_draws : draws_of 4 13 ≡ 4
  pub all_pieces : gain_of 4 (2 ∷ 3 ∷ 1 ∷ 4 ∷ []) ≡ 4
  pub two_and_two : gain_of 4 (8 ∷ 7 ∷ 3 ∷ 1 ∷ []) ≡ 4
  pub direct_two : direct_of 4 (8 ∷ 7 ∷ 3 ∷ 1 ∷ []) ≡ 2
  pub equal_lines : gain_of 4 (6 ∷ 5 ∷ 1 ∷ []) ≡ 2
  pub repeats : gain_of 4 (2 ∷ 2 ∷ 2 ∷ []) ≡ 1
  pub last_direct : direct_of 4 (4 ∷ 5 ∷ []) ≡ 1
  pub direct_again : direct_of 4 (4 ∷ 4 ∷ []) ≡ 1
  -- the shorter of two lists goes on with zeros
  pub shorter_first : xor_bytes (5 ∷ []) (3 ∷ 9 ∷ []) ≡ 6 ∷ 9 ∷ []
  pub shorter_second : xor_bytes (3 ∷ 9 ∷ []) (5 ∷ []) ≡ 6 ∷ 9 ∷ []
  -- 3 bytes of padding at the end of two pieces of 4
  pub unpadded : file_of 3 (record { nb_frag = 2; frag_size = 4; rows = 1 }) ((1 ∷ 2 ∷ 3 ∷ 4 ∷ []) ∷ (5 ∷ 6 ∷ 7 ∷ 8 ∷ []) ∷ [])
      ≡ 1 ∷ 2 ∷ 3 ∷ 4 ∷ 5 ∷ []
