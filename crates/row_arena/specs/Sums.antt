-- Sums of many pieces, and lines without many columns. (This project's profile.)
use Rattle.std.specs.Prelude.{◌≡◌, ℕ, ◌+◌, ◌*◌, ◌^◌, ◌<◌, ◌≤◌, List, [], ◌∷◌, length, take, get_or, slice_index, bit_xor}
use Rattle.std.specs.Int.{bit_at}
use Rattle.std.specs.Int.Count.{ones}
use Rattle.row_arena.specs.Rows.{line_in}

-- byte i, which was b, after byte i of each of these pieces was added; the pieces follow one another
unfoldable pub after_pieces : ℕ → List ℕ → ℕ → ℕ → List ℕ → ℕ
after_pieces size area i b [] = b
after_pieces size area i b (k ∷ ks) = after_pieces size area i (bit_xor b (get_or area (k * size + i) 0)) ks

-- the picked pieces of this size are in the area
abbrev pub AreInside : (picks : List ℕ) → (size : ℕ) → (area : List ℕ) → Type 0
AreInside picks size area = (n : ℕ) → n < length picks → slice_index picks n * size + size ≤ length area

-- byte i of the sum of a part and the picked pieces of its length
abbrev pub sum_at : (area picks part : List ℕ) → (i : ℕ) → ℕ
sum_at area picks part i = after_pieces (length part) area i (slice_index part i) picks

-- the bytes are those of the sum
abbrev pub IsSum : (area picks part bytes : List ℕ) → Type 0
IsSum area picks part bytes = (i : ℕ) → i < length part → slice_index bytes i ≡ sum_at area picks part i

-- so many bytes from a place on are those of the sum
abbrev pub SumsFrom : (at count : ℕ) → (area picks part bytes : List ℕ) → Type 0
SumsFrom at count area picks part bytes =
    (i : ℕ) → at ≤ i → i < at + count → slice_index bytes i ≡ sum_at area picks part i

-- a line after each of these columns was flipped
unfoldable pub after_flips : ℕ → List ℕ → ℕ
after_flips line [] = line
after_flips line (c ∷ cs) = after_flips (bit_xor line (2 ^ c)) cs

-- the known columns were taken out of a line, and so many of them are listed in front of the picks
pub record ArePicked (count : ℕ) (old new columns picks : List ℕ) : Type 0 where
  -- the line lost just those that are listed
  pub line : line_in new ≡ after_flips (line_in old) (take count picks)
  -- each of them is known
  pub known : (n : ℕ) → n < count → bit_at (line_in columns) (slice_index picks n) ≡ 1
  pub inside : (n : ℕ) → n < count → slice_index picks n < 64 * length columns
  -- and no known one is left
  pub none : (c : ℕ) → bit_at (line_in columns) c ≡ 1 → bit_at (line_in new) c ≡ 0
  pub few : count ≤ length picks
  -- none is listed twice
  pub each : count + ones (line_in new) ≡ ones (line_in old)
