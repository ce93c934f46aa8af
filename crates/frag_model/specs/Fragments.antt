-- Fragments, blocks, and which blocks fit what was heard. (TS004-1.0.0, DataFragment and its coding.)
-- A list of heard fragments is newest first, so that "followed by f" is f ∷ heard.
use Rattle.std.specs.Prelude.{◌≡◌, ℕ, ◌-◌, ◌*◌, ◌/◌, ◌%◌, ◌^◌, ◌<◌, ◌≤◌, Bool, nat_le, ◌==◌, List, [], ◌∷◌, length, get_or, replicate, take, All, bit_xor, if◌then◌else◌, bytes_eq}
use Rattle.std.specs.List.{concat, list_all}
use Rattle.std.specs.Int.Count.{ones}
use Rattle.frag_model.specs.Parity.{line, draws}

-- a fragment that was heard: its number from 1 on, its bytes, and the mark at which it came
pub record Fragment : Type 0 where
  pub number : ℕ
  pub part : List ℕ
  pub mark : ℕ

-- what a setup fixes: how many pieces of how many bytes, and how many rows are reserved for coded fragments
pub record Shape : Type 0 where
  pub nb_frag : ℕ
  pub frag_size : ℕ
  pub rows : ℕ

-- the line of fragment number n over so many pieces: piece n itself, or the parity line of the coded fragment
unfoldable pub line_of : ℕ → ℕ → ℕ
line_of nb_frag n = if nat_le n nb_frag then 2 ^ (n - 1) else line (n - nb_frag) nb_frag

-- how many states of the register are drawn for that line: none for a piece's
unfoldable pub draws_of : ℕ → ℕ → ℕ
draws_of nb_frag n = if nat_le n nb_frag then 0 else draws (n - nb_frag) nb_frag

-- how many columns are in a line
abbrev pub columns_in : ℕ → ℕ
columns_in line = ones line

-- an equation: the XOR of the pieces at the line's columns is the part
pub record Equation : Type 0 where
  pub line : ℕ
  pub part : List ℕ

-- what a heard fragment says of the pieces
unfoldable pub equation_of : Shape → Fragment → Equation
equation_of shape heard = record { line = line_of shape.nb_frag heard.number; part = heard.part }

-- the XOR of two lists of bytes, place by place, the shorter one as if it went on with zeros
unfoldable pub xor_bytes : List ℕ → List ℕ → List ℕ
xor_bytes [] ys = ys
xor_bytes (x ∷ xs) [] = x ∷ xs
xor_bytes (x ∷ xs) (y ∷ ys) = bit_xor x y ∷ xor_bytes xs ys

-- a piece has its length, and bytes below 2^8
pub record IsPiece (size : ℕ) (piece : List ℕ) : Type 0 where
  pub sized : length piece ≡ size
  pub bytes : All (λ b. b < 2 ^ 8) piece

-- a block has as many pieces as the shape says, of that size
pub record IsBlock (shape : Shape) (block : List (List ℕ)) : Type 0 where
  pub counted : length block ≡ shape.nb_frag
  pub pieces : All (IsPiece shape.frag_size) block

-- an uncoded fragment of the shape: the number of a piece, and bytes for one
pub record IsUncoded (shape : Shape) (f : Fragment) : Type 0 where
  pub first : 1 ≤ f.number
  pub last : f.number ≤ shape.nb_frag
  pub piece : IsPiece shape.frag_size f.part

-- the pieces whose columns are in the line
unfoldable pub pieces_at : ℕ → List (List ℕ) → List (List ℕ)
pieces_at line [] = []
pieces_at line (piece ∷ block) = if line % 2 == 1 then piece ∷ pieces_at (line / 2) block else pieces_at (line / 2) block

-- the XOR of pieces of this size; of none it is all zeros
unfoldable pub xor_all : ℕ → List (List ℕ) → List ℕ
xor_all size [] = replicate size 0
xor_all size (piece ∷ pieces) = xor_bytes piece (xor_all size pieces)

-- the XOR of the bytes at one place of the pieces whose columns are in the line
unfoldable pub byte_at : ℕ → ℕ → List (List ℕ) → ℕ
byte_at line i [] = 0
byte_at line i (piece ∷ block) =
    if line % 2 == 1 then bit_xor (get_or piece i 0) (byte_at (line / 2) i block) else byte_at (line / 2) i block

-- the block meets the equation
unfoldable pub Meets : ℕ → List (List ℕ) → Equation → Type 0
Meets size block equation = xor_all size (pieces_at equation.line block) ≡ equation.part

-- the block meets the equation of each fragment that was heard
abbrev pub Fits : Shape → List Fragment → List (List ℕ) → Type 0
Fits shape heard block = All (λ (f : Fragment). Meets shape.frag_size block (equation_of shape f)) heard

-- the same, as a test
unfoldable pub fits : Shape → List Fragment → List (List ℕ) → Bool
fits shape heard block =
    list_all (λ (f : Fragment). bytes_eq (xor_all shape.frag_size (pieces_at (equation_of shape f).line block)) f.part) heard

-- the recovered file: all bytes of the block but the padding at its end
unfoldable pub file_of : ℕ → Shape → List (List ℕ) → List ℕ
file_of padding shape block = take (shape.nb_frag * shape.frag_size - padding) (concat block)
