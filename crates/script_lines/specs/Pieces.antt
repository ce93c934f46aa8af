-- A stream so far: the lines that it has ended, and the one that is still open (this project's profile).
use Rattle.std.specs.Prelude.{ℕ, ◌+◌, List, [], ◌∷◌, take, map}
use Rattle.std.specs.List.{slice_split}
use Rattle.script_lines.specs.Limits.{max_line}
use Rattle.script_lines.specs.Lines.{is_feed}

-- a list without its last member, and that member
abbrev pub front : List (List ℕ) → List (List ℕ)
front [] = []
front (xs ∷ []) = []
front (xs ∷ ys ∷ zss) = xs ∷ front (ys ∷ zss)

abbrev pub last : List (List ℕ) → List ℕ
last [] = []
last (xs ∷ []) = xs
last (xs ∷ ys ∷ zss) = last (ys ∷ zss)

-- the lines that a line feed ended, and the stretch after the last line feed
unfoldable pub ended_of : List ℕ → List (List ℕ)
ended_of stream = front (slice_split is_feed stream)

unfoldable pub open_of : List ℕ → List ℕ
open_of stream = last (slice_split is_feed stream)

-- a line as it is given: of one that is too long, one byte more than a line may have
abbrev pub cut : List ℕ → List ℕ
cut line = take (max_line + 1) line

abbrev pub cut_lines : List (List ℕ) → List (List ℕ)
cut_lines lines = map cut lines
