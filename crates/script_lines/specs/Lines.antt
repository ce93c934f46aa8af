-- The lines of a source and their words (this project's profile).
use Rattle.std.specs.Prelude.{ℕ, Bool, ◌==◌, List, [], ◌∷◌, slice_get, unwrap_or}
use Rattle.std.specs.List.{slice_split}
use Rattle.std.specs.Str.{bytes_eq}

-- a line feed
abbrev pub is_feed : ℕ → Bool
is_feed b = b == 10

-- a list without its last member, where that is empty
abbrev pub without_empty_last : List (List ℕ) → List (List ℕ)
without_empty_last [] = []
without_empty_last ([] ∷ []) = []
without_empty_last (xs ∷ []) = xs ∷ []
without_empty_last (xs ∷ ys ∷ zss) = xs ∷ without_empty_last (ys ∷ zss)

-- the lines of a source: the stretches between line feeds, without an empty last one
unfoldable pub lines_of : List ℕ → List (List ℕ)
lines_of bytes = without_empty_last (slice_split is_feed bytes)

-- the words of a line: the stretches between spaces (32)
unfoldable pub words_of : List ℕ → List (List ℕ)
words_of line = slice_split (λ b. b == 32) line

-- the word at a place, counted from 0; no bytes where there is none
unfoldable pub word : List ℕ → ℕ → List ℕ
word line k = unwrap_or (slice_get (words_of line) k) []

-- the word at a place is this one
abbrev pub is_word : (line : List ℕ) → (k : ℕ) → (wanted : List ℕ) → Bool
is_word line k wanted = bytes_eq (word line k) wanted
