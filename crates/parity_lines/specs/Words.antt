-- A line in words of 64 bits, as little memory as a line takes: column c is bit c % 64 of word c / 64.
use Rattle.std.specs.Prelude.{ℕ, ◌+◌, ◌*◌, ◌^◌, List, [], ◌∷◌}

-- the line that the words hold, the lowest word first
unfoldable pub words_number : List ℕ → ℕ
words_number [] = 0
words_number (word ∷ words) = words_number words * 2 ^ 64 + word
