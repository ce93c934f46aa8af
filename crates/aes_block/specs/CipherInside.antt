-- A state as the program keeps it: in four words of 32 bits, one for each column,
-- whose first byte is the highest.
use Rattle.std.specs.Prelude.{◌≡◌, ℕ, zero, suc, ◌-◌, ◌*◌, ◌/◌, ◌%◌, ◌^◌, ◌<◌, List, [], ◌∷◌, slice_index, slice_index_or}
use Rattle.aes_block.specs.Cipher.{IsBlock, state_of, mixed, round_key}

-- the byte of a word in a row
unfoldable pub byte_of : (word row : ℕ) → ℕ
byte_of word row = word / 2 ^ (24 - 8 * row) % 256

-- the state that four words stand for
unfoldable pub state_of_words : List ℕ → List ℕ
state_of_words words = state_of (λ row column. byte_of (slice_index words column) row)

-- the byte in a row of the column that MixColumns makes of a column of four bytes
abbrev pub mixed_row : (row a b c d : ℕ) → ℕ
mixed_row zero a b c d = mixed a b c d
mixed_row (suc row) a b c d = mixed_row row b c d a

-- the same of the column that a word stands for
abbrev pub mixed_word : (row word : ℕ) → ℕ
mixed_word row word = mixed_row row (byte_of word 0) (byte_of word 1) (byte_of word 2) (byte_of word 3)

-- the four words of round n, where each column has a list of its words
abbrev pub words_at : (columns : List (List ℕ)) → (n : ℕ) → List ℕ
words_at columns n =
    slice_index (slice_index_or columns 0 []) n ∷
    slice_index (slice_index_or columns 1 []) n ∷
    slice_index (slice_index_or columns 2 []) n ∷
    slice_index (slice_index_or columns 3 []) n ∷ []

-- the words stand for the keys that the eleven rounds add, the first before the nine
abbrev pub AreRoundKeys : List ℕ → List (List ℕ) → Type 0
AreRoundKeys key columns = (n : ℕ) → n < 11 → state_of_words (words_at columns n) ≡ round_key key n

-- a key and its round keys
pub record IsExpanded (key : List ℕ) (columns : List (List ℕ)) : Type 0 where
  pub key_is : IsBlock key
  pub keys_are : AreRoundKeys key columns
