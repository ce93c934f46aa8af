-- What a round makes of the words of a state, column by column.
use Rattle.std.proofs.Common.{◌≡◌, ℕ, ◌+◌, ◌-◌, ◌/◌, ◌%◌, ◌<◌, true, cond, eqb, List, [], ◌∷◌, length, get_or, refl, sym, ap, ◌∙◌, arith}
use Rattle.std.specs.Prelude.{bit_xor}
use Rattle.std.specs.Int.Bits.{xor_zero_r}
use Rattle.std.proofs.lemmas.Bool.{eq-eqb}
use Rattle.aes_block.specs.declared.tables.TheConstants.{INVERSE_SUB}
use Rattle.aes_block.specs.Field.{sub_byte}
use Rattle.aes_block.specs.Cipher.{byte_at, sub_bytes, shift_rows, mix_columns, power_of_x, added, next_words}
use Rattle.aes_block.specs.CipherInside.{byte_of, state_of_words, mixed_row, mixed_word}
use Rattle.aes_block.proofs.Rounds.{next_words-block}
use Rattle.aes_block.proofs.States.{byte_at-state_of, same_block, sub_bytes-block, shift_rows-block, mix_columns-block, byte_of_sub_bytes, byte_of_shift_rows, byte_of_mix_columns}
use Rattle.aes_block.proofs.Substitution.{redone}
use Rattle.aes_block.proofs.WordBytes.{byte_of-lt, byte_of-xor, byte_at_words, state_of_words-block, stands_for, each_of_4}

-- the byte that SubBytes and ShiftRows bring to a row and a column
abbrev brought : List ℕ → (row column : ℕ) → ℕ
brought words row column = sub_byte (byte_of (get_or words ((column + row) % 4) 0) row)

byte_of_brought : (words : List ℕ) (row column : ℕ) → row < 4 → column < 4 → byte_at (shift_rows (sub_bytes (state_of_words words))) row column ≡ brought words row column
byte_of_brought words row column r c =
    byte_of_shift_rows (sub_bytes (state_of_words words)) row column r c ∙ byte_of_sub_bytes (state_of_words words) row ((column + row) % 4) r (omega arith)
    ∙ ap sub_byte (byte_at_words words row ((column + row) % 4) r (omega arith))

pub last_words : (words result : List ℕ) → ((row column : ℕ) → row < 4 → column < 4 → byte_of (get_or result column 0) row ≡ brought words row column)
    → state_of_words result ≡ shift_rows (sub_bytes (state_of_words words))
last_words words result are = stands_for result (shift_rows (sub_bytes (state_of_words words))) (shift_rows-block _ (sub_bytes-block _ (state_of_words-block words)))
    (λ row column r c. are row column r c ∙ sym (byte_of_brought words row column r c))

byte_of_mixed : (s : List ℕ) (row column : ℕ) → row < 4 → column < 4 → byte_at (mix_columns s) row column ≡ mixed_row row (byte_at s 0 column) (byte_at s 1 column) (byte_at s 2 column) (byte_at s 3 column)
byte_of_mixed s row column r c = each_of_4 (λ k. byte_at (mix_columns s) k column ≡ mixed_row k (byte_at s 0 column) (byte_at s 1 column) (byte_at s 2 column) (byte_at s 3 column))
    (byte_of_mix_columns s 0 column (omega arith) c) (byte_of_mix_columns s 1 column (omega arith) c) (byte_of_mix_columns s 2 column (omega arith) c) (byte_of_mix_columns s 3 column (omega arith) c) row r

pub mixed_words : (words result : List ℕ)
    → ((column : ℕ) → column < 4 → (row : ℕ) → row < 4 → byte_of (get_or result column 0) row ≡ mixed_row row (brought words 0 column) (brought words 1 column) (brought words 2 column) (brought words 3 column))
    → state_of_words result ≡ mix_columns (shift_rows (sub_bytes (state_of_words words)))
mixed_words words result are = stands_for result (mix_columns (shift_rows (sub_bytes (state_of_words words)))) (mix_columns-block _ (shift_rows-block _ (sub_bytes-block _ (state_of_words-block words))))
    (λ row column r c. are column c row r ∙ sym (byte_of_mixed (shift_rows (sub_bytes (state_of_words words))) row column r c
    ∙ rw (byte_of_brought words 0 column (omega arith) c, byte_of_brought words 1 column (omega arith) c, byte_of_brought words 2 column (omega arith) c, byte_of_brought words 3 column (omega arith) c) refl))

to_column : (row column : ℕ) → row < 4 → column < 4 → ((column + row) % 4 + (4 - row)) % 4 ≡ column
to_column row column r c = omega arith

pub last_words-undone : (words result : List ℕ)
    → ((row column : ℕ) → row < 4 → column < 4 → byte_of (get_or result column 0) row ≡ get_or INVERSE_SUB (byte_of (get_or words ((column + (4 - row)) % 4) 0) row) 0)
    → shift_rows (sub_bytes (state_of_words result)) ≡ state_of_words words
last_words-undone words result are = same_block (shift_rows (sub_bytes (state_of_words result))) (state_of_words words) (shift_rows-block _ (sub_bytes-block _ (state_of_words-block result))) (state_of_words-block words)
    (λ row column r c.
    byte_of_brought result row column r c ∙ ap sub_byte (are row ((column + row) % 4) r (omega arith))
    ∙ redone (byte_of (get_or words (((column + row) % 4 + (4 - row)) % 4) 0) row) (byte_of-lt _ row)
    ∙ ap (λ (k : ℕ). byte_of (get_or words k 0) row) (to_column row column r c) ∙ sym (byte_at_words words row column r c))

pub mix_columns-undone : (words result : List ℕ) → ((column : ℕ) → column < 4 → (row : ℕ) → row < 4 → mixed_word row (get_or result column 0) ≡ byte_of (get_or words column 0) row)
    → mix_columns (state_of_words result) ≡ state_of_words words
mix_columns-undone words result are = same_block (mix_columns (state_of_words result)) (state_of_words words) (mix_columns-block _ (state_of_words-block result)) (state_of_words-block words)
    (λ row column r c.
    byte_of_mixed (state_of_words result) row column r c
    ∙ rw (byte_at_words result 0 column (omega arith) c, byte_at_words result 1 column (omega arith) c, byte_at_words result 2 column (omega arith) c, byte_at_words result 3 column (omega arith) c)
    (are column c row r ∙ sym (byte_at_words words row column r c)))

pub next_words_of : (words : List ℕ) (i e : ℕ) → length words ≡ 4 → ((row : ℕ) → row < 4 → byte_of e row ≡ added i (state_of_words words) row)
    → state_of_words (get_or words 1 0 ∷ get_or words 2 0 ∷ get_or words 3 0 ∷ bit_xor (get_or words 0 0) e ∷ []) ≡ next_words i (state_of_words words)
unfolding next_words
next_words_of words i e len is =
    let next : List ℕ = get_or words 1 0 ∷ get_or words 2 0 ∷ get_or words 3 0 ∷ bit_xor (get_or words 0 0) e ∷ [] in
    let s : List ℕ = state_of_words words in
    let byte : ℕ → ℕ → ℕ = λ row column. cond (eqb column 3) (bit_xor (byte_at s row 0) (added i s row)) (byte_at s row (column + 1)) in
    stands_for next (next_words i s) (next_words-block i s (state_of_words-block words)) (λ row column r l.
    each_of_4 (λ j. byte_of (get_or next j 0) row ≡ byte row j)
    (sym (byte_at_words words row 1 r (omega arith))) (sym (byte_at_words words row 2 r (omega arith))) (sym (byte_at_words words row 3 r (omega arith)))
    (byte_of-xor (get_or words 0 0) e row ∙ rw (is row r, byte_at_words words row 0 r (omega arith)) refl) column l
    ∙ sym (byte_at-state_of byte row column r l))

-- a word made of the last of four, rotated and through SubBytes, with p added to its first byte
pub record IsSubstituted (words : List ℕ) (w p : ℕ) : Type 0 where
  pub first : byte_of w 0 ≡ bit_xor (sub_byte (byte_of (get_or words 3 0) 1)) p
  pub second : byte_of w 1 ≡ sub_byte (byte_of (get_or words 3 0) 2)
  pub third : byte_of w 2 ≡ sub_byte (byte_of (get_or words 3 0) 3)
  pub fourth : byte_of w 3 ≡ sub_byte (byte_of (get_or words 3 0) 0)

pub added_word : (words : List ℕ) (i w : ℕ) → i % 4 ≡ 0 → IsSubstituted words w (power_of_x (i / 4 - 1)) → (row : ℕ) → row < 4 → byte_of w row ≡ added i (state_of_words words) row
added_word words i w every is =
    let test : eqb (i % 4) 0 ≡ true = eq-eqb (i % 4) 0 every in
    let byte : (row : ℕ) → row < 4 → byte_at (state_of_words words) row 3 ≡ byte_of (get_or words 3 0) row = λ row r. byte_at_words words row 3 r (omega arith) in
    each_of_4 (λ row. byte_of w row ≡ added i (state_of_words words) row)
    (rw (test, byte 1 (omega arith)) is.first)
    (rw (test, byte 2 (omega arith)) (is.second ∙ sym (xor_zero_r _)))
    (rw (test, byte 3 (omega arith)) (is.third ∙ sym (xor_zero_r _)))
    (rw (test, byte 0 (omega arith)) (is.fourth ∙ sym (xor_zero_r _)))
