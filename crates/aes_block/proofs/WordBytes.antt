-- Words by their bytes, and states by their words.
use Rattle.std.proofs.Common.{◌≡◌, ℕ, zero, suc, ◌+◌, ◌-◌, ◌*◌, ◌/◌, ◌%◌, ◌^◌, ◌<◌, List, [], ◌∷◌, get_or, refl, sym, ap, ◌∙◌, arith, mod-lt}
use Rattle.std.specs.Prelude.{bit_xor}
use Rattle.std.specs.Int.{w32, to_be_bytes}
use Rattle.std.proofs.Math.Nat.{div-one}
use Rattle.std.proofs.lemmas.Nat.{xor_shr, xor_mod}
use Rattle.aes_block.specs.Cipher.{IsBlock, byte_at, add_round_key}
use Rattle.aes_block.specs.CipherInside.{byte_of, state_of_words}
use Rattle.aes_block.proofs.States.{byte_at-state_of, state_of-block, same_block, add_round_key-block, byte_of_add_round_key}

pub byte_of-lt : (w row : ℕ) → byte_of w row < 256
unfolding byte_of
byte_of-lt w row = mod-lt (w / 2 ^ (24 - 8 * row)) (omega arith)

pub byte_of-xor : (v w row : ℕ) → byte_of (bit_xor v w) row ≡ bit_xor (byte_of v row) (byte_of w row)
unfolding byte_of
byte_of-xor v w row = ap (λ (x : ℕ). x % 2 ^ 8) (xor_shr v w (24 - 8 * row)) ∙ xor_mod (v / 2 ^ (24 - 8 * row)) (w / 2 ^ (24 - 8 * row)) 8

pub byte_at_words : (words : List ℕ) (row column : ℕ) → row < 4 → column < 4 → byte_at (state_of_words words) row column ≡ byte_of (get_or words column 0) row
unfolding state_of_words
byte_at_words words row column r c = byte_at-state_of (λ i j. byte_of (get_or words j 0) i) row column r c

pub state_of_words-block : (words : List ℕ) → IsBlock (state_of_words words)
unfolding state_of_words
state_of_words-block words = state_of-block (λ row column. byte_of (get_or words column 0) row) (λ row column r c. byte_of-lt (get_or words column 0) row)

-- the words stand for a state that has their bytes
pub stands_for : (words s : List ℕ) → IsBlock s → ((row column : ℕ) → row < 4 → column < 4 → byte_of (get_or words column 0) row ≡ byte_at s row column) → state_of_words words ≡ s
stands_for words s block same = same_block (state_of_words words) s (state_of_words-block words) block (λ row column r c. byte_at_words words row column r c ∙ same row column r c)

-- what holds of each of four rows, or of four columns
pub each_of_4 : (P : ℕ → Type 0) → P 0 → P 1 → P 2 → P 3 → (i : ℕ) → i < 4 → P i
each_of_4 P p0 p1 p2 p3 zero lt = p0
each_of_4 P p0 p1 p2 p3 (suc zero) lt = p1
each_of_4 P p0 p1 p2 p3 (suc (suc zero)) lt = p2
each_of_4 P p0 p1 p2 p3 (suc (suc (suc zero))) lt = p3
each_of_4 P p0 p1 p2 p3 (suc (suc (suc (suc i)))) lt = absurd (omega arith)

-- what holds of the four bytes of each of four words
pub each_byte : (P : ℕ → ℕ → Type 0) → P 0 0 → P 1 0 → P 2 0 → P 3 0 → P 0 1 → P 1 1 → P 2 1 → P 3 1 → P 0 2 → P 1 2 → P 2 2 → P 3 2 → P 0 3 → P 1 3 → P 2 3 → P 3 3
    → (row column : ℕ) → row < 4 → column < 4 → P row column
each_byte P p00 p10 p20 p30 p01 p11 p21 p31 p02 p12 p22 p32 p03 p13 p23 p33 row column r c =
    each_of_4 (λ j. P row j) (each_of_4 (λ i. P i 0) p00 p10 p20 p30 row r) (each_of_4 (λ i. P i 1) p01 p11 p21 p31 row r)
    (each_of_4 (λ i. P i 2) p02 p12 p22 p32 row r) (each_of_4 (λ i. P i 3) p03 p13 p23 p33 row r) column c

-- the number that `from_be_bytes` makes of four bytes
abbrev pub joined : (a b c d : ℕ) → ℕ
joined a b c d = a * 256 ^ 3 + b * 256 ^ 2 + c * 256 ^ 1 + d

pub joined-first : (a b c d : ℕ) → a < 256 → b < 256 → c < 256 → d < 256 → byte_of (joined a b c d) 0 ≡ a
unfolding byte_of
joined-first a b c d a_fits b_fits c_fits d_fits = omega arith

pub joined-second : (a b c d : ℕ) → a < 256 → b < 256 → c < 256 → d < 256 → byte_of (joined a b c d) 1 ≡ b
unfolding byte_of
joined-second a b c d a_fits b_fits c_fits d_fits = omega arith

pub joined-third : (a b c d : ℕ) → a < 256 → b < 256 → c < 256 → d < 256 → byte_of (joined a b c d) 2 ≡ c
unfolding byte_of
joined-third a b c d a_fits b_fits c_fits d_fits = omega arith

pub joined-fourth : (a b c d : ℕ) → a < 256 → b < 256 → c < 256 → d < 256 → byte_of (joined a b c d) 3 ≡ d
unfolding byte_of
joined-fourth a b c d a_fits b_fits c_fits d_fits = omega arith

-- words added to words stand for the sum of the states
pub added_words : (v w sums : List ℕ) → ((column : ℕ) → column < 4 → get_or sums column 0 ≡ bit_xor (get_or v column 0) (get_or w column 0))
    → state_of_words sums ≡ add_round_key (state_of_words v) (state_of_words w)
added_words v w sums each = stands_for sums (add_round_key (state_of_words v) (state_of_words w)) (add_round_key-block (state_of_words v) (state_of_words w) (state_of_words-block v) (state_of_words-block w))
    (λ row column r c.
    ap (λ (x : ℕ). byte_of x row) (each column c) ∙ byte_of-xor (get_or v column 0) (get_or w column 0) row
    ∙ sym (byte_of_add_round_key (state_of_words v) (state_of_words w) row column r c ∙ rw (byte_at_words v row column r c, byte_at_words w row column r c) refl))

-- the four bytes that `to_be_bytes` gives are the word's
pub be_bytes_are : (w : ℕ) → to_be_bytes w32 w ≡ byte_of w 0 ∷ byte_of w 1 ∷ byte_of w 2 ∷ byte_of w 3 ∷ []
unfolding byte_of
be_bytes_are w = rw div-one refl
