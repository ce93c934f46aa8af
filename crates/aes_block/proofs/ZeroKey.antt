-- The table of the zero key's round keys, word by word.
use Rattle.std.proofs.Common.{◌≡◌, ℕ, zero, suc, ◌+◌, ◌*◌, ◌/◌, ◌%◌, ◌<◌, true, List, [], ◌∷◌, get_or, refl, ap, ◌∙◌, arith}
use Rattle.std.specs.Prelude.{replicate}
use Rattle.aes_block.specs.declared.tables.TheConstants.{ROUND_KEYS_OF_ZEROS}
use Rattle.aes_block.specs.Field.{xtime, sum_of_products, times, inverse, affine_bit, sub_byte}
use Rattle.aes_block.specs.Cipher.{byte_at, next_words, words_from}
use Rattle.aes_block.specs.CipherInside.{byte_of, state_of_words, AreRoundKeys}
use Rattle.aes_block.proofs.Agree.{all_agree, all_agree_at}
use Rattle.aes_block.proofs.Rounds.{next_words-block}
use Rattle.aes_block.proofs.WordBytes.{state_of_words-block, stands_for}

-- word i of the key expansion
abbrev word : ℕ → ℕ
word i = get_or (get_or ROUND_KEYS_OF_ZEROS (i % 4) []) (i / 4) 0

-- the four words from word n on
abbrev words_on : ℕ → List ℕ
words_on n = word n ∷ word (n + 1) ∷ word (n + 2) ∷ word (n + 3) ∷ []

all_next : all_agree (λ n p. byte_of (get_or (words_on (n + 1)) (p / 4) 0) (p % 4)) (λ n p. byte_at (next_words (n + 4) (state_of_words (words_on n))) (p % 4) (p / 4)) 40 16 ≡ true
unfolding byte_of state_of_words next_words sub_byte affine_bit inverse times sum_of_products xtime
all_next = refl

next_at : (n : ℕ) → n < 40 → state_of_words (words_on (n + 1)) ≡ next_words (n + 4) (state_of_words (words_on n))
next_at n within = stands_for (words_on (n + 1)) (next_words (n + 4) (state_of_words (words_on n))) (next_words-block (n + 4) (state_of_words (words_on n)) (state_of_words-block (words_on n)))
    (λ row column r c.
    let row_is : (row + 4 * column) % 4 ≡ row = omega arith in
    let column_is : (row + 4 * column) / 4 ≡ column = omega arith in
    rw (row_is, column_is) at (all_agree_at (λ n p. byte_of (get_or (words_on (n + 1)) (p / 4) 0) (p % 4)) (λ n p. byte_at (next_words (n + 4) (state_of_words (words_on n))) (p % 4) (p / 4)) 40 16 n (row + 4 * column) all_next within (omega arith)))

first_words : state_of_words (words_on 0) ≡ replicate 16 0
unfolding byte_of state_of_words
first_words = refl

words_are : (n : ℕ) → n < 41 → state_of_words (words_on n) ≡ words_from (replicate 16 0) n
unfolding words_from
words_are zero within = first_words
words_are (suc n) within =
    let next : suc n ≡ n + 1 = omega arith in
    rw next (next_at n (omega arith)) ∙ ap (next_words (n + 4)) (words_are n (omega arith))

pub round_keys_are : AreRoundKeys (replicate 16 0) ROUND_KEYS_OF_ZEROS
round_keys_are n within =
    let place_0 : 4 * n % 4 ≡ 0 = omega arith in
    let place_1 : (4 * n + 1) % 4 ≡ 1 = omega arith in
    let place_2 : (4 * n + 2) % 4 ≡ 2 = omega arith in
    let place_3 : (4 * n + 3) % 4 ≡ 3 = omega arith in
    let round_0 : 4 * n / 4 ≡ n = omega arith in
    let round_1 : (4 * n + 1) / 4 ≡ n = omega arith in
    let round_2 : (4 * n + 2) / 4 ≡ n = omega arith in
    let round_3 : (4 * n + 3) / 4 ≡ n = omega arith in
    rw (place_0, place_1, place_2, place_3, round_0, round_1, round_2, round_3) at (words_are (4 * n) (omega arith))
