-- The bits of a line in words.
use Rattle.std.proofs.Common.{◌≡◌, ℕ, suc, ◌+◌, ◌-◌, ◌*◌, ◌/◌, ◌%◌, ◌^◌, ◌<◌, List, [], ◌∷◌, length, get_or, bit_xor, refl, sym, ap, ap₂, ◌∙◌, inl, inr, arith, w64}
use Rattle.std.specs.Int.{bit_at, trailing_zeros}
use Rattle.std.proofs.lemmas.Bool.{cases_lt}
use Rattle.std.proofs.lemmas.Nat.{xor_block}
use Rattle.std.proofs.lemmas.Nat.Bits.{bit_at-zero, bit_at_cat_low, bit_at_cat_high, bit_at-trailing_zeros}
use lib.Lanes.{zip2}
use Rattle.row_arena.specs.Rows.{line_in}

abbrev pub AreWords : List ℕ → Type 0
AreWords words = (i : ℕ) → get_or words i 0 < 2 ^ 64

first_small : (w : ℕ) (ws : List ℕ) → AreWords (w ∷ ws) → w < 2 ^ 64
first_small w ws small = small 0

rest_small : (w : ℕ) (ws : List ℕ) → AreWords (w ∷ ws) → AreWords ws
rest_small w ws small = λ i. small (suc i)

pub line_step : (w : ℕ) (ws : List ℕ) → line_in (w ∷ ws) ≡ line_in ws * 2 ^ 64 + w
unfolding line_in
line_step w ws = omega arith

-- a bit of the line is a bit of its word
pub bit_of_word : (words : List ℕ) (c : ℕ) → AreWords words → bit_at (line_in words) c ≡ bit_at (get_or words (c / 64) 0) (c % 64)
unfolding line_in
bit_of_word [] c small = bit_at-zero c ∙ sym (bit_at-zero (c % 64))
bit_of_word (w ∷ ws) c small = elim (cases_lt c 64) [
  | inl low ↦
      let first : c / 64 ≡ 0 = omega arith in
      let same : c % 64 ≡ c = omega arith in
      ap (λ n. bit_at n c) (line_step w ws)
      ∙ bit_at_cat_low (line_in ws) 64 w c low ∙ ap₂ (λ i k. bit_at (get_or (w ∷ ws) i 0) k) (sym first) (sym same)
  | inr high ↦
      let next : suc ((c - 64) / 64) ≡ c / 64 = omega arith in
      let same : (c - 64) % 64 ≡ c % 64 = omega arith in
      ap (λ n. bit_at n c) (line_step w ws)
      ∙ bit_at_cat_high (line_in ws) 64 w c (first_small w ws small) high
      ∙ bit_of_word ws (c - 64) (rest_small w ws small)
      ∙ ap₂ (λ i k. bit_at (get_or (w ∷ ws) i 0) k) next same
]

-- no word, no column
pub none_set : (words : List ℕ) → ((i : ℕ) → i < length words → get_or words i 0 ≡ 0) → line_in words ≡ 0
unfolding line_in
none_set [] h = refl
none_set (w ∷ ws) h =
    let here : w ≡ 0 = h 0 (omega arith) in
    let rest : line_in ws ≡ 0 = none_set ws (λ i lt. h (suc i) (omega arith)) in
    line_step w ws ∙ (omega (arith, here, rest))

-- the first column is in the first word that is not zero
pub first_is : (words : List ℕ) (i : ℕ) → AreWords words → i < length words → 0 < get_or words i 0 → ((k : ℕ) → k < i → get_or words k 0 ≡ 0)
    → (i * 64 + trailing_zeros w64 (get_or words i 0) < 64 * length words)
    × (bit_at (line_in words) (i * 64 + trailing_zeros w64 (get_or words i 0)) ≡ 1)
    × ((c : ℕ) → c < i * 64 + trailing_zeros w64 (get_or words i 0) → bit_at (line_in words) c ≡ 0)
first_is words i small lt some none =
    let t : ℕ = trailing_zeros w64 (get_or words i 0) in
    let tz = bit_at-trailing_zeros w64 (get_or words i 0) some (small i) in
    let below : t < 64 = tz.0 in
    let word : (i * 64 + t) / 64 ≡ i = omega arith in
    let place : (i * 64 + t) % 64 ≡ t = omega arith in (
      omega arith,
      bit_of_word words (i * 64 + t) small ∙ ap₂ (λ j k. bit_at (get_or words j 0) k) word place ∙ tz.1,
      λ c before. bit_of_word words c small ∙ elim (cases_lt (c / 64) i) [
        | inl early ↦ ap (λ w. bit_at w (c % 64)) (none (c / 64) early) ∙ bit_at-zero (c % 64)
        | inr same ↦
            let is : c / 64 ≡ i = omega arith in
            let within : c % 64 < t = omega arith in
            ap (λ j. bit_at (get_or words j 0) (c % 64)) is ∙ tz.2 (c % 64) within
      ],
    )

-- the line of a sum
pub line_sum : (xs ys : List ℕ) → length xs ≡ length ys → AreWords xs → AreWords ys → line_in (zip2 bit_xor xs ys) ≡ bit_xor (line_in xs) (line_in ys)
unfolding line_in
line_sum [] [] e a b = refl
line_sum [] (y ∷ ys) e a b = absurd (omega arith)
line_sum (x ∷ xs) [] e a b = absurd (omega arith)
line_sum (x ∷ xs) (y ∷ ys) e a b =
    let rest = line_sum xs ys (omega arith) (rest_small x xs a) (rest_small y ys b) in
    line_step (bit_xor x y) (zip2 bit_xor xs ys)
    ∙ ap (λ n. n * 2 ^ 64 + bit_xor x y) rest
    ∙ sym (xor_block 64 (line_in xs) (line_in ys) x y (first_small x xs a) (first_small y ys b))
    ∙ sym (ap₂ bit_xor (line_step x xs) (line_step y ys))

-- two words are a line of 128 columns
pub two_words : (a b : ℕ) → a < 2 ^ 64 → b < 2 ^ 64 → line_in (a ∷ b ∷ []) < 2 ^ 128
two_words a b low high = omega (arith, line_step a (b ∷ []), line_step b [], none_set [] (λ i lt. absurd (omega arith)), low, high)
