-- Lines in words, and lines without many of their columns.
use Rattle.std.proofs.Common.{◌≡◌, ◌≢◌, ℕ, zero, suc, ◌+◌, ◌*◌, ◌^◌, ◌<◌, List, [], ◌∷◌, length, take, get_or, bit_xor, refl, sym, ap, ◌∙◌, inl, inr, arith, length-take}
use Rattle.std.specs.Int.{bit_at}
use Rattle.std.specs.Simd.Lanes.{zip2}
use Rattle.std.proofs.lemmas.Nat.Bits.{bit_at-lt, bit_at_above, bit_at_xor, bit_at-pow_other}
use Rattle.std.proofs.lemmas.Bool.{cases_lt, cases_eq}
use Rattle.std.proofs.lemmas.List.{get_or-take}
use Rattle.frag_model.specs.Fragments.{xor_bytes}
use Rattle.parity_lines.specs.Words.{words_number}
use Rattle.row_arena.specs.Rows.{line_in}
use Rattle.row_arena.specs.Sums.{after_flips}
use Rattle.row_arena.proofs.Bits.{line_step}

-- the line that words hold, by either name
pub words_are : (words : List ℕ) → line_in words ≡ words_number words
unfolding words_number line_in
words_are [] = refl
words_are (w ∷ ws) = line_step w ws ∙ ap (λ n. n * 2 ^ 64 + w) (words_are ws)

-- the first words of no column have none
pub none_in_first : (n : ℕ) (words : List ℕ) → line_in words ≡ 0 → line_in (take n words) ≡ 0
unfolding line_in
none_in_first zero words e = refl
none_in_first (suc n) [] e = refl
none_in_first (suc n) (w ∷ ws) e =
    let here : line_in ws * 2 ^ 64 + w ≡ 0 = sym (line_step w ws) ∙ e in
    let rest : line_in (take n ws) ≡ 0 = none_in_first n ws (omega arith) in
    line_step w (take n ws) ∙ (omega arith)

-- a column of a line is below the number of columns
pub column_inside : (cols l c : ℕ) → l < 2 ^ cols → bit_at l c ≡ 1 → c < cols
column_inside cols l c within on = elim (cases_lt c cols) [
  | inl lt ↦ lt
  | inr past ↦ absurd (omega (arith, on, bit_at_above l cols c within past))
]

-- flipping other columns leaves a column as it was
pub untouched : (l d : ℕ) (ks : List ℕ) → ((n : ℕ) → n < length ks → get_or ks n 0 ≢ d) → bit_at (after_flips l ks) d ≡ bit_at l d
unfolding after_flips
untouched l d [] apart = refl
untouched l d (k ∷ ks) apart =
    let ne : d ≢ k = λ e. apart 0 (omega arith) (sym e) in
    let rest : bit_at (after_flips (bit_xor l (2 ^ k)) ks) d ≡ bit_at (bit_xor l (2 ^ k)) d = untouched (bit_xor l (2 ^ k)) d ks (λ n lt. apart (suc n) (omega arith)) in
    omega (arith, rest, bit_at_xor l (2 ^ k) d, bit_at-pow_other k d ne, bit_at-lt l d)

-- the sum of two parts, by either name
pub sum_is : (xs ys : List ℕ) → length xs ≡ length ys → zip2 bit_xor xs ys ≡ xor_bytes xs ys
unfolding xor_bytes
sum_is [] [] e = refl
sum_is [] (y ∷ ys) e = absurd (omega arith)
sum_is (x ∷ xs) [] e = absurd (omega arith)
sum_is (x ∷ xs) (y ∷ ys) e = ap (λ l. bit_xor x y ∷ l) (sum_is xs ys (omega arith))

-- after all its columns were flipped a line has none
pub listed : (l left n : ℕ) (picks : List ℕ) → left ≡ after_flips l (take n picks) → ((c : ℕ) → bit_at l c ≡ 1 → bit_at left c ≡ 0)
    → ((k : ℕ) → k < n → bit_at l (get_or picks k 0) ≡ 1) → (c : ℕ) → bit_at (after_flips l (take n picks)) c ≡ 0
listed l left n picks is none on c = elim (cases_eq (bit_at l c) 1) [
  | inl set ↦ ap (λ x. bit_at x c) (sym is) ∙ none c set
  | inr off ↦
      untouched l c (take n picks) (λ k lt e.
      let below : k < n = omega (arith, length-take n picks) in
      off (ap (bit_at l) (sym e ∙ get_or-take n picks k 0 below) ∙ on k below))
      ∙ (omega (arith, off, bit_at-lt l c))
]
