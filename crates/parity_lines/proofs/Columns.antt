-- The columns of a line in words, one bit for each.
use Rattle.std.proofs.Common.{◌≡◌, ◌↔◌, inl, inr, ℕ, suc, ◌-◌, ◌*◌, ◌/◌, ◌%◌, ◌^◌, ◌<◌, List, [], ◌∷◌, get_or, sym, ap, ap₂, ◌∙◌, zero-mul, arith}
use Rattle.std.specs.List.{AllByRecursion}
use Rattle.std.specs.Int.{bit_at, IsBitSet}
use Rattle.std.proofs.lemmas.Bool.{cases_eq, cases_lt}
use Rattle.std.proofs.lemmas.Nat.{pow_pos}
use Rattle.std.proofs.lemmas.Nat.Bits.{bit_at-lt, bit_at-zero, bit_at_or, bit_at-pow_same, bit_at-pow_other, bit_at_cat_low, bit_at_cat_high, and_pow}
use Rattle.frag_model.specs.Members.{In}
use Rattle.frag_model.specs.Parity.{line_with}
use Rattle.parity_lines.specs.Words.{words_number}

-- a bit of the line is a bit of its word
bit_of_word : (words : List ℕ) (c : ℕ) → AllByRecursion (λ w. w < 2 ^ 64) words → bit_at (words_number words) c ≡ bit_at (get_or words (c / 64) 0) (c % 64)
unfolding words_number
bit_of_word [] c small = bit_at-zero c ∙ sym (bit_at-zero (c % 64))
bit_of_word (w ∷ ws) c small = elim (cases_lt c 64) [
  | inl low ↦
      let first : c / 64 ≡ 0 = omega arith in
      let same : c % 64 ≡ c = omega arith in
      bit_at_cat_low (words_number ws) 64 w c low ∙ ap₂ (λ i k. bit_at (get_or (w ∷ ws) i 0) k) (sym first) (sym same)
  | inr high ↦
      let next : suc ((c - 64) / 64) ≡ c / 64 = omega arith in
      let same : (c - 64) % 64 ≡ c % 64 = omega arith in
      bit_at_cat_high (words_number ws) 64 w c small.0 high
      ∙ bit_of_word ws (c - 64) small.1
      ∙ ap₂ (λ i k. bit_at (get_or (w ∷ ws) i 0) k) next same
]

-- and the line's bits are its columns
column_from_bit : (cs : List ℕ) (c : ℕ) → bit_at (line_with cs) c ≡ 1 → In c cs
unfolding line_with
column_from_bit [] c one = absurd (omega (arith, one, bit_at-zero c))
column_from_bit (d ∷ ds) c one = elim (cases_eq c d) [
  | inl same ↦ inl same
  | inr other ↦ inr (column_from_bit ds c (omega (arith, one, bit_at_or (2 ^ d) (line_with ds) c, bit_at-pow_other d c other)))
]

bit_from_column : (cs : List ℕ) (c : ℕ) → In c cs → bit_at (line_with cs) c ≡ 1
unfolding line_with
bit_from_column [] c h = absurd h
bit_from_column (d ∷ ds) c (inl same) =
    omega (arith, bit_at_or (2 ^ d) (line_with ds) c, bit_at-lt (line_with ds) c, ap (λ e. bit_at (2 ^ d) e) same, bit_at-pow_same d)
bit_from_column (d ∷ ds) c (inr later) =
    omega (arith, bit_at_or (2 ^ d) (line_with ds) c, bit_at-lt (2 ^ d) c, bit_from_column ds c later)

-- bit k is set where it is 1
bit_set : (n k : ℕ) → IsBitSet n k → bit_at n k ≡ 1
bit_set n k set = elim (cases_eq (bit_at n k) 0) [
  | inl none ↦ absurd (set (and_pow n k ∙ ap (λ b. b * 2 ^ k) none ∙ zero-mul (2 ^ k)))
  | inr some ↦ omega (arith, bit_at-lt n k)
]

set_bit : (n k : ℕ) → bit_at n k ≡ 1 → IsBitSet n k
set_bit n k one none =
    let power : 2 ^ k ≡ 0 = omega (arith, sym (and_pow n k ∙ ap (λ b. b * 2 ^ k) one) ∙ none) in
    omega (arith, pow_pos k, power)

pub columns_in_words : (words columns : List ℕ) → AllByRecursion (λ w. w < 2 ^ 64) words → words_number words ≡ line_with columns
    → (c : ℕ) → IsBitSet (get_or words (c / 64) 0) (c % 64) ↔ In c columns
columns_in_words words columns small is c =
    let bit : bit_at (get_or words (c / 64) 0) (c % 64) ≡ bit_at (line_with columns) c = sym (bit_of_word words c small) ∙ ap (λ l. bit_at l c) is in (
      λ set. column_from_bit columns c (sym bit ∙ bit_set _ _ set),
      λ member. set_bit _ _ (bit ∙ bit_from_column columns c member),
    )
