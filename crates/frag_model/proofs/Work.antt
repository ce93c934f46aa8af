-- What a fragment costs: the states that are drawn for its line, and how many columns the line has.
use Rattle.std.proofs.Common.{◌≡◌, ℕ, zero, suc, ◌+◌, ◌-◌, ◌*◌, ◌/◌, ◌%◌, ◌^◌, ◌<◌, ◌≤◌, cond, List, [], ◌∷◌, length, take, filter, max, inl, inr, ap, ap₂, ◌∙◌, arith, pow-suc, ltb, le-leb}
use Rattle.std.specs.Int.Bits.{bit_or, or_step, or_zero_l}
use Rattle.std.specs.Int.Count.{ones, ones_step}
use Rattle.std.proofs.lemmas.Bool.{lt-leb, cases_lt}
use Rattle.std.proofs.lemmas.List.{length-take}
use Rattle.std.proofs.lemmas.Nat.{ones-le}
use Rattle.frag_model.specs.Fragments.{line_of, draws_of}
use Rattle.frag_model.specs.Parity.{line, line_with, columns_drawn, residues, draws}
use Rattle.frag_model.proofs.Sums.{line_of_coded}
use Rattle.frag_model.proofs.Uncoded.{line_of_piece}

-- ---- states

pub draws_of_piece : (nb_frag n : ℕ) → n ≤ nb_frag → draws_of nb_frag n ≡ 0
unfolding draws_of
draws_of_piece nb_frag n le = ap (λ t. cond {A = ℕ} t 0 (draws (n - nb_frag) nb_frag)) (le-leb n nb_frag le)

pub draws_of_coded : (nb_frag n : ℕ) → nb_frag < n → draws_of nb_frag n ≡ draws (n - nb_frag) nb_frag
unfolding draws_of
draws_of_coded nb_frag n lt = ap (λ t. cond {A = ℕ} t 0 (draws (n - nb_frag) nb_frag)) (lt-leb n nb_frag lt)

-- ---- columns

no_column : ones 0 ≡ 0
no_column = omega (arith, ones-le 0 0 (omega arith))

-- a power of two has one
one_column : (c : ℕ) → ones (2 ^ c) ≡ 1
one_column zero =
    let half : 2 ^ 0 / 2 ≡ 0 = omega arith in
    omega (arith, ones_step (2 ^ 0), ap ones half, no_column)
one_column (suc c) =
    let half : 2 ^ suc c / 2 ≡ 2 ^ c = omega (arith, pow-suc 2 c) in
    omega (arith, ones_step (2 ^ suc c), ap ones half, one_column c, pow-suc 2 c)

-- and adds one at most
one_more : (c x : ℕ) → ones (bit_or (2 ^ c) x) ≤ suc (ones x)
one_more zero x =
    let y : ℕ = bit_or (2 ^ 0) x in
    let is : y ≡ bit_or 0 (x / 2) * 2 + max 1 (x % 2) = or_step (2 ^ 0) x in
    let rest : bit_or 0 (x / 2) ≡ x / 2 = or_zero_l (x / 2) in
    let half : y / 2 ≡ x / 2 = omega (arith, is, rest) in
    omega (arith, ones_step y, ones_step x, ap ones half)
one_more (suc c) x =
    let y : ℕ = bit_or (2 ^ suc c) x in
    let z : ℕ = bit_or (2 ^ c) (x / 2) in
    let power : 2 ^ suc c / 2 ≡ 2 ^ c = omega (arith, pow-suc 2 c) in
    let even : 2 ^ suc c % 2 ≡ 0 = omega (arith, pow-suc 2 c) in
    let is : y ≡ z * 2 + max 0 (x % 2) = or_step (2 ^ suc c) x ∙ ap₂ (λ p e. bit_or p (x / 2) * 2 + max e (x % 2)) power even in
    let half : y / 2 ≡ z = omega (arith, is) in
    let low : y % 2 ≡ x % 2 = omega (arith, is) in
    omega (arith, ones_step y, ones_step x, ap ones half, low, one_more c (x / 2))

few_columns : (cs : List ℕ) → ones (line_with cs) ≤ length cs
unfolding line_with
few_columns [] = omega (arith, no_column)
few_columns (c ∷ cs) = omega (arith, one_more c (line_with cs), few_columns cs)

-- a piece's line has one column
pub piece_columns : (nb_frag n : ℕ) → n ≤ nb_frag → ones (line_of nb_frag n) ≡ 1
piece_columns nb_frag n le = ap ones (line_of_piece nb_frag n le) ∙ one_column (n - 1)

-- a coded fragment's has half of all columns at most
pub coded_columns : (nb_frag n : ℕ) → nb_frag < n → ones (line_of nb_frag n) ≤ nb_frag / 2
unfolding line columns_drawn
coded_columns nb_frag n lt =
    let rs = filter (λ r. ltb r nb_frag) (residues (n - nb_frag) nb_frag) in
    let few = few_columns (take (nb_frag / 2) rs) in
    omega (arith, ap ones (line_of_coded nb_frag n lt), few, length-take (nb_frag / 2) rs)

-- so a line has no more than this
pub few_in_line : (nb_frag n : ℕ) → ones (line_of nb_frag n) ≤ max 1 (nb_frag / 2)
few_in_line nb_frag n = elim (cases_lt nb_frag n) [
  | inl coded ↦ omega (arith, coded_columns nb_frag n coded)
  | inr piece ↦ omega (arith, piece_columns nb_frag n piece)
]
