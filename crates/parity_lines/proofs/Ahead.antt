-- The states of the register in one number.
use Rattle.std.proofs.Common.{◌≡◌, ℕ, ◌+◌, ◌-◌, ◌*◌, ◌/◌, ◌%◌, ◌^◌, ◌<◌, bit_xor, sym, ap, ap₂, ◌∙◌, arith}
use Rattle.std.specs.Int.{bit_at}
use Rattle.std.proofs.lemmas.Nat.{shr-shr, xor_lt}
use Rattle.std.proofs.lemmas.Nat.Bits.{bit_at-lt, bit_at_xor, bit_at_cat_low, bit_at_cat_high}
use Rattle.frag_model.specs.Parity.{prbs23}

-- a bit of a stretch of a number is a bit of the number
bit_of_stretch : (a k i : ℕ) → bit_at (a / 2 ^ k) i ≡ bit_at a (k + i)
bit_of_stretch a k i = ap (λ n. n % 2) (shr-shr a k i)

-- where bit 23 is the sum of bit 0 and bit 5, the register's next state is one bit further up
next_up : (s : ℕ) → bit_at s 23 ≡ bit_xor (bit_at s 0) (bit_at s 5) → s / 2 % 2 ^ 23 ≡ prbs23 (s % 2 ^ 23)
next_up s is =
    let whole : s / 2 ^ 23 * 2 ^ 23 + s % 2 ^ 23 ≡ s = omega arith in
    let low : bit_at (s % 2 ^ 23) 0 ≡ bit_at s 0 = sym (bit_at_cat_low (s / 2 ^ 23) 23 (s % 2 ^ 23) 0 (omega arith)) ∙ ap (λ n. bit_at n 0) whole in
    let tap : bit_at (s % 2 ^ 23) 5 ≡ bit_at s 5 = sym (bit_at_cat_low (s / 2 ^ 23) 23 (s % 2 ^ 23) 5 (omega arith)) ∙ ap (λ n. bit_at n 5) whole in
    let top : bit_xor (bit_at (s % 2 ^ 23) 0) (bit_at (s % 2 ^ 23) 5) ≡ s / 2 ^ 23 % 2 = ap₂ bit_xor low tap ∙ sym is in
    let moved : s / 2 % 2 ^ 23 ≡ s % 2 ^ 23 / 2 + s / 2 ^ 23 % 2 * 2 ^ 22 = omega arith in
    moved ∙ ap (λ b. s % 2 ^ 23 / 2 + b * 2 ^ 22) (sym top)

one_bit : (b c : ℕ) → b < 2 → c < 2 → (b + c) % 2 ≡ bit_xor b c
one_bit b c first second =
    let small : bit_xor b c < 2 ^ 1 = xor_lt 1 b c first second in
    omega (arith, bit_at_xor b c 0, small)

-- so many states after the one in the lowest 23 bits are in the bits from 1, 2 and so on
abbrev pub AreAhead : ℕ → ℕ → Type 0
AreAhead s count = (k : ℕ) → k < count → s / 2 ^ (k + 1) % 2 ^ 23 ≡ prbs23 (s / 2 ^ k % 2 ^ 23)

-- a state with its sums above it has 18
pub stretches : (x a : ℕ) → x < 2 ^ 23 → a ≡ bit_xor x (x / 2 ^ 5) * 2 ^ 23 + x → AreAhead a 18
stretches x a small is k lt =
    let sums : ℕ = bit_xor x (x / 2 ^ 5) in
    let low : (i : ℕ) → i < 23 → bit_at a i ≡ bit_at x i = λ i inside. ap (λ n. bit_at n i) is ∙ bit_at_cat_low sums 23 x i inside in
    let here : k + 0 ≡ k = omega arith in
    let turned : 5 + k ≡ k + 5 = omega arith in
    let past : k + 23 - 23 ≡ k = omega arith in
    let first : bit_at (a / 2 ^ k) 0 ≡ bit_at x k = bit_of_stretch a k 0 ∙ ap (bit_at a) here ∙ low k (omega arith) in
    let sixth : bit_at (a / 2 ^ k) 5 ≡ bit_at x (k + 5) = bit_of_stretch a k 5 ∙ low (k + 5) (omega arith) in
    let above : bit_at (a / 2 ^ k) 23 ≡ bit_at sums k =
    bit_of_stretch a k 23 ∙ ap (λ n. bit_at n (k + 23)) is ∙ bit_at_cat_high sums 23 x (k + 23) small (omega arith) ∙ ap (bit_at sums) past in
    let summed : bit_at sums k ≡ bit_xor (bit_at x k) (bit_at x (k + 5)) =
    bit_at_xor x (x / 2 ^ 5) k
    ∙ ap (λ b. (bit_at x k + b) % 2) (bit_of_stretch x 5 k ∙ ap (bit_at x) turned)
    ∙ one_bit (bit_at x k) (bit_at x (k + 5)) (bit_at-lt x k) (bit_at-lt x (k + 5)) in
    ap (λ n. n % 2 ^ 23) (sym (shr-shr a k 1)) ∙ next_up (a / 2 ^ k) (above ∙ summed ∙ sym (ap₂ bit_xor first sixth))

-- the first of them, and those after it
pub first_ahead : (s count : ℕ) → 0 < count → AreAhead s count → s / 2 % 2 ^ 23 ≡ prbs23 (s % 2 ^ 23)
first_ahead s count some h =
    let whole : s / 2 ^ 0 ≡ s = omega arith in
    h 0 some ∙ ap (λ n. prbs23 (n % 2 ^ 23)) whole

pub rest_ahead : (s count next : ℕ) → next < count → AreAhead s count → AreAhead (s / 2) next
rest_ahead s count next lt h k inside =
    let one_up : (i : ℕ) → s / 2 / 2 ^ i ≡ s / 2 ^ (i + 1) = λ i.
    let place : 1 + i ≡ i + 1 = omega arith in
    shr-shr s 1 i ∙ ap (λ j. s / 2 ^ j) place in
    ap (λ n. n % 2 ^ 23) (one_up (k + 1)) ∙ h (k + 1) (omega arith) ∙ ap (λ n. prbs23 (n % 2 ^ 23)) (sym (one_up k))
