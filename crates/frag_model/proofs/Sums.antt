-- All sums of lines, by one line at a time.
use Rattle.std.proofs.Common.{◌≡◌, ℕ, zero, suc, ◌+◌, ◌<◌, Bool, true, false, cond, ◌||◌, ◌==◌, List, [], ◌∷◌, map, length, get_or, take, drop, not, ◌&&◌, nat_le, ◌^◌, ◌-◌, ◌*◌, bit_or, bit_xor, lit<, pow-suc, one-mul, ◌%◌, refl, sym, ap, ap₂, ◌∙◌, arith}
use Rattle.std.specs.List.{list_any}
use Rattle.std.specs.Int.Bits.{xor_self, xor_zero_l, xor_assoc, or_zero_r}
use lib.Bits.{or_block}
use Rattle.std.proofs.Math.Seq.{take-length}
use Rattle.std.proofs.lemmas.Bool.Decides.{Decides-eqb, same_from_decides, Decides-like}
use Rattle.std.proofs.lemmas.List.Folds.{list_any-append}
use Rattle.std.specs.Prelude.{if◌then◌else◌}
use Rattle.std.proofs.lemmas.Bool.{lt-leb}
use Rattle.std.proofs.Math.Pow.{shl_exact}
use Rattle.frag_model.specs.Parity.{number_of, line}
use Rattle.frag_model.specs.Fragments.{line_of}
use Rattle.frag_model.specs.Gain.{sums, is_sum, gain_of_lines, gain_of, direct_of}

pub xor_back : (a b : ℕ) → bit_xor a (bit_xor a b) ≡ b
xor_back a b = sym (xor_assoc a a b) ∙ ap (λ x. bit_xor x b) (xor_self a) ∙ xor_zero_l b

-- a sum with the line is x exactly where the rest is x with the line
same_test : (line x s : ℕ) → (bit_xor line s == x) ≡ (s == bit_xor line x)
same_test line x s =
    same_from_decides (bit_xor line s == x) (s == bit_xor line x) (Decides-eqb (bit_xor line s) x)
    (Decides-like (s == bit_xor line x)
    (λ e. ap (λ y. bit_xor line y) e ∙ xor_back line x)
    (λ e. sym (xor_back line s) ∙ ap (λ y. bit_xor line y) e)
    (Decides-eqb s (bit_xor line x)))

any_mapped : (line x : ℕ) (ss : List ℕ) → list_any (λ s. s == x) (map (λ s. bit_xor line s) ss) ≡ list_any (λ s. s == bit_xor line x) ss
any_mapped line x [] = refl
any_mapped line x (s ∷ ss) = ap₂ ◌||◌ (same_test line x s) (any_mapped line x ss)

or_false : (t : Bool) → (t || false) ≡ t
or_false true = refl
or_false false = refl

pub is_sum-nil : (x : ℕ) → is_sum x [] ≡ (x == 0)
unfolding is_sum sums
is_sum-nil x = ap (λ t. t || false) (same_from_decides (0 == x) (x == 0) (Decides-eqb 0 x) (Decides-like (x == 0) sym sym (Decides-eqb x 0))) ∙ or_false (x == 0)

pub is_sum-cons : (x line : ℕ) (lines : List ℕ) → is_sum x (line ∷ lines) ≡ (is_sum x lines || is_sum (bit_xor line x) lines)
unfolding is_sum sums
is_sum-cons x line lines =
    list_any-append (λ s. s == x) (sums lines) (map (λ s. bit_xor line s) (sums lines))
    ∙ ap (λ t. list_any (λ s. s == x) (sums lines) || t) (any_mapped line x (sums lines))

-- ---- by the first member and the rest of a list, as a slice gives it

rest : List ℕ → List ℕ
rest xs = take (length xs - 1) (drop 1 xs)

rest-cons : (x : ℕ) (xs : List ℕ) → rest (x ∷ xs) ≡ xs
unfolding rest
rest-cons x xs = ap (λ n. take n xs) (let e : suc (length xs) - 1 ≡ length xs = omega arith in e) ∙ take-length xs

pub is_sum_empty : (x : ℕ) (lines : List ℕ) → length lines ≡ 0 → is_sum x lines ≡ (x == 0)
is_sum_empty x [] e = is_sum-nil x
is_sum_empty x (l ∷ lines) e = absurd (omega arith)

pub is_sum_first : (x : ℕ) (lines : List ℕ) → 0 < length lines
    → is_sum x lines ≡ (is_sum x (take (length lines - 1) (drop 1 lines)) || is_sum (bit_xor (get_or lines 0 0) x) (take (length lines - 1) (drop 1 lines)))
unfolding rest
is_sum_first x [] lt = absurd (omega arith)
is_sum_first x (l ∷ lines) lt = is_sum-cons x l lines ∙ ap (λ ls. is_sum x ls || is_sum (bit_xor l x) ls) (sym (rest-cons l lines))

pub gain_empty : (lines : List ℕ) → length lines ≡ 0 → gain_of_lines lines ≡ 0
unfolding gain_of_lines
gain_empty [] e = refl
gain_empty (l ∷ lines) e = absurd (omega arith)

pub gain_first : (lines : List ℕ) → 0 < length lines
    → gain_of_lines lines ≡ gain_of_lines (take (length lines - 1) (drop 1 lines)) + (if not (is_sum (get_or lines 0 0) (take (length lines - 1) (drop 1 lines))) then 1 else 0)
unfolding gain_of_lines rest
gain_first [] lt = absurd (omega arith)
gain_first (l ∷ lines) lt =
    ap (λ n. gain_of_lines lines + n) (swapped (is_sum l lines))
    ∙ ap (λ ls. gain_of_lines ls + (if not (is_sum l ls) then 1 else 0)) (sym (rest-cons l lines))
  where
    swapped : (t : Bool) → ◌≡◌ {A = ℕ} (if t then 0 else 1) (if not t then 1 else 0)
    swapped true = refl
    swapped false = refl

pub direct_empty : (nb_frag : ℕ) (numbers : List ℕ) → length numbers ≡ 0 → direct_of nb_frag numbers ≡ 0
unfolding direct_of
direct_empty nb_frag [] e = refl
direct_empty nb_frag (n ∷ numbers) e = absurd (omega arith)

pub direct_first : (nb_frag : ℕ) (numbers : List ℕ) → 0 < length numbers
    → direct_of nb_frag numbers ≡ direct_of nb_frag (take (length numbers - 1) (drop 1 numbers))
    + (if nat_le (get_or numbers 0 0) nb_frag && not (list_any (λ m. m == get_or numbers 0 0) (take (length numbers - 1) (drop 1 numbers))) then 1 else 0)
unfolding direct_of rest
direct_first nb_frag [] lt = absurd (omega arith)
direct_first nb_frag (n ∷ numbers) lt =
    ap (λ ns. direct_of nb_frag ns + (if nat_le n nb_frag && not (list_any (λ m. m == n) ns) then 1 else 0)) (sym (rest-cons n numbers))

-- ---- one column more of a word

pub number_of_more : (columns : List Bool) (c : ℕ) → c < length columns → number_of (take (c + 1) columns) ≡ bit_or (number_of (take c columns)) (if get_or columns c false then 2 ^ c else 0)
unfolding number_of
number_of_more [] c lt = absurd (omega arith)
number_of_more (true ∷ columns) zero lt = refl
number_of_more (false ∷ columns) zero lt = refl
number_of_more (b ∷ columns) (suc c) lt =
    let lt' : c < length columns = omega arith in
    let n : ℕ = number_of (take c columns) in
    let d : ℕ = if b then 1 else 0 in
    let p : ℕ = if get_or columns c false then 2 ^ c else 0 in
    let small : d < 2 = elim b as (λ t. (if t then 1 else 0) < 2) [ true ↦ lit< tt | false ↦ lit< tt ] in
    let double : (if get_or columns c false then 2 ^ suc c else 0) ≡ p * 2 + 0 =
    elim (get_or columns c false) as (λ t. (if t then 2 ^ suc c else 0) ≡ (if t then 2 ^ c else 0) * 2 + 0) [ true ↦ omega (arith, pow-suc 2 c) | false ↦ refl ] in
    ap (λ i. number_of (take i (b ∷ columns))) (let e : suc c + 1 ≡ suc (c + 1) = omega arith in e)
    ∙ ap (λ m. m * 2 + d) (number_of_more columns c lt')
    ∙ ap (λ e. bit_or n p * 2 + e) (sym (or_zero_r d))
    ∙ sym (or_block 1 n p d 0 small (lit< tt))
    ∙ ap (λ e. bit_or (n * 2 + d) e) (sym double)

-- a column set in a word of 64 bits
pub one_shifted : (c : ℕ) → c < 64 → 1 * 2 ^ c % 2 ^ 64 ≡ 2 ^ c
one_shifted c lt = shl_exact {a = 1} 1 c 64 (lit< tt) (omega arith) ∙ one-mul (2 ^ c)

-- the line of a coded fragment
pub line_of_coded : (nb_frag n : ℕ) → nb_frag < n → line_of nb_frag n ≡ line (n - nb_frag) nb_frag
unfolding line_of
line_of_coded nb_frag n lt = ap (λ t. cond t (2 ^ (n - 1)) (line (n - nb_frag) nb_frag)) (lt-leb n nb_frag lt)

-- the gain of numbers is that of their lines
pub gain_of_numbers : (nb_frag : ℕ) (numbers lines : List ℕ) → lines ≡ map (λ n. line_of nb_frag n) numbers → gain_of_lines lines ≡ gain_of nb_frag numbers
unfolding gain_of
gain_of_numbers nb_frag numbers lines e = ap gain_of_lines e
