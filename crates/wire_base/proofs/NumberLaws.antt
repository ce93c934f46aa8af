-- Numbers within longer lists of bytes, and fields within a number.
use Rattle.std.proofs.Common.{◌≡◌, ℕ, zero, suc, ◌+◌, ◌*◌, ◌/◌, ◌%◌, ◌^◌, ◌<◌, ◌≤◌, List, [], ◌∷◌, ◌++◌, length, get_or, refl, ap, subst, ◌∙◌, add_assoc, arith}
use Rattle.std.proofs.lemmas.List.{get_or-append-add, get_or_append_left}
use Rattle.std.proofs.lemmas.Nat.{shr_below}
use Rattle.wire_base.specs.Numbers.{number_at, number_bytes}

-- a number after other bytes
pub number_at-append_right : (xs ys : List ℕ) (i width : ℕ) → number_at (xs ++ ys) (length xs + i) width ≡ number_at ys i width
unfolding number_at
number_at-append_right xs ys i zero = refl
number_at-append_right xs ys i (suc width) =
    let head : get_or (xs ++ ys) (length xs + i) 0 ≡ get_or ys i 0 = get_or-append-add xs ys i 0 in
    let tail : number_at (xs ++ ys) (length xs + i + 1) width ≡ number_at ys (i + 1) width = rw add_assoc (number_at-append_right xs ys (i + 1) width) in
    rw (head, tail) refl

-- a number before other bytes
pub number_at-append_left : (xs ys : List ℕ) (at width : ℕ) → at + width ≤ length xs → number_at (xs ++ ys) at width ≡ number_at xs at width
unfolding number_at
number_at-append_left xs ys at zero within = refl
number_at-append_left xs ys at (suc width) within =
    let head : get_or (xs ++ ys) at 0 ≡ get_or xs at 0 = get_or_append_left xs ys 0 at (omega arith) in
    let tail : number_at (xs ++ ys) (at + 1) width ≡ number_at xs (at + 1) width = number_at-append_left xs ys (at + 1) width (omega arith) in
    rw (head, tail) refl

number_at_front : (width n : ℕ) (after : List ℕ) → n < 2 ^ (8 * width) → number_at (number_bytes width n ++ after) 0 width ≡ n
unfolding number_at
number_at_front zero n after fits = omega arith
number_at_front (suc width) n after fits =
    let wider : 8 * suc width ≡ 8 * width + 8 = omega arith in
    let high : n / 256 < 2 ^ (8 * width) = shr_below n (8 * width) 8 (subst (λ (k : ℕ). n < 2 ^ k) wider fits) in
    let tail : number_at (n % 256 ∷ (number_bytes width (n / 256) ++ after)) 1 width ≡ n / 256 =
    number_at-append_right (n % 256 ∷ []) (number_bytes width (n / 256) ++ after) 0 width ∙ number_at_front width (n / 256) after high in
    rw tail (omega arith)

pub length-number_bytes : (width n : ℕ) → length (number_bytes width n) ≡ width
length-number_bytes zero n = refl
length-number_bytes (suc width) n = ap suc (length-number_bytes width (n / 256))

-- the number that was put is the number that is read, with bytes before and after
pub number_at-number_bytes : (width n : ℕ) (before after : List ℕ) → n < 2 ^ (8 * width) → number_at (before ++ (number_bytes width n ++ after)) (length before) width ≡ n
number_at-number_bytes width n before after fits =
    let at : length before + 0 ≡ length before = omega arith in
    subst (λ (k : ℕ). number_at (before ++ (number_bytes width n ++ after)) k width ≡ n) at
    (number_at-append_right before (number_bytes width n ++ after) 0 width ∙ number_at_front width n after fits)
