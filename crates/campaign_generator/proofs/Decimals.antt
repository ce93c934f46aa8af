-- The digits that a number is written with are read as that number.
use Rattle.std.proofs.Common.{◌≡◌, ℕ, ◌+◌, ◌-◌, ◌*◌, ◌/◌, ◌%◌, ◌^◌, ◌<◌, ◌≤◌, min, Bool, true, false, nat_lt, ◌==◌, ◌&&◌, List, [], ◌∷◌, ◌++◌, length, Some, refl, ap, ◌∙◌, arith}
use Rattle.std.specs.List.{list_all}
use Rattle.std.specs.Char.{is_ascii_digit}
use Rattle.std.specs.Fmt.{decimal}
use Rattle.std.proofs.lemmas.Fmt.{decimal_by_steps}
use Rattle.std.proofs.lemmas.List.Sums.{fold-append}
use Rattle.script_lines.specs.Numbers.{decimal_number, decimal_of}

-- no leading zero but of 0 itself
abbrev pub StartsWell : ℕ → List ℕ → Type 0
StartsWell n [] = ⊥
StartsWell n (d ∷ ds) = (0 < n) → (d ≡ 48 → ⊥)

-- what is known of the digits of a number, made digit by digit
pub record IsDecimalOf (n : ℕ) (ds : List ℕ) : Type 0 where
  pub digits : list_all is_ascii_digit ds ≡ true
  pub value : decimal_number ds ≡ n
  pub starts : StartsWell n ds
  pub alone : n < 10 → length ds ≡ 1

digit : (n : ℕ) → n < 10 → is_ascii_digit (48 + n) ≡ true
digit n low = grind (arith, low)

one_digit : (n : ℕ) → n < 10 → IsDecimalOf n ((48 + n) ∷ [])
one_digit n low = record { digits = rw (digit n low) refl; value = omega (arith, low); starts = λ some zero'. omega (arith, some, zero'); alone = λ h. refl }

pub and_parts : (a b : Bool) → (a && b) ≡ true → (a ≡ true) × (b ≡ true)
and_parts true true is = (refl, refl)
and_parts true false is = absurd cc
and_parts false b is = absurd cc

all_push : (ds : List ℕ) (d : ℕ) → list_all is_ascii_digit ds ≡ true → is_ascii_digit d ≡ true → list_all is_ascii_digit (ds ++ d ∷ []) ≡ true
all_push [] d all is = rw is refl
all_push (e ∷ ds) d all is = let p = and_parts (is_ascii_digit e) (list_all is_ascii_digit ds) all in rw (p.0, all_push ds d p.1 is) refl

starts_more : (n m d : ℕ) (ds : List ℕ) → (0 < m → 0 < n) → StartsWell n ds → StartsWell m (ds ++ d ∷ [])
starts_more n m d [] some h = absurd h
starts_more n m d (e ∷ ds) some h = λ p. h (some p)

more_digits : (n : ℕ) (ds : List ℕ) → 10 ≤ n → IsDecimalOf (n / 10) ds → IsDecimalOf n (ds ++ (48 + n % 10) ∷ [])
more_digits n ds high k = record {
  digits = all_push ds (48 + n % 10) k.digits (digit (n % 10) (omega arith));
  value = fold-append (λ (m d : ℕ). 10 * m + (d - 48)) 0 ds ((48 + n % 10) ∷ []) ∙ ap (λ (m : ℕ). 10 * m + ((48 + n % 10) - 48)) k.value ∙ omega arith;
  starts = starts_more (n / 10) n (48 + n % 10) ds (λ p. omega (arith, high)) k.starts;
  alone = λ low. absurd (omega (arith, low, high));
}

pub is_decimal_of : (n : ℕ) → n < 2 ^ 64 → IsDecimalOf n (decimal n)
is_decimal_of n small = decimal_by_steps IsDecimalOf one_digit more_digits n small

read_by : (n : ℕ) (ds : List ℕ) → n < 2 ^ 64 → IsDecimalOf n ds → decimal_of ds ≡ Some n
unfolding decimal_of
read_by n [] small k = absurd k.starts
read_by n (d ∷ []) small k =
    let p = and_parts (is_ascii_digit d) true k.digits in
    let v : min (2 ^ 64 - 1) (decimal_number (d ∷ [])) ≡ n = omega (arith, k.value, small) in
    rw (p.0, v) refl
read_by n (d ∷ e ∷ ds) small k =
    let p = and_parts (is_ascii_digit d) (list_all is_ascii_digit (e ∷ ds)) k.digits in
    let long : 10 ≤ n = by_long in
    let other : (d == 48) ≡ false = grind (arith, k.starts (omega (arith, long))) in
    let v : min (2 ^ 64 - 1) (decimal_number (d ∷ e ∷ ds)) ≡ n = omega (arith, k.value, small) in
    rw (p.0, other, p.1, v) refl
  where
    by_long : 10 ≤ n
    by_long = by (nat_lt n 10) refl
      where
        by : (b : Bool) → nat_lt n 10 ≡ b → 10 ≤ n
        by true low = absurd (omega (arith, k.alone (grind (arith, low))))
        by false high = grind (arith, high)

pub decimal_is_read : (n : ℕ) → n < 2 ^ 64 → decimal_of (decimal n) ≡ Some n
decimal_is_read n small = read_by n (decimal n) small (is_decimal_of n small)
