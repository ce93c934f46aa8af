-- Words that are cut off a line at the end of a decimal.
use Rattle.std.proofs.Common.{◌≡◌, ◌≢◌, ℕ, zero, suc, ◌+◌, ◌-◌, ◌^◌, min, ◌<◌, ◌≤◌, Bool, true, false, not, ◌&&◌, cond, eqb, List, [], ◌∷◌, ◌++◌, length, take, drop, get_or, Option, Some, None, refl, sym, ap, subst, ◌∙◌, arith}
use Rattle.std.specs.List.{All, slice_split, list_all}
use Rattle.std.specs.Option.{IfSome}
use Rattle.std.specs.Char.{is_ascii_digit}
use Rattle.std.proofs.lemmas.Bool.{eqb-true, false_from_ne_true}
use Rattle.std.proofs.lemmas.List.{take-append-drop, drop_more, take_all, length-take, get_or-take}
use Rattle.std.proofs.lemmas.List.Elements.{All-from_get_or}
use Rattle.std.proofs.lemmas.List.Splits.{slice_split_none, slice_split_at}
use Rattle.std.proofs.lemmas.List.Sums.{AllPass-from_list_all}
use Rattle.memchr.specs.Find.{Nowhere, Passes, IsFirstByte, is_byte}
use Rattle.script_lines.specs.Lines.{words_of}
use Rattle.script_lines.specs.Numbers.{is_decimal, decimal_number, decimal_of}

-- a decimal is digits
digits_in : (xs : List ℕ) → is_decimal xs ≡ true → list_all is_ascii_digit xs ≡ true
digits_in [] h = absurd cc
digits_in (x ∷ []) h = by_test (is_ascii_digit x) h
  where
    by_test : (t : Bool) → t ≡ true → (t && true) ≡ true
    by_test true h = refl
    by_test false h = absurd cc
digits_in (x ∷ y ∷ ys) h = by_test (is_ascii_digit x) (eqb x 48) (list_all is_ascii_digit (y ∷ ys)) h
  where
    by_test : (t u v : Bool) → (t && not u && v) ≡ true → (t && v) ≡ true
    by_test true true v h = absurd cc
    by_test true false v h = h
    by_test false u v h = absurd cc

-- digits at the front are a decimal, except for a leading zero
pub decimal_front : (bytes : List ℕ) (end : ℕ) → end ≤ length bytes → list_all is_ascii_digit (take end bytes) ≡ true → 0 < end → (1 < end → get_or bytes 0 0 ≢ 48) → is_decimal (take end bytes) ≡ true
decimal_front bytes zero within digits some lead = absurd (omega arith)
decimal_front [] (suc end) within digits some lead = absurd (omega arith)
decimal_front (b ∷ bs) (suc zero) within digits some lead = by_test (is_ascii_digit b) digits
  where
    by_test : (t : Bool) → (t && true) ≡ true → t ≡ true
    by_test true h = refl
    by_test false h = absurd cc
decimal_front (b ∷ []) (suc (suc end)) within digits some lead = absurd (omega arith)
decimal_front (b ∷ c ∷ bs) (suc (suc end)) within digits some lead = by_test (is_ascii_digit b) (eqb b 48) (list_all is_ascii_digit (c ∷ take end bs)) digits (lead_no b (lead (omega arith)))
  where
    lead_no : (b : ℕ) → b ≢ 48 → eqb b 48 ≡ false
    lead_no b other = grind arith

    by_test : (t u v : Bool) → (t && v) ≡ true → u ≡ false → (t && not u && v) ≡ true
    by_test t true v h other = absurd cc
    by_test true false v h other = h
    by_test false false v h other = absurd cc

pub decimal_is : (digits : List ℕ) (n : ℕ) → decimal_of digits ≡ Some n → is_decimal digits ≡ true
unfolding decimal_of
decimal_is digits n is = by_test (is_decimal digits) (min (2 ^ 64 - 1) (decimal_number digits)) is
  where
    by_test : (t : Bool) (m : ℕ) → cond {A = Option ℕ} t (Some m) None ≡ Some n → t ≡ true
    by_test true m h = refl
    by_test false m h = absurd cc

-- a digit is no space
no_space : (xs : List ℕ) → list_all is_ascii_digit xs ≡ true → All (λ b. eqb b 32 ≡ false) xs
no_space xs digits k d below = let digit = AllPass-from_list_all is_ascii_digit xs digits k d below in by_digit (get_or xs k d) digit
  where
    by_digit : (b : ℕ) → is_ascii_digit b ≡ true → eqb b 32 ≡ false
    by_digit b digit = grind arith

-- a decimal at the end of a line is its last word
pub last_word : (bytes : List ℕ) (n : ℕ) → decimal_of bytes ≡ Some n → words_of bytes ≡ bytes ∷ []
unfolding words_of
last_word bytes n is = slice_split_none (λ b. eqb b 32) bytes (no_space bytes (digits_in bytes (decimal_is bytes n is)))

-- bytes before a space and without one are a word
pub word_before : (bytes : List ℕ) (end : ℕ) → end < length bytes → get_or bytes end 0 ≡ 32 → All (λ b. eqb b 32 ≡ false) (take end bytes) → words_of bytes ≡ take end bytes ∷ words_of (drop (end + 1) bytes)
unfolding words_of
word_before bytes end within space none =
    let whole : bytes ≡ take end bytes ++ 32 ∷ drop (end + 1) bytes =
    sym (take-append-drop end bytes) ∙ ap (λ (l : List ℕ). take end bytes ++ l) (drop_more bytes end 0 within ∙ ap (λ (b : ℕ). b ∷ drop (end + 1) bytes) space) in
    ap (slice_split (λ b. eqb b 32)) whole ∙ slice_split_at (λ b. eqb b 32) (take end bytes) 32 (drop (end + 1) bytes) none refl

-- and so is a decimal
pub first_word : (bytes : List ℕ) (end n : ℕ) → end < length bytes → get_or bytes end 0 ≡ 32 → decimal_of (take end bytes) ≡ Some n → words_of bytes ≡ take end bytes ∷ words_of (drop (end + 1) bytes)
first_word bytes end n within space is = word_before bytes end within space (no_space (take end bytes) (digits_in (take end bytes) (decimal_is (take end bytes) n is)))

-- the bytes before the first space have none
none_up_to : (bytes : List ℕ) (end : ℕ) → Nowhere (Passes (is_byte 32) bytes) 0 end → All (λ b. eqb b 32 ≡ false) (take end bytes)
none_up_to bytes end nowhere = All-from_get_or (λ b. eqb b 32 ≡ false) (take end bytes) 0 (λ k below.
    let inside : k < end = omega (arith, below, length-take end bytes) in rw (get_or-take end bytes k 0 inside) (false_from_ne_true _ (nowhere k (omega arith) inside)))

-- so the first space ends a word, and without one all bytes are a word
pub space_inside : (bytes : List ℕ) (found : Option ℕ) → IsFirstByte (is_byte 32) bytes found → IfSome found (λ end. end < length bytes)
space_inside bytes None none = _
space_inside bytes (Some end) is = is.0.high

pub word_to_space : (bytes : List ℕ) (found : Option ℕ) → IsFirstByte (is_byte 32) bytes found → IfSome found (λ end. words_of bytes ≡ take end bytes ∷ words_of (drop (end + 1) bytes))
word_to_space bytes None none = _
word_to_space bytes (Some end) is = word_before bytes end is.0.high (eqb-true _ _ is.1) (none_up_to bytes end is.0.before)

pub word_without_space : (bytes : List ℕ) (found : Option ℕ) → IsFirstByte (is_byte 32) bytes found → found ≡ None → words_of bytes ≡ bytes ∷ []
unfolding words_of
word_without_space bytes None none is =
    let all = subst (λ (l : List ℕ). All (λ b. eqb b 32 ≡ false) l) (take_all (length bytes) bytes (omega arith)) (none_up_to bytes (length bytes) none) in
    slice_split_none (λ b. eqb b 32) bytes all
word_without_space bytes (Some end) some is = absurd cc

pub front_is : (bytes : List ℕ) (end n : ℕ) → end ≤ length bytes → list_all is_ascii_digit (take end bytes) ≡ true → n ≡ min (2 ^ 64 - 1) (decimal_number (take end bytes)) → 0 < end → (1 < end → get_or bytes 0 0 ≢ 48)
    → decimal_of (take end bytes) ≡ Some n
unfolding decimal_of
front_is bytes end n within digits is some lead = rw (decimal_front bytes end within digits some lead, is) refl

-- a decimal that ends where the bytes end is all of them
pub whole_decimal : (bytes : List ℕ) (end n : ℕ) → length bytes ≤ end → decimal_of (take end bytes) ≡ Some n → decimal_of bytes ≡ Some n
whole_decimal bytes end n all is = subst (λ (w : List ℕ). decimal_of w ≡ Some n) (take_all end bytes all) is
