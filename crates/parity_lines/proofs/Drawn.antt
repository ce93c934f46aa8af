-- Drawing a line's columns into words of 64 bits.
use Rattle.std.proofs.Common.{◌≡◌, ◌↔◌, ℕ, zero, suc, ◌+◌, ◌*◌, ◌/◌, ◌%◌, ◌^◌, ◌<◌, ◌≤◌, Bool, true, false, List, [], ◌∷◌, length, set, get_or, replicate, bit_or, refl, sym, ap, ap₂, ◌∙◌, subst, zero-add, lit<, arith}
use Rattle.std.specs.List.{All, AllByRecursion}
use Rattle.std.specs.Int.{IsBitSet}
use Rattle.std.specs.Int.Bits.{or_zero_r}
use lib.Bits.{or_block}
use Rattle.std.proofs.lemmas.Nat.{pow-add, pow_below, or_lt, one_shl}
use Rattle.std.proofs.lemmas.List.Elements.{All-from_recursion}
use Rattle.frag_model.specs.Members.{In}
use Rattle.frag_model.specs.Parity.{prbs23, modulus, columns_drawn, line, draws, number_of}
use Rattle.frag_model.proofs.Drawing.{Drawing, drawing_ends, drawing_stops, turn_begins, turn_finds, turn_passes, number_of-set}
use Rattle.parity_lines.specs.Words.{words_number}
use Rattle.parity_lines.proofs.Columns.{columns_in_words}

-- setting a bit of a word adds a column to the line
words_number-set : (words : List ℕ) (i k : ℕ) → AllByRecursion (λ w. w < 2 ^ 64) words → i < length words → k < 64
    → words_number (set words i (bit_or (get_or words i 0) (2 ^ k))) ≡ bit_or (words_number words) (2 ^ (64 * i + k))
unfolding words_number
words_number-set [] i k small within bit = absurd (omega arith)
words_number-set (w ∷ ws) zero k small within bit =
    let here : w < 2 ^ 64 = small.0 in
    let low : 2 ^ k < 2 ^ 64 = pow_below k 64 bit in
    let place : 64 * 0 + k ≡ k = omega arith in
    ap (λ a. a * 2 ^ 64 + bit_or w (2 ^ k)) (sym (or_zero_r (words_number ws)))
    ∙ sym (or_block 64 (words_number ws) 0 w (2 ^ k) here low)
    ∙ ap (λ e. bit_or (words_number ws * 2 ^ 64 + w) e) (zero-add (2 ^ k) ∙ ap (λ j. 2 ^ j) (sym place))
words_number-set (w ∷ ws) (suc i) k small within bit =
    let here : w < 2 ^ 64 = small.0 in
    let inside : i < length ws = omega arith in
    let rest = words_number-set ws i k small.1 inside bit in
    let place : 2 ^ (64 * suc i + k) ≡ 2 ^ (64 * i + k) * 2 ^ 64 =
    ap (λ j. 2 ^ j) (let sum : 64 * suc i + k ≡ 64 * i + k + 64 = omega arith in sum) ∙ pow-add 2 (64 * i + k) 64 in
    ap (λ a. a * 2 ^ 64 + w) rest
    ∙ ap (λ e. bit_or (words_number ws) (2 ^ (64 * i + k)) * 2 ^ 64 + e) (sym (or_zero_r w))
    ∙ sym (or_block 64 (words_number ws) (2 ^ (64 * i + k)) w 0 here (omega arith))
    ∙ ap (λ e. bit_or (words_number ws * 2 ^ 64 + w) e) (let whole : 2 ^ (64 * i + k) * 2 ^ 64 + 0 ≡ 2 ^ (64 * suc i + k) = omega (arith, place) in whole)

words_number-none : (n : ℕ) → words_number (replicate n 0) ≡ 0
unfolding words_number
words_number-none zero = refl
words_number-none (suc n) = omega (arith, words_number-none n)

-- words stay below 2^64
small_none : (n : ℕ) → AllByRecursion (λ w. w < 2 ^ 64) (replicate n 0)
small_none zero = tt
small_none (suc n) = (lit< tt, small_none n)

small_at : (words : List ℕ) (i : ℕ) → AllByRecursion (λ w. w < 2 ^ 64) words → get_or words i 0 < 2 ^ 64
small_at [] i small = lit< tt
small_at (w ∷ ws) zero small = small.0
small_at (w ∷ ws) (suc i) small = small_at ws i small.1

small-set : (words : List ℕ) (i v : ℕ) → v < 2 ^ 64 → AllByRecursion (λ w. w < 2 ^ 64) words → AllByRecursion (λ w. w < 2 ^ 64) (set words i v)
small-set [] i v lt small = small
small-set (w ∷ ws) zero v lt small = (lt, small.1)
small-set (w ∷ ws) (suc i) v lt small = (small.0, small-set ws i v lt small.1)

-- where drawing stands, with the columns found so far in words
pub record InWords (n cols left x found drawn : ℕ) (words : List ℕ) : Type 0 where
  pub columns : List Bool
  pub drawing : Drawing n cols left x found drawn columns
  pub same : words_number words ≡ number_of columns
  pub small : AllByRecursion (λ w. w < 2 ^ 64) words

none_found : (cols : ℕ) → number_of (replicate cols false) ≡ 0
unfolding number_of
none_found zero = refl
none_found (suc cols) = omega (arith, none_found cols)

pub words_begin : (n cols left count : ℕ) (words : List ℕ) → n ≤ 8380 → left ≡ 25 * (cols / 2) → words ≡ replicate count 0 → InWords n cols left (1 + 1001 * n) 0 0 words
words_begin n cols left count words top all is = record {
  columns = replicate cols false;
  drawing = turn_begins n cols left (replicate cols false) top all refl;
  same = ap words_number is ∙ words_number-none count ∙ sym (none_found cols);
  small = subst (λ ws. AllByRecursion (λ w. w < 2 ^ 64) ws) (sym is) (small_none count);
}

pub words_find : (n cols left next x found drawn y m column : ℕ) (words : List ℕ) → left ≡ suc next → y ≡ prbs23 x → m ≡ modulus cols → column ≡ y % m
    → found < cols / 2 → column < cols → cols ≤ 64 * length words → InWords n cols left x found drawn words
    → InWords n cols next y (found + 1) (drawn + 1) (set words (column / 64) (bit_or (get_or words (column / 64) 0) (1 * 2 ^ (column % 64) % 2 ^ 64)))
words_find n cols left next x found drawn y m column words one is_y is_m is more inside room h =
    let r : y % m < cols = subst (λ c. c < cols) is inside in
    let word : column / 64 < length words = omega arith in
    let bit : column % 64 < 64 = omega arith in
    let shifted : 1 * 2 ^ (column % 64) % 2 ^ 64 ≡ 2 ^ (column % 64) = one_shl (column % 64) 64 bit in
    let place : 64 * (column / 64) + column % 64 ≡ column = omega arith in
    let found_place : y % m < length h.columns = omega (arith, h.drawing.sized) in
    record {
      columns = set h.columns (y % m) true;
      drawing = turn_finds n cols left next x found drawn y m h.columns one is_y is_m more r h.drawing;
      same =
          ap (λ b. words_number (set words (column / 64) (bit_or (get_or words (column / 64) 0) b))) shifted
          ∙ words_number-set words (column / 64) (column % 64) h.small word bit
          ∙ ap₂ (λ a j. bit_or a (2 ^ j)) h.same (place ∙ is)
          ∙ sym (number_of-set h.columns (y % m) found_place);
      small = small-set words (column / 64) _ (or_lt 64 _ _ (small_at words (column / 64) h.small) (omega (arith, shifted, pow_below (column % 64) 64 bit))) h.small;
    }

pub words_pass : (n cols left next x found drawn y m column : ℕ) (words : List ℕ) → left ≡ suc next → y ≡ prbs23 x → m ≡ modulus cols → column ≡ y % m
    → found < cols / 2 → cols ≤ column → InWords n cols left x found drawn words → InWords n cols next y found (drawn + 1) words
words_pass n cols left next x found drawn y m column words one is_y is_m is more outside h = record {
  columns = h.columns;
  drawing = turn_passes n cols left next x found drawn y m h.columns one is_y is_m more (subst (λ c. cols ≤ c) is outside) h.drawing;
  same = h.same;
  small = h.small;
}

-- once as many columns are found as are needed, the line is complete
drawing_done : (n cols left x found drawn : ℕ) (columns : List Bool) → cols / 2 ≤ found → Drawing n cols left x found drawn columns
    → (number_of columns ≡ line n cols) × (drawn ≡ draws n cols)
drawing_done n cols zero x found drawn columns full h = drawing_ends n cols x found drawn columns h
drawing_done n cols (suc left) x found drawn columns full h =
    drawing_done n cols left x found drawn columns full (drawing_stops n cols left x found drawn columns full h)

-- what is then known of the words
pub record Whole (n cols drawn : ℕ) (words : List ℕ) : Type 0 where
  pub line : words_number words ≡ line n cols
  pub columns : (c : ℕ) → IsBitSet (get_or words (c / 64) 0) (c % 64) ↔ In c (columns_drawn n cols)
  pub small : All (λ w. w < 2 ^ 64) words
  pub draws : drawn ≡ draws n cols

whole : (n cols drawn : ℕ) (words : List ℕ) (columns : List Bool) → words_number words ≡ number_of columns → AllByRecursion (λ w. w < 2 ^ 64) words
    → (number_of columns ≡ line n cols) × (drawn ≡ draws n cols) → Whole n cols drawn words
unfolding line
whole n cols drawn words columns same small done = record {
  line = same ∙ done.0;
  columns = columns_in_words words (columns_drawn n cols) small (same ∙ done.0);
  small = All-from_recursion (λ w. w < 2 ^ 64) words small;
  draws = done.1;
}

pub words_done : (n cols left x found drawn : ℕ) (words : List ℕ) → cols / 2 ≤ found → InWords n cols left x found drawn words → Whole n cols drawn words
words_done n cols left x found drawn words full h =
    whole n cols drawn words h.columns h.same h.small (drawing_done n cols left x found drawn h.columns full h.drawing)

-- and with no state left it is whole too
pub words_end : (n cols left x found drawn : ℕ) (words : List ℕ) → left ≡ 0 → InWords n cols left x found drawn words → Whole n cols drawn words
words_end n cols left x found drawn words none h =
    whole n cols drawn words h.columns h.same h.small
    (drawing_ends n cols x found drawn h.columns (subst (λ k. Drawing n cols k x found drawn h.columns) none h.drawing))
