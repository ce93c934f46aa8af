-- Drawing a line's columns one state at a time gives the line that the filter of all residues gives.
use Rattle.std.proofs.Common.{◌≡◌, ℕ, zero, suc, ◌+◌, ◌-◌, ◌*◌, ◌<◌, ◌≤◌, ◌/◌, ◌%◌, ◌^◌, Bool, true, false, cond, ltb, List, [], ◌∷◌, map, filter, take, length, set, replicate, bit_or, bit_xor, refl, sym, ap, ap₂, ◌∙◌, subst, arith, lit<, length-set, lt-ltb, le-ltb, zero-add, pow-suc}
use Rattle.std.specs.Int.{bit_at}
use Rattle.std.specs.Int.Bits.{or_zero_r}
use Rattle.std.proofs.lemmas.List.{length-replicate}
use Rattle.std.specs.Prelude.{if◌then◌else◌}
use Rattle.std.proofs.lemmas.Nat.Bits.{bit_at-lt, same_from_bits, bit_at_or}
use lib.Bits.{or_block, xor_lt}
use Rattle.frag_model.specs.Parity.{prbs23, states_after, parity_states, modulus, residues, columns_drawn, line_with, line, place_of, draws, number_of}

-- ---- the register

pub prbs23-lt : (x : ℕ) → x < 2 ^ 23 → prbs23 x < 2 ^ 23
prbs23-lt x lt =
    let low : bit_at x 0 < 2 ^ 1 = bit_at-lt x 0 in
    let tap : bit_at x 5 < 2 ^ 1 = bit_at-lt x 5 in
    let top : bit_xor (bit_at x 0) (bit_at x 5) < 2 ^ 1 = xor_lt 1 (bit_at x 0) (bit_at x 5) low tap in
    omega arith

-- ---- setting one more column

or_assoc : (a b c : ℕ) → bit_or (bit_or a b) c ≡ bit_or a (bit_or b c)
or_assoc a b c = same_from_bits (bit_or (bit_or a b) c) (bit_or a (bit_or b c))
    (λ i. omega (arith, bit_at_or (bit_or a b) c i, bit_at_or a b i, bit_at_or a (bit_or b c) i, bit_at_or b c i))

pub number_of-set : (bs : List Bool) (r : ℕ) → r < length bs → number_of (set bs r true) ≡ bit_or (number_of bs) (2 ^ r)
unfolding number_of
number_of-set [] r lt = absurd (omega arith)
number_of-set (true ∷ bs) zero lt = sym (or_block 1 (number_of bs) 0 1 1 (lit< tt) (lit< tt) ∙ ap (λ n. n * 2 + 1) (or_zero_r (number_of bs)))
number_of-set (false ∷ bs) zero lt = sym (or_block 1 (number_of bs) 0 0 1 (lit< tt) (lit< tt) ∙ ap (λ n. n * 2 + 1) (or_zero_r (number_of bs)))
number_of-set (b ∷ bs) (suc r) lt =
    let lt' : r < length bs = omega arith in
    let rest = number_of-set bs r lt' in
    let d : ℕ = if b then 1 else 0 in
    let small : d < 2 = elim b as (λ t. (if t then 1 else 0) < 2) [ true ↦ lit< tt | false ↦ lit< tt ] in
    let double : 2 ^ suc r ≡ 2 ^ r * 2 + 0 = omega (arith, pow-suc 2 r) in
    ap (λ n. n * 2 + d) rest
    ∙ ap (λ e. bit_or (number_of bs) (2 ^ r) * 2 + e) (sym (or_zero_r d))
    ∙ sym (or_block 1 (number_of bs) (2 ^ r) d 0 small (lit< tt))
    ∙ ap (λ e. bit_or (number_of bs * 2 + d) e) (sym double)

number_of-none : (n : ℕ) → number_of (replicate n false) ≡ 0
unfolding number_of
number_of-none zero = refl
number_of-none (suc n) = omega (arith, number_of-none n)

-- ---- the residues that are left

pub left_over : ℕ → ℕ → ℕ → List ℕ
left_over cols x count = map (λ y. y % modulus cols) (states_after x count)

-- where drawing stands: with what was found and drawn, what the states that are left give makes the line
pub record Drawing (n cols count x found drawn : ℕ) (out : List Bool) : Type 0 where
  pub columns : bit_or (number_of out) (line_with (take (cols / 2 - found) (filter (λ r. ltb r cols) (left_over cols x count)))) ≡ line n cols
  pub places : drawn + place_of cols (cols / 2 - found) (left_over cols x count) ≡ draws n cols
  pub small : x < 2 ^ 23
  pub enough : found ≤ cols / 2
  pub sized : length out ≡ cols

pub drawing_begins : (n cols : ℕ) → n ≤ 8380 → (out : List Bool) → out ≡ replicate cols false → Drawing n cols (25 * (cols / 2)) (1 + 1001 * n) 0 0 out
unfolding left_over line columns_drawn residues parity_states draws
drawing_begins n cols top out is =
    let all : List ℕ = left_over cols (1 + 1001 * n) (25 * (cols / 2)) in
    let whole : cols / 2 - 0 ≡ cols / 2 = omega arith in
    record {
      columns = ap₂ (λ a k. bit_or a (line_with (take k (filter (λ r. ltb r cols) all)))) (ap number_of is ∙ number_of-none cols) whole;
      places = zero-add (place_of cols (cols / 2 - 0) all) ∙ ap (λ k. place_of cols k all) whole;
      small = omega arith;
      enough = omega arith;
      sized = ap length is ∙ length-replicate cols false;
    }

take_none : (k : ℕ) (xs : List ℕ) → k ≡ 0 → take k xs ≡ []
take_none k xs e = ap (λ i. take i xs) e

place_of_none : (cols k : ℕ) (xs : List ℕ) → k ≡ 0 → place_of cols k xs ≡ 0
unfolding place_of
place_of_none cols k xs e = ap (λ i. place_of cols i xs) e

-- where no column is needed any more, the states that are left add nothing
pub drawing_stops : (n cols count x found drawn : ℕ) (out : List Bool) → cols / 2 ≤ found → Drawing n cols (suc count) x found drawn out → Drawing n cols count x found drawn out
drawing_stops n cols count x found drawn out full h =
    let k : ℕ = cols / 2 - found in
    let none : k ≡ 0 = omega arith in
    let kept : ℕ → List ℕ = λ c. filter (λ r. ltb r cols) (left_over cols x c) in
    record {
      columns = ap (λ l. bit_or (number_of out) (line_with l)) (take_none k (kept count) none ∙ sym (take_none k (kept (suc count)) none)) ∙ h.columns;
      places = ap (λ i. drawn + i) (place_of_none cols k (left_over cols x count) none ∙ sym (place_of_none cols k (left_over cols x (suc count)) none)) ∙ h.places;
      small = h.small;
      enough = h.enough;
      sized = h.sized;
    }

-- a residue that is a column is marked
pub drawing_finds : (n cols count x found drawn : ℕ) (out : List Bool) → found < cols / 2 → prbs23 x % modulus cols < cols
    → Drawing n cols (suc count) x found drawn out → Drawing n cols count (prbs23 x) (found + 1) (drawn + 1) (set out (prbs23 x % modulus cols) true)
unfolding left_over states_after line_with place_of
drawing_finds n cols count x found drawn out more inside h =
    let r : ℕ = prbs23 x % modulus cols in
    let rest : List ℕ = left_over cols (prbs23 x) count in
    let kept : List ℕ = filter (λ y. ltb y cols) rest in
    let k : ℕ = cols / 2 - (found + 1) in
    let one : cols / 2 - found ≡ suc k = omega arith in
    let yes : ltb r cols ≡ true = lt-ltb r cols inside in
    let within : r < length out = omega (arith, h.sized) in
    let tail : ℕ = line_with (take k kept) in
    let was : bit_or (number_of out) (line_with (take (cols / 2 - found) (cond (ltb r cols) (r ∷ kept) kept))) ≡ bit_or (number_of out) (bit_or (2 ^ r) tail) =
    ap₂ (λ i t. bit_or (number_of out) (line_with (take i (cond t (r ∷ kept) kept)))) one yes in
    let place : place_of cols (cols / 2 - found) (r ∷ rest) ≡ 1 + place_of cols k rest =
    ap (λ i. place_of cols i (r ∷ rest)) one ∙ ap (λ t. 1 + cond t (place_of cols k rest) (place_of cols (suc k) rest)) yes in
    record {
      columns = ap (λ a. bit_or a tail) (number_of-set out r within) ∙ or_assoc (number_of out) (2 ^ r) tail ∙ sym was ∙ h.columns;
      places = omega (arith, place, h.places);
      small = prbs23-lt x h.small;
      enough = omega arith;
      sized = length-set out r true ∙ h.sized;
    }

-- any other is passed over
pub drawing_passes : (n cols count x found drawn : ℕ) (out : List Bool) → found < cols / 2 → cols ≤ prbs23 x % modulus cols
    → Drawing n cols (suc count) x found drawn out → Drawing n cols count (prbs23 x) found (drawn + 1) out
unfolding left_over states_after place_of
drawing_passes n cols count x found drawn out more outside h =
    let r : ℕ = prbs23 x % modulus cols in
    let rest : List ℕ = left_over cols (prbs23 x) count in
    let kept : List ℕ = filter (λ y. ltb y cols) rest in
    let k : ℕ = cols / 2 - (found + 1) in
    let one : cols / 2 - found ≡ suc k = omega arith in
    let no : ltb r cols ≡ false = le-ltb r cols outside in
    let place : place_of cols (cols / 2 - found) (r ∷ rest) ≡ 1 + place_of cols (cols / 2 - found) rest =
    ap (λ i. place_of cols i (r ∷ rest)) one
    ∙ ap (λ t. 1 + cond t (place_of cols k rest) (place_of cols (suc k) rest)) no
    ∙ ap (λ i. 1 + place_of cols i rest) (sym one) in
    record {
      columns = sym (ap (λ t. bit_or (number_of out) (line_with (take (cols / 2 - found) (cond t (r ∷ kept) kept)))) no) ∙ h.columns;
      places = omega (arith, place, h.places);
      small = prbs23-lt x h.small;
      enough = h.enough;
      sized = h.sized;
    }

-- with no state left the line is whole
pub drawing_ends : (n cols x found drawn : ℕ) (out : List Bool) → Drawing n cols 0 x found drawn out → (number_of out ≡ line n cols) × (drawn ≡ draws n cols)
unfolding left_over states_after line_with place_of
drawing_ends n cols x found drawn out h =
    let k : ℕ = cols / 2 - found in
    let empty : bit_or (number_of out) (line_with (take k [])) ≡ number_of out =
    ap (λ l. bit_or (number_of out) (line_with l)) (take-nil k) ∙ or_zero_r (number_of out) in
    let place : place_of cols k [] ≡ 0 = none_left cols k in
    (sym empty ∙ h.columns, omega (arith, place, h.places))
  where
    take-nil : (i : ℕ) → take {A = ℕ} i [] ≡ []
    take-nil zero = refl
    take-nil (suc i) = refl

    none_left : (c i : ℕ) → place_of c i [] ≡ 0
    none_left c zero = refl
    none_left c (suc i) = refl

-- the same three steps, as the loop takes them
pub turn_finds : (n cols left count x found drawn y m : ℕ) (out : List Bool) → left ≡ suc count → y ≡ prbs23 x → m ≡ modulus cols → found < cols / 2 → y % m < cols
    → Drawing n cols left x found drawn out → Drawing n cols count y (found + 1) (drawn + 1) (set out (y % m) true)
turn_finds n cols left count x found drawn y m out e is_y is_m more inside h =
    let now : Drawing n cols (suc count) x found drawn out = subst (λ k. Drawing n cols k x found drawn out) e h in
    let within : prbs23 x % modulus cols < cols = rw (← is_y, ← is_m) inside in
    rw (is_y, is_m) (drawing_finds n cols count x found drawn out more within now)

pub turn_passes : (n cols left count x found drawn y m : ℕ) (out : List Bool) → left ≡ suc count → y ≡ prbs23 x → m ≡ modulus cols → found < cols / 2 → cols ≤ y % m
    → Drawing n cols left x found drawn out → Drawing n cols count y found (drawn + 1) out
turn_passes n cols left count x found drawn y m out e is_y is_m more outside h =
    let now : Drawing n cols (suc count) x found drawn out = subst (λ k. Drawing n cols k x found drawn out) e h in
    let past : cols ≤ prbs23 x % modulus cols = rw (← is_y, ← is_m) outside in
    rw is_y (drawing_passes n cols count x found drawn out more past now)

pub turn_stops : (n cols left count x found drawn : ℕ) (out : List Bool) → left ≡ suc count → cols / 2 ≤ found
    → Drawing n cols left x found drawn out → Drawing n cols count x found drawn out
turn_stops n cols left count x found drawn out e full h =
    drawing_stops n cols count x found drawn out full (subst (λ k. Drawing n cols k x found drawn out) e h)

pub turn_begins : (n cols left : ℕ) (out : List Bool) → n ≤ 8380 → left ≡ 25 * (cols / 2) → out ≡ replicate cols false → Drawing n cols left (1 + 1001 * n) 0 0 out
turn_begins n cols left out top e is =
    subst (λ k. Drawing n cols k (1 + 1001 * n) 0 0 out) (sym e) (drawing_begins n cols top out is)

pub turn_ends : (n cols left x found drawn : ℕ) (out : List Bool) → left ≡ 0 → Drawing n cols left x found drawn out → (number_of out ≡ line n cols) × (drawn ≡ draws n cols)
turn_ends n cols left x found drawn out e h = drawing_ends n cols x found drawn out (subst (λ k. Drawing n cols k x found drawn out) e h)
