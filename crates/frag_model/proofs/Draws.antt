-- Every line has enough draws: among each 25 states in a row one is a column's, by the register's bit 5.
use Rattle.std.proofs.Common.{◌≡◌, ◌⊎◌, ℕ, zero, suc, ◌+◌, ◌-◌, ◌*◌, ◌<◌, ◌≤◌, ◌/◌, ◌%◌, ◌^◌, Bool, true, false, ◌==◌, ltb, List, [], ◌∷◌, ◌++◌, map, filter, length, bit_xor, refl, sym, ap, ap₂, ◌∙◌, subst, inl, inr, arith, lt-ltb, ltb-true, ltb-false, pow-suc, pow_pos, suc-mul, zero-mul, one-mul, add-mul, div-add-mod', eqb-true, length-append}
use Rattle.std.proofs.lemmas.Bool.{eqb-false}
use Rattle.std.specs.Int.{bit_at, is_power_of_two}
use Rattle.std.specs.Prelude.{if◌then◌else◌}
use Rattle.std.proofs.Math.Nat.{add-mod, add-mod_right, mod-eq_of_lt}
use Rattle.std.proofs.lemmas.Nat.{mod_below}
use Rattle.std.proofs.lemmas.Nat.Bits.{bit_at-lt, bit_at_lowest, bit_at-suc, bit_at_above}
use Rattle.std.proofs.lemmas.List.{map-append, length-map, length-take-le}
use Rattle.std.proofs.lemmas.List.Elements.{filter-append}
use lib.Bits.{xor_lt}
use lib.Count.{ones, ones_step}
use Rattle.frag_model.specs.Members.{In}
use Rattle.frag_model.specs.Parity.{prbs23, states_after, parity_states, modulus, residues, columns_drawn, place_of, draws}
use Rattle.frag_model.proofs.Members.{In-map, In-filter}
use Rattle.frag_model.proofs.Drawing.{prbs23-lt}

either : (b : Bool) → (b ≡ true) ⊎ (b ≡ false)
either true = inl refl
either false = inr refl

zero_or_one : (b : ℕ) → b < 2 → (b ≡ 0) ⊎ (b ≡ 1)
zero_or_one zero lt = inl refl
zero_or_one (suc zero) lt = inr refl
zero_or_one (suc (suc b)) lt = absurd (omega arith)

-- ---- a power of two above a number's bits

low_bits : (i k a : ℕ) → i < k → bit_at (a + 2 ^ k) i ≡ bit_at a i
low_bits zero zero a lt = absurd (omega arith)
low_bits zero (suc k) a lt = omega (arith, bit_at_lowest (a + 2 ^ suc k), bit_at_lowest a, pow-suc 2 k)
low_bits (suc i) zero a lt = absurd (omega arith)
low_bits (suc i) (suc k) a lt =
    let half : (a + 2 ^ suc k) / 2 ≡ a / 2 + 2 ^ k = omega (arith, pow-suc 2 k) in
    bit_at-suc (a + 2 ^ suc k) i ∙ ap (λ n. bit_at n i) half ∙ low_bits i k (a / 2) (omega arith) ∙ sym (bit_at-suc a i)

top_bit : (k a : ℕ) → a < 2 ^ k → bit_at (a + 2 ^ k) k ≡ 1
top_bit zero a lt = omega (arith, bit_at_lowest (a + 2 ^ 0))
top_bit (suc k) a lt =
    let half : (a + 2 ^ suc k) / 2 ≡ a / 2 + 2 ^ k = omega (arith, pow-suc 2 k) in
    let less : a / 2 < 2 ^ k = omega (arith, pow-suc 2 k) in
    bit_at-suc (a + 2 ^ suc k) k ∙ ap (λ n. bit_at n k) half ∙ top_bit k (a / 2) less

-- ---- the register

new_bit : ℕ → ℕ
new_bit x = bit_xor (bit_at x 0) (bit_at x 5)

new_bit-lt : (x : ℕ) → new_bit x < 2
unfolding new_bit
new_bit-lt x =
    let low : bit_at x 0 < 2 ^ 1 = bit_at-lt x 0 in
    let tap : bit_at x 5 < 2 ^ 1 = bit_at-lt x 5 in
    xor_lt 1 (bit_at x 0) (bit_at x 5) low tap

-- with a new bit of 0 the register moves down, and with 1 the top bit comes as well
without : (x : ℕ) → new_bit x ≡ 0 → prbs23 x ≡ x / 2
unfolding new_bit
without x none = ap (λ b. x / 2 + b * 2 ^ 22) none ∙ omega arith

with_top : (x : ℕ) → new_bit x ≡ 1 → prbs23 x ≡ x / 2 + 2 ^ 22
unfolding new_bit
with_top x one = ap (λ b. x / 2 + b * 2 ^ 22) one ∙ omega arith

-- below the top each bit moves down by one
moves : (x i : ℕ) → i < 22 → bit_at (prbs23 x) i ≡ bit_at x (suc i)
moves x i lt = elim (zero_or_one (new_bit x) (new_bit-lt x)) [
  | inl none ↦ ap (λ n. bit_at n i) (without x none) ∙ sym (bit_at-suc x i)
  | inr one ↦ ap (λ n. bit_at n i) (with_top x one) ∙ low_bits i 22 (x / 2) lt ∙ sym (bit_at-suc x i)
]

enters : (x : ℕ) → x < 2 ^ 23 → bit_at (prbs23 x) 22 ≡ new_bit x
enters x lt = elim (zero_or_one (new_bit x) (new_bit-lt x)) [
  | inl none ↦ ap (λ n. bit_at n 22) (without x none) ∙ bit_at_above (x / 2) 22 22 (omega arith) (omega arith) ∙ sym none
  | inr one ↦ ap (λ n. bit_at n 22) (with_top x one) ∙ top_bit 22 (x / 2) (omega arith) ∙ sym one
]

-- the state so many steps after x
unfoldable after : ℕ → ℕ → ℕ
after x zero = x
after x (suc k) = after (prbs23 x) k

after-lt : (k x : ℕ) → x < 2 ^ 23 → after x k < 2 ^ 23
unfolding after
after-lt zero x lt = lt
after-lt (suc k) x lt = after-lt k (prbs23 x) (prbs23-lt x lt)

after-more : (j k x : ℕ) → after (after x j) k ≡ after x (j + k)
unfolding after
after-more zero k x = let none : k ≡ 0 + k = omega arith in ap (λ n. after x n) none
after-more (suc j) k x =
    let place : suc (j + k) ≡ suc j + k = omega arith in
    after-more j k (prbs23 x) ∙ ap (λ n. after x n) place

falls : (k x i : ℕ) → i + k ≤ 22 → bit_at (after x k) i ≡ bit_at x (i + k)
unfolding after
falls zero x i le = ap (λ n. bit_at x n) (omega arith)
falls (suc k) x i le =
    let place : suc (i + k) ≡ i + suc k = omega arith in
    falls k (prbs23 x) i (omega arith) ∙ moves x (i + k) (omega arith) ∙ ap (λ n. bit_at x n) place

-- bit 5 of a state is the sum of the bits 5 of the states 18 and 23 before it
tapped : (x : ℕ) → x < 2 ^ 23 → bit_at x 5 ≡ 1 → bit_at (after x 5) 5 ≡ 1 → bit_at (after x 23) 5 ≡ 0
unfolding after new_bit
tapped x lt first second =
    let lowest : bit_at (after x 5) 0 ≡ 1 = falls 5 x 0 (omega arith) ∙ first in
    let low : after x 5 < 2 ^ 23 = after-lt 5 x lt in
    let new : bit_at (prbs23 (after x 5)) 22 ≡ 0 = enters (after x 5) low ∙ ap₂ (λ a b. bit_xor a b) lowest second in
    let down : bit_at (after (prbs23 (after x 5)) 17) 5 ≡ bit_at (prbs23 (after x 5)) 22 = falls 17 (prbs23 (after x 5)) 5 (omega arith) in
    down ∙ new

-- ---- two rejected states in a row

-- twice what leaves c by c + 1 leaves one less
twice : (c h : ℕ) → 0 < c → h % (c + 1) ≡ c → (h + h) % (c + 1) ≡ c - 1
twice c h some is =
    let split : c + c ≡ c - 1 + (c + 1) = omega arith in
    add-mod h h (c + 1) ∙ ap₂ (λ a b. (a + b) % (c + 1)) is is ∙ ap (λ n. n % (c + 1)) split
    ∙ add-mod_right (c - 1) (c + 1) ∙ mod-eq_of_lt (omega arith)

one_more : (c y : ℕ) → 0 < c → y % (c + 1) ≡ c - 1 → (y + 1) % (c + 1) ≡ c
one_more c y some is =
    let one : 1 % (c + 1) ≡ 1 = mod-eq_of_lt (omega arith) in
    let sum : c - 1 + 1 ≡ c = omega arith in
    add-mod y 1 (c + 1) ∙ ap₂ (λ a b. (a + b) % (c + 1)) is one ∙ ap (λ n. n % (c + 1)) sum ∙ mod-eq_of_lt (omega arith)

rest_of : (c x y r : ℕ) → 0 < r → r ≤ c → x % (c + 1) ≡ c → y % (c + 1) ≡ r → (x + y) % (c + 1) ≡ r - 1
rest_of c x y r some most is other =
    let split : c + r ≡ r - 1 + (c + 1) = omega arith in
    add-mod x y (c + 1) ∙ ap₂ (λ a b. (a + b) % (c + 1)) is other ∙ ap (λ n. n % (c + 1)) split
    ∙ add-mod_right (r - 1) (c + 1) ∙ mod-eq_of_lt (omega arith)

-- a power of two that is above 1, and one, is no divisor of a power of two: it is odd

ones_some : (k n : ℕ) → n ≤ k → 0 < n → 1 ≤ ones n
ones_some zero n most some = absurd (omega arith)
ones_some (suc k) n most some = elim (either (n / 2 == 0)) [
  | inl last ↦ omega (arith, ones_step n, eqb-true (n / 2) 0 last)
  | inr more ↦ omega (arith, ones_step n, ones_some k (n / 2) (omega arith) (omega (arith, eqb-false (n / 2) 0 more)))
]

power_even : (cols : ℕ) → is_power_of_two cols ≡ true → 2 ≤ cols → cols % 2 ≡ 0
power_even cols power least = omega (arith, ones_step cols, eqb-true (ones cols) 1 power, ones_some (cols / 2) (cols / 2) (omega arith) (omega arith))

odd_divisor : (k q d : ℕ) → d % 2 ≡ 1 → q * d ≡ 2 ^ k → d ≡ 1
odd_divisor k zero d odd whole = absurd (omega (arith, zero-mul d, whole, pow_pos k))
odd_divisor zero (suc q) d odd whole = omega (arith, suc-mul q d, whole)
odd_divisor (suc k) (suc q) d odd whole =
    let h : ℕ = suc q / 2 in
    let split : suc q ≡ h + h + suc q % 2 = omega arith in
    let parts : suc q * d ≡ h * d + h * d + suc q % 2 * d = ap (λ n. n * d) split ∙ add-mul (h + h) (suc q % 2) d ∙ ap (λ n. n + suc q % 2 * d) (add-mul h h d) in
    elim (zero_or_one (suc q % 2) (omega arith)) [
      | inl even ↦
          let none : suc q % 2 * d ≡ 0 = ap (λ r. r * d) even ∙ zero-mul d in
          odd_divisor k h d odd (omega (arith, parts, none, whole, pow-suc 2 k))
      | inr one ↦
          let same : suc q % 2 * d ≡ d = ap (λ r. r * d) one ∙ one-mul d in
          absurd (omega (arith, parts, same, whole, pow-suc 2 k))
    ]

leaves_some : (cols : ℕ) → is_power_of_two cols ≡ true → 2 ≤ cols → 2 ^ 23 % (cols + 1) ≡ 0 → ⊥
leaves_some cols power least none =
    let whole : 2 ^ 23 / (cols + 1) * (cols + 1) ≡ 2 ^ 23 = omega (arith, div-add-mod' (2 ^ 23) (cols + 1), none) in
    let one : cols + 1 ≡ 1 = odd_divisor 23 (2 ^ 23 / (cols + 1)) (cols + 1) (omega (arith, power_even cols power least)) whole in
    omega (arith, one)

-- a state is rejected where it leaves no column
Rejected : ℕ → ℕ → Type 0
Rejected cols x = cols ≤ x % (cols + 1)

leaves : (cols x : ℕ) → Rejected cols x → x % (cols + 1) ≡ cols
unfolding Rejected
leaves cols x h = omega (arith, mod_below x (cols + 1) (omega arith))

-- of a rejected state before a rejected one bit 5 is set
forces : (cols x : ℕ) → is_power_of_two cols ≡ true → 2 ≤ cols → Rejected cols x → Rejected cols (prbs23 x) → bit_at x 5 ≡ 1
unfolding new_bit
forces cols x power least here next = elim (zero_or_one (bit_at x 5) (bit_at-lt x 5)) [
  | inr one ↦ one
  | inl none ↦ elim (zero_or_one (bit_at x 0) (bit_at-lt x 0)) [
    | inl even ↦
        let new : new_bit x ≡ 0 = ap₂ (λ a b. bit_xor a b) even none in
        let half : (x / 2) % (cols + 1) ≡ cols = ap (λ n. n % (cols + 1)) (sym (without x new)) ∙ leaves cols (prbs23 x) next in
        let double : x ≡ x / 2 + x / 2 = omega (arith, bit_at_lowest x) in
        let less : x % (cols + 1) ≡ cols - 1 = ap (λ n. n % (cols + 1)) double ∙ twice cols (x / 2) (omega arith) half in
        absurd (omega (arith, less, leaves cols x here))
    | inr odd ↦
        let new : new_bit x ≡ 1 = ap₂ (λ a b. bit_xor a b) odd none in
        let p : ℕ = prbs23 x in
        let double : p + p + 1 ≡ x + 2 ^ 23 = omega (arith, bit_at_lowest x, with_top x new) in
        let left : (p + p + 1) % (cols + 1) ≡ cols = one_more cols (p + p) (omega arith) (twice cols p (omega arith) (leaves cols p next)) in
        let r : ℕ = 2 ^ 23 % (cols + 1) in
        let small : r < cols + 1 = mod_below (2 ^ 23) (cols + 1) (omega arith) in
        elim (either (r == 0)) [
          | inl zero_is ↦ absurd (leaves_some cols power least (eqb-true r 0 zero_is))
          | inr some_is ↦
              let some : 0 < r = omega (arith, eqb-false r 0 some_is) in
              let right : (x + 2 ^ 23) % (cols + 1) ≡ r - 1 = rest_of cols x (2 ^ 23) r some (omega arith) (leaves cols x here) refl in
              absurd (omega (arith, sym left ∙ ap (λ n. n % (cols + 1)) double ∙ right))
        ]
  ]
]

-- ---- one state in each 25 leaves a column

passes : ℕ → ℕ → Bool
passes cols r = ltb r cols

-- the columns among the residues of so many states after x
found : ℕ → ℕ → ℕ → List ℕ
found cols x count = filter (passes cols) (map (λ y. y % modulus cols) (states_after x count))

In-after : (k x count : ℕ) → k < count → In (after x (suc k)) (states_after x count)
unfolding after states_after
In-after k x zero lt = absurd (omega arith)
In-after zero x (suc count) lt = inl refl
In-after (suc k) x (suc count) lt = inr (In-after k (prbs23 x) count (omega arith))

some_member : (r : ℕ) (xs : List ℕ) → In r xs → 1 ≤ length xs
some_member r [] h = absurd h
some_member r (x ∷ xs) h = omega arith

-- one of them leaves a column
one_found : (cols x count k : ℕ) → k < count → after x (suc k) % modulus cols < cols → 1 ≤ length (found cols x count)
unfolding found passes
one_found cols x count k lt below =
    let r : ℕ = after x (suc k) % modulus cols in
    let member : In r (map (λ y. y % modulus cols) (states_after x count)) = In-map (λ y. y % modulus cols) (after x (suc k)) (states_after x count) (In-after k x count lt) in
    some_member r (found cols x count) (In-filter (passes cols) r (map (λ y. y % modulus cols) (states_after x count)) member (lt-ltb r cols below))

-- and where it leaves none it is rejected
found_or_rejected : (cols x k : ℕ) → is_power_of_two cols ≡ true → k < 25 → (1 ≤ length (found cols x 25)) ⊎ Rejected cols (after x (suc k))
unfolding Rejected modulus
found_or_rejected cols x k power lt =
    let m : modulus cols ≡ cols + 1 = ap (λ b. if b then cols + 1 else cols) power in
    let r : ℕ = after x (suc k) % (cols + 1) in
    elim (either (ltb r cols)) [
      | inl below ↦ inl (one_found cols x 25 k lt (subst (λ n. after x (suc k) % n < cols) (sym m) (ltb-true r cols below)))
      | inr above ↦ inr (ltb-false r cols above)
    ]

next_state : (x k : ℕ) → prbs23 (after x k) ≡ after x (suc k)
unfolding after
next_state x zero = refl
next_state x (suc k) = next_state (prbs23 x) k

-- bit 5 is set in a state that is rejected before a rejected one
found_or_set : (cols x k : ℕ) → is_power_of_two cols ≡ true → 2 ≤ cols → k < 24 → (1 ≤ length (found cols x 25)) ⊎ (bit_at (after x (suc k)) 5 ≡ 1)
found_or_set cols x k power least lt = elim (found_or_rejected cols x k power (omega arith)) [
  | inl some ↦ inl some
  | inr here ↦ elim (found_or_rejected cols x (suc k) power (omega arith)) [
    | inl some ↦ inl some
    | inr next ↦ inr (forces cols (after x (suc k)) power least here (subst (λ y. Rejected cols y) (sym (next_state x (suc k))) next))
  ]
]

-- of the states 1, 6 and 24 one has not bit 5
found_soon : (cols x : ℕ) → is_power_of_two cols ≡ true → 2 ≤ cols → x < 2 ^ 23 → 1 ≤ length (found cols x 25)
found_soon cols x power least lt = elim (found_or_set cols x 0 power least (omega arith)) [
  | inl some ↦ some
  | inr first ↦ elim (found_or_set cols x 5 power least (omega arith)) [
    | inl some ↦ some
    | inr second ↦ elim (found_or_set cols x 23 power least (omega arith)) [
      | inl some ↦ some
      | inr third ↦
          let sixth : bit_at (after (after x 1) 5) 5 ≡ 1 = ap (λ y. bit_at y 5) (after-more 1 5 x) ∙ second in
          let none : bit_at (after (after x 1) 23) 5 ≡ 0 = tapped (after x 1) (after-lt 1 x lt) first sixth in
          let last : bit_at (after (after x 1) 23) 5 ≡ 1 = ap (λ y. bit_at y 5) (after-more 1 23 x) ∙ third in
          absurd (omega (arith, none, last))
    ]
  ]
]

found_in_25 : (cols x : ℕ) → 2 ≤ cols → x < 2 ^ 23 → 1 ≤ length (found cols x 25)
unfolding modulus
found_in_25 cols x least lt = elim (either (is_power_of_two cols)) [
  | inl power ↦ found_soon cols x power least lt
  | inr other ↦
      let m : modulus cols ≡ cols = ap (λ b. if b then cols + 1 else cols) other in
      one_found cols x 25 0 (omega arith) (subst (λ n. after x 1 % n < cols) (sym m) (mod_below (after x 1) cols (omega arith)))
]

-- ---- and so one in each of many such stretches

parted : (a n x : ℕ) → states_after x (a + n) ≡ states_after x a ++ states_after (after x a) n
unfolding states_after after
parted zero n x = let none : 0 + n ≡ n = omega arith in ap (λ k. states_after x k) none
parted (suc a) n x =
    let count : suc a + n ≡ suc (a + n) = omega arith in
    ap (λ k. states_after x k) count ∙ ap (λ l. prbs23 x ∷ l) (parted a n (prbs23 x))

found_more : (cols x a n : ℕ) → length (found cols x (a + n)) ≡ length (found cols x a) + length (found cols (after x a) n)
unfolding found
found_more cols x a n =
    let res : ℕ → ℕ = λ y. y % modulus cols in
    let one : List ℕ = states_after x a in
    let two : List ℕ = states_after (after x a) n in
    ap (λ l. length (filter (passes cols) (map res l))) (parted a n x)
    ∙ ap (λ l. length (filter (passes cols) l)) (map-append res one two)
    ∙ ap length (filter-append (passes cols) (map res one) (map res two))
    ∙ length-append (filter (passes cols) (map res one)) (filter (passes cols) (map res two))

many_found : (k cols x : ℕ) → 2 ≤ cols → x < 2 ^ 23 → k ≤ length (found cols x (25 * k))
many_found zero cols x least lt = omega arith
many_found (suc k) cols x least lt =
    let count : 25 * suc k ≡ 25 + 25 * k = omega arith in
    let more : length (found cols x (25 * suc k)) ≡ length (found cols x 25) + length (found cols (after x 25) (25 * k)) =
    ap (λ n. length (found cols x n)) count ∙ found_more cols x 25 (25 * k) in
    omega (arith, more, found_in_25 cols x least lt, many_found k cols (after x 25) least (after-lt 25 x lt))

enough_found : (n cols : ℕ) → n ≤ 8380 → cols / 2 ≤ length (found cols (1 + 1001 * n) (25 * (cols / 2)))
enough_found n cols last = elim (either (ltb cols 2)) [
  | inl few ↦ omega (arith, ltb-true cols 2 few)
  | inr many ↦ many_found (cols / 2) cols (1 + 1001 * n) (ltb-false cols 2 many) (omega arith)
]

-- ---- the law

pub all_columns : (n cols : ℕ) → n ≤ 8380 → length (columns_drawn n cols) ≡ cols / 2
unfolding columns_drawn residues parity_states found passes
all_columns n cols last = length-take-le (cols / 2) (found cols (1 + 1001 * n) (25 * (cols / 2))) (enough_found n cols last)

place-le : (cols wanted : ℕ) (rs : List ℕ) → place_of cols wanted rs ≤ length rs
unfolding place_of
place-le cols zero rs = omega arith
place-le cols (suc wanted) [] = omega arith
place-le cols (suc wanted) (r ∷ rs) = elim (either (ltb r cols)) [
  | inl below ↦ omega (arith, ap (λ b. if b then place_of cols wanted rs else place_of cols (suc wanted) rs) below, place-le cols wanted rs)
  | inr above ↦ omega (arith, ap (λ b. if b then place_of cols wanted rs else place_of cols (suc wanted) rs) above, place-le cols (suc wanted) rs)
]

length-states : (x count : ℕ) → length (states_after x count) ≡ count
unfolding states_after
length-states x zero = refl
length-states x (suc count) = ap suc (length-states (prbs23 x) count)

pub most_draws : (n cols : ℕ) → draws n cols ≤ 25 * (cols / 2)
unfolding draws residues parity_states
most_draws n cols =
    let count : length (residues n cols) ≡ 25 * (cols / 2) = length-map (parity_states n (25 * (cols / 2))) (λ x. x % modulus cols) ∙ length-states (1 + 1001 * n) (25 * (cols / 2)) in
    omega (arith, count, place-le cols (cols / 2) (residues n cols))
