-- Each list of lines has a table of reduced rows: as many as the lines gain, with the same sums, and each with a column of its own.
use Rattle.std.proofs.Common.{◌≡◌, ◌≢◌, ℕ, zero, suc, ◌+◌, ◌<◌, ◌/◌, ◌%◌, ◌^◌, true, false, cond, ◌==◌, List, [], ◌∷◌, map, length, bit_xor, refl, sym, ap, ap₂, ◌∙◌, subst, inl, inr, arith, eq-eqb, eqb-true, pow-suc}
use Rattle.std.specs.Prelude.{if◌then◌else◌}
use Rattle.std.specs.List.{AllByRecursion}
use Rattle.std.specs.Int.{bit_at}
use Rattle.std.specs.Int.Bits.{xor_self, xor_zero_l, xor_zero_r, xor_assoc}
use Rattle.std.proofs.lemmas.Nat.{xor_comm, xor_lt}
use Rattle.std.proofs.lemmas.Nat.Bits.{bit_at_xor, bit_at-lt, bit_at-zero, bit_at_lowest, bit_at-suc}
use Rattle.std.proofs.lemmas.List.{length-map}
use Rattle.std.proofs.lemmas.Bool.{cases_Bool, cases_eq, or_cases, or_left, or_right, eqb-false}
use Rattle.frag_model.specs.Gain.{is_sum, IsSum, gain_of_lines}
use Rattle.frag_model.proofs.Members.{In, In-map, In-map_from}
use Rattle.frag_model.proofs.Parts.{xor_swap}
use Rattle.frag_model.proofs.Sums.{is_sum-nil, is_sum-cons, xor_back}

-- ---- sums, by cases on the list

pub IsSum-from_test : (x : ℕ) (ls : List ℕ) → is_sum x ls ≡ true → IsSum x ls
IsSum-from_test x [] e = eqb-true x 0 (sym (is_sum-nil x) ∙ e)
IsSum-from_test x (l ∷ ls) e = elim (or_cases (is_sum x ls) (is_sum (bit_xor l x) ls) (sym (is_sum-cons x l ls) ∙ e)) [
  | inl h ↦ inl (IsSum-from_test x ls h)
  | inr h ↦ inr (IsSum-from_test (bit_xor l x) ls h)
]

pub test-from_IsSum : (x : ℕ) (ls : List ℕ) → IsSum x ls → is_sum x ls ≡ true
test-from_IsSum x [] e = is_sum-nil x ∙ eq-eqb x 0 e
test-from_IsSum x (l ∷ ls) (inl h) = is_sum-cons x l ls ∙ or_left (is_sum x ls) (is_sum (bit_xor l x) ls) (test-from_IsSum x ls h)
test-from_IsSum x (l ∷ ls) (inr h) = is_sum-cons x l ls ∙ or_right (is_sum x ls) (is_sum (bit_xor l x) ls) (test-from_IsSum (bit_xor l x) ls h)

pub IsSum-zero : (ls : List ℕ) → IsSum 0 ls
IsSum-zero [] = refl
IsSum-zero (l ∷ ls) = inl (IsSum-zero ls)

IsSum-same : (x y : ℕ) (ls : List ℕ) → x ≡ y → IsSum x ls → IsSum y ls
IsSum-same x y ls e h = subst (λ z. IsSum z ls) e h

-- the XOR of two sums is one
pub IsSum-xor : (x y : ℕ) (ls : List ℕ) → IsSum x ls → IsSum y ls → IsSum (bit_xor x y) ls
IsSum-xor x y [] h k = ap₂ bit_xor h k
IsSum-xor x y (l ∷ ls) (inl h) (inl k) = inl (IsSum-xor x y ls h k)
IsSum-xor x y (l ∷ ls) (inl h) (inr k) =
    inr (IsSum-same (bit_xor x (bit_xor l y)) (bit_xor l (bit_xor x y)) ls
    (sym (xor_assoc x l y) ∙ ap (λ z. bit_xor z y) (xor_comm x l) ∙ xor_assoc l x y) (IsSum-xor x (bit_xor l y) ls h k))
IsSum-xor x y (l ∷ ls) (inr h) (inl k) =
    inr (IsSum-same (bit_xor (bit_xor l x) y) (bit_xor l (bit_xor x y)) ls (xor_assoc l x y) (IsSum-xor (bit_xor l x) y ls h k))
IsSum-xor x y (l ∷ ls) (inr h) (inr k) =
    inl (IsSum-same (bit_xor (bit_xor l x) (bit_xor l y)) (bit_xor x y) ls
    (xor_swap l x l y ∙ ap (λ z. bit_xor z (bit_xor x y)) (xor_self l) ∙ xor_zero_l (bit_xor x y)) (IsSum-xor (bit_xor l x) (bit_xor l y) ls h k))

-- each line is one
pub IsSum-line : (l : ℕ) (ls : List ℕ) → In l ls → IsSum l ls
IsSum-line l [] m = absurd m
IsSum-line l (z ∷ ls) (inl e) = inr (IsSum-same 0 (bit_xor z l) ls (sym (ap (λ y. bit_xor y l) (sym e) ∙ xor_self l)) (IsSum-zero ls))
IsSum-line l (z ∷ ls) (inr m) = inl (IsSum-line l ls m)

-- sums of sums are sums
pub IsSum-within : (x : ℕ) (ms bs : List ℕ) → ((l : ℕ) → In l ms → IsSum l bs) → IsSum x ms → IsSum x bs
IsSum-within x [] bs h k = IsSum-same 0 x bs (sym k) (IsSum-zero bs)
IsSum-within x (l ∷ ms) bs h (inl k) = IsSum-within x ms bs (λ y m. h y (inr m)) k
IsSum-within x (l ∷ ms) bs h (inr k) =
    IsSum-same (bit_xor l (bit_xor l x)) x bs (xor_back l x)
    (IsSum-xor l (bit_xor l x) bs (h l (inl refl)) (IsSum-within (bit_xor l x) ms bs (λ y m. h y (inr m)) k))

-- where no line has the column, no sum has
pub IsSum-without : (c x : ℕ) (ls : List ℕ) → AllByRecursion (λ l. bit_at l c ≡ 0) ls → IsSum x ls → bit_at x c ≡ 0
IsSum-without c x [] none h = ap (λ y. bit_at y c) h ∙ bit_at-zero c
IsSum-without c x (l ∷ ls) none (inl h) = IsSum-without c x ls none.1 h
IsSum-without c x (l ∷ ls) none (inr h) =
    let rest : bit_at (bit_xor l x) c ≡ 0 = IsSum-without c (bit_xor l x) ls none.1 h in
    omega (arith, bit_at_xor l x c, none.0, rest, bit_at-lt x c)

-- ---- tables

-- a row: a line with a column of its own
pub record Row : Type 0 where
  pub pivot : ℕ
  pub line : ℕ

abbrev pub lines_of : List Row → List ℕ
lines_of rows = map (λ (r : Row). r.line) rows

abbrev pub pivots_of : List Row → List ℕ
pivots_of rows = map (λ (r : Row). r.pivot) rows

-- a row within so many columns
pub record IsRow (cols : ℕ) (r : Row) : Type 0 where
  pub inside : r.pivot < cols
  pub within : r.line < 2 ^ cols
  pub own : bit_at r.line r.pivot ≡ 1

-- neither row has the other's column
pub record Apart (r s : Row) : Type 0 where
  pub there : bit_at s.line r.pivot ≡ 0
  pub here : bit_at r.line s.pivot ≡ 0

abbrev pub Table : ℕ → List Row → Type 0
Table cols [] = Unit {0}
Table cols (r ∷ rows) = IsRow cols r × AllByRecursion (Apart r) rows × Table cols rows

-- the line without the columns of the rows
pub reduced : ℕ → List Row → ℕ
reduced x [] = x
reduced x (r ∷ rows) = reduced (if bit_at x r.pivot == 1 then bit_xor r.line x else x) rows

-- one row less
step : ℕ → Row → ℕ
step x r = if bit_at x r.pivot == 1 then bit_xor r.line x else x

step-own : (cols x : ℕ) (r : Row) → IsRow cols r → bit_at (step x r) r.pivot ≡ 0
unfolding step
step-own cols x r h = elim (cases_Bool (bit_at x r.pivot == 1)) [
  | inl at_true ↦
      ap (λ t. bit_at (cond t (bit_xor r.line x) x) r.pivot) at_true ∙ (omega (arith, bit_at_xor r.line x r.pivot, h.own, eqb-true _ _ at_true))
  | inr at_false ↦
      ap (λ t. bit_at (cond t (bit_xor r.line x) x) r.pivot) at_false ∙ (omega (arith, bit_at-lt x r.pivot, eqb-false _ _ at_false))
]

step-other : (x c : ℕ) (r : Row) → bit_at r.line c ≡ 0 → bit_at (step x r) c ≡ bit_at x c
unfolding step
step-other x c r h =
    let kept : bit_at (bit_xor r.line x) c ≡ bit_at x c = omega (arith, bit_at_xor r.line x c, h, bit_at-lt x c) in
    elim (bit_at x r.pivot == 1) as (λ t. bit_at (cond t (bit_xor r.line x) x) c ≡ bit_at x c) [ true ↦ kept | false ↦ refl ]

step-lt : (cols x : ℕ) (r : Row) → IsRow cols r → x < 2 ^ cols → step x r < 2 ^ cols
unfolding step
step-lt cols x r h lt = elim (bit_at x r.pivot == 1) as (λ t. cond t (bit_xor r.line x) x < 2 ^ cols) [ true ↦ xor_lt cols r.line x h.within lt | false ↦ lt ]

-- what the step adds is a sum
step-sum : (x : ℕ) (r : Row) (ls : List ℕ) → IsSum r.line ls → IsSum (bit_xor x (step x r)) ls
unfolding step
step-sum x r ls h =
    let same : bit_xor x (bit_xor r.line x) ≡ r.line = ap (λ y. bit_xor x y) (xor_comm r.line x) ∙ xor_back x r.line in
    elim (bit_at x r.pivot == 1) as (λ t. IsSum (bit_xor x (cond t (bit_xor r.line x) x)) ls) [
      | true ↦ IsSum-same r.line (bit_xor x (bit_xor r.line x)) ls (sym same) h
      | false ↦ IsSum-same 0 (bit_xor x x) ls (sym (xor_self x)) (IsSum-zero ls)
    ]

reduced-lt : (cols x : ℕ) (rows : List Row) → Table cols rows → x < 2 ^ cols → reduced x rows < 2 ^ cols
unfolding reduced step
reduced-lt cols x [] t lt = lt
reduced-lt cols x (r ∷ rows) t lt = reduced-lt cols (step x r) rows t.2 (step-lt cols x r t.0 lt)

-- a column that no row has is as it was
reduced-kept : (x c : ℕ) (rows : List Row) → AllByRecursion (λ (s : Row). bit_at s.line c ≡ 0) rows → bit_at (reduced x rows) c ≡ bit_at x c
unfolding reduced step
reduced-kept x c [] h = refl
reduced-kept x c (r ∷ rows) h = reduced-kept (step x r) c rows h.1 ∙ step-other x c r h.0

lacks : (r : Row) (rows : List Row) → AllByRecursion (Apart r) rows → AllByRecursion (λ (s : Row). bit_at s.line r.pivot ≡ 0) rows
lacks r [] h = tt
lacks r (s ∷ rows) h = (h.0.there, lacks r rows h.1)

-- the reduced line has no column of a row
reduced-clear : (cols x : ℕ) (rows : List Row) → Table cols rows → AllByRecursion (λ (s : Row). bit_at (reduced x rows) s.pivot ≡ 0) rows
unfolding reduced step
reduced-clear cols x [] t = tt
reduced-clear cols x (r ∷ rows) t = (
  reduced-kept (step x r) r.pivot rows (lacks r rows t.1) ∙ step-own cols x r t.0,
  reduced-clear cols (step x r) rows t.2,
)

-- what reducing adds is a sum of the rows
reduced-sum : (x : ℕ) (rows all : List Row) → ((r : Row) → In r rows → IsSum r.line (lines_of all)) → IsSum (bit_xor x (reduced x rows)) (lines_of all)
unfolding reduced step
reduced-sum x [] all h = IsSum-same 0 (bit_xor x x) (lines_of all) (sym (xor_self x)) (IsSum-zero (lines_of all))
reduced-sum x (r ∷ rows) all h =
    let rest = reduced-sum (step x r) rows all (λ s m. h s (inr m)) in
    let first = step-sum x r (lines_of all) (h r (inl refl)) in
    let y : ℕ = reduced (step x r) rows in
    let joined : bit_xor (bit_xor x (step x r)) (bit_xor (step x r) y) ≡ bit_xor x y =
    xor_assoc x (step x r) (bit_xor (step x r) y) ∙ ap (λ z. bit_xor x z) (xor_back (step x r) y) in
    IsSum-same _ _ (lines_of all) joined (IsSum-xor (bit_xor x (step x r)) (bit_xor (step x r) y) (lines_of all) first rest)

-- a sum of rows without any of their columns is zero
pub no_columns : (cols x : ℕ) (rows : List Row) → Table cols rows → IsSum x (lines_of rows) → AllByRecursion (λ (s : Row). bit_at x s.pivot ≡ 0) rows → x ≡ 0
no_columns cols x [] t h none = h
no_columns cols x (r ∷ rows) t (inl h) none = no_columns cols x rows t.2 h none.1
no_columns cols x (r ∷ rows) t (inr h) none =
    let clear : bit_at (bit_xor r.line x) r.pivot ≡ 0 = IsSum-without r.pivot (bit_xor r.line x) (lines_of rows) (mapped r rows t.1) h in
    absurd (omega (arith, bit_at_xor r.line x r.pivot, t.0.own, none.0, clear))
  where
    mapped : (r : Row) (rows : List Row) → AllByRecursion (Apart r) rows → AllByRecursion (λ l. bit_at l r.pivot ≡ 0) (lines_of rows)
    mapped r [] h = tt
    mapped r (s ∷ rows) h = (h.0.there, mapped r rows h.1)

-- ---- one line more

-- a number that is not zero has a bit
some_bit : (cols x : ℕ) → x < 2 ^ cols → x ≢ 0 → (p : ℕ) × (p < cols) × (bit_at x p ≡ 1)
some_bit zero x lt ne = absurd (ne (omega arith))
some_bit (suc cols) x lt ne = elim (cases_Bool (x % 2 == 1)) [
  | inl at_true ↦ (0, omega arith, bit_at_lowest x ∙ eqb-true _ _ at_true)
  | inr at_false ↦
      let odd : x % 2 ≡ 1 → ⊥ = eqb-false _ _ at_false in
      let half : x / 2 < 2 ^ cols = omega (arith, pow-suc 2 cols) in
      let more : x / 2 ≢ 0 = λ e. ne (omega arith) in
      let r = some_bit cols (x / 2) half more in
      (suc r.0, omega (arith, r.1), bit_at-suc x r.0 ∙ r.2)
]

-- a row without the column of a new row
cleared : Row → Row → Row
cleared r s = record { pivot = s.pivot; line = step s.line r }

abbrev Clear : Row → List Row → Type 0
Clear r rows = AllByRecursion (λ (s : Row). bit_at r.line s.pivot ≡ 0) rows

apart_cleared : (r s : Row) (rows : List Row) → bit_at r.line s.pivot ≡ 0 → Clear r rows → AllByRecursion (Apart s) rows → AllByRecursion (Apart (cleared r s)) (map (cleared r) rows)
unfolding cleared
apart_cleared r s [] e c h = tt
apart_cleared r s (q ∷ rows) e c h = (
  record { there = step-other q.line s.pivot r e ∙ h.0.there; here = step-other s.line q.pivot r c.0 ∙ h.0.here },
  apart_cleared r s rows e c.1 h.1,
)

table_cleared : (cols : ℕ) (r : Row) (rows : List Row) → IsRow cols r → Clear r rows → Table cols rows → Table cols (map (cleared r) rows)
unfolding cleared
table_cleared cols r [] k c t = tt
table_cleared cols r (s ∷ rows) k c t = (
  record { inside = t.0.inside; within = step-lt cols s.line r k t.0.within; own = step-other s.line s.pivot r c.0 ∙ t.0.own },
  apart_cleared r s rows c.0 c.1 t.1,
  table_cleared cols r rows k c.1 t.2,
)

apart_new : (cols : ℕ) (r : Row) (rows : List Row) → IsRow cols r → Clear r rows → AllByRecursion (Apart r) (map (cleared r) rows)
unfolding cleared
apart_new cols r [] k c = tt
apart_new cols r (s ∷ rows) k c = (record { there = step-own cols s.line r k; here = c.0 }, apart_new cols r rows k c.1)

-- each old row is a sum of the new ones, and each new one of the old ones and the new row
old_row : (r s : Row) (rows : List Row) → In s rows → IsSum s.line (lines_of (r ∷ map (cleared r) rows))
unfolding cleared
old_row r s rows m =
    let all : List ℕ = lines_of (r ∷ map (cleared r) rows) in
    let new : IsSum (step s.line r) all = inl (IsSum-line (step s.line r) (lines_of (map (cleared r) rows)) (In-map (λ (q : Row). q.line) (cleared r s) (map (cleared r) rows) (In-map (cleared r) s rows m))) in
    let rest : IsSum (bit_xor s.line (step s.line r)) all = step-sum s.line r all (IsSum-line r.line all (inl refl)) in
    let same : bit_xor (step s.line r) (bit_xor s.line (step s.line r)) ≡ s.line =
    ap (λ z. bit_xor (step s.line r) z) (xor_comm s.line (step s.line r)) ∙ xor_back (step s.line r) s.line in
    IsSum-same _ _ all same (IsSum-xor (step s.line r) (bit_xor s.line (step s.line r)) all new rest)

new_row : (r s : Row) (ls : List ℕ) → IsSum s.line ls → IsSum r.line ls → IsSum (step s.line r) ls
new_row r s ls h k =
    IsSum-same _ _ ls (xor_back s.line (step s.line r)) (IsSum-xor s.line (bit_xor s.line (step s.line r)) ls h (step-sum s.line r ls k))

-- the table of a list of lines
pub record TableOf (cols : ℕ) (ls : List ℕ) (rows : List Row) : Type 0 where
  pub table : Table cols rows
  pub gained : length rows ≡ gain_of_lines ls
  pub to : (x : ℕ) → IsSum x (lines_of rows) → IsSum x ls
  pub from : (x : ℕ) → IsSum x ls → IsSum x (lines_of rows)

row_sum : (r : Row) (rows : List Row) → In r rows → IsSum r.line (lines_of rows)
row_sum r rows m = IsSum-line r.line (lines_of rows) (In-map (λ (q : Row). q.line) r rows m)

gain-sum : (l : ℕ) (ls : List ℕ) → is_sum l ls ≡ true → gain_of_lines (l ∷ ls) ≡ gain_of_lines ls
unfolding gain_of_lines
gain-sum l ls e = let v : ◌≡◌ {A = ℕ} (if is_sum l ls then 0 else 1) 0 = ap (λ t. cond {A = ℕ} t 0 1) e in omega (arith, v)

gain-no_sum : (l : ℕ) (ls : List ℕ) → is_sum l ls ≡ false → gain_of_lines (l ∷ ls) ≡ gain_of_lines ls + 1
unfolding gain_of_lines
gain-no_sum l ls e = let v : ◌≡◌ {A = ℕ} (if is_sum l ls then 0 else 1) 1 = ap (λ t. cond {A = ℕ} t 0 1) e in omega (arith, v)

-- a line that reduces to nothing
table_stays : (cols l : ℕ) (ls : List ℕ) (rows : List Row) → TableOf cols ls rows → reduced l rows ≡ 0 → TableOf cols (l ∷ ls) rows
table_stays cols l ls rows t e =
    let sum : IsSum l (lines_of rows) =
    IsSum-same _ _ (lines_of rows) (ap (λ y. bit_xor l y) e ∙ xor_zero_r l) (reduced-sum l rows rows (λ r m. row_sum r rows m)) in
    record {
      table = t.table;
      gained = t.gained ∙ sym (gain-sum l ls (test-from_IsSum l ls (t.to l sum)));
      to = λ x h. inl (t.to x h);
      from = λ x h. elim h [
        | inl k ↦ t.from x k
        | inr k ↦ IsSum-same _ _ (lines_of rows) (xor_back l x) (IsSum-xor l (bit_xor l x) (lines_of rows) sum (t.from (bit_xor l x) k))
      ];
    }

-- one that does not
cleared-line : (r s : Row) → (cleared r s).line ≡ step s.line r
unfolding cleared
cleared-line r s = refl

table_grows : (cols l p : ℕ) (ls : List ℕ) (rows : List Row) → TableOf cols ls rows → l < 2 ^ cols → p < cols → bit_at (reduced l rows) p ≡ 1
    → TableOf cols (l ∷ ls) (record { pivot = p; line = reduced l rows } ∷ map (cleared (record { pivot = p; line = reduced l rows })) rows)
table_grows cols l p ls rows t lt inside own =
    let y : ℕ = reduced l rows in
    let r : Row = record { pivot = p; line = y } in
    let k : IsRow cols r = record { inside = inside; within = reduced-lt cols l rows t.table lt; own = own } in
    let c : Clear r rows = reduced-clear cols l rows t.table in
    let new : List ℕ = lines_of (r ∷ map (cleared r) rows) in
    let between : IsSum (bit_xor l y) (lines_of rows) = reduced-sum l rows rows (λ q m. row_sum q rows m) in
    let alone : IsSum l (lines_of rows) → ⊥ = λ h.
    let sum : IsSum y (lines_of rows) = IsSum-same _ _ (lines_of rows) (xor_back l y) (IsSum-xor l (bit_xor l y) (lines_of rows) h between) in
    let none : y ≡ 0 = no_columns cols y rows t.table sum c in
    let zero_there : bit_at y p ≡ 0 = ap (λ z. bit_at z p) none ∙ bit_at-zero p in
    omega arith in
    let no_sum : is_sum l ls ≡ false = elim (cases_Bool (is_sum l ls)) [
      | inl at_true ↦ absurd (alone (t.from l (IsSum-from_test l ls at_true)))
      | inr at_false ↦ at_false
    ] in
    let olds : (x : ℕ) → IsSum x (lines_of rows) → IsSum x new = λ x h. IsSum-within x (lines_of rows) new (λ m i.
    let q = In-map_from (λ (s : Row). s.line) m rows i in
    IsSum-same _ _ new (sym q.2) (old_row r q.0 rows q.1)) h in
    let first : IsSum y (l ∷ ls) = inr (t.to (bit_xor l y) between) in
    let whole : IsSum l new = IsSum-same _ _ new (ap (λ z. bit_xor y z) (xor_comm l y) ∙ xor_back y l) (IsSum-xor y (bit_xor l y) new (IsSum-line y new (inl refl)) (olds (bit_xor l y) between)) in
    record {
      table = (k, apart_new cols r rows k c, table_cleared cols r rows k c t.table);
      gained = ap suc (length-map rows (cleared r) ∙ t.gained) ∙ (let e : suc (gain_of_lines ls) ≡ gain_of_lines ls + 1 = omega arith in e) ∙ sym (gain-no_sum l ls no_sum);
      to = λ x h. IsSum-within x new (l ∷ ls) (λ m i. elim i [
        | inl e ↦ IsSum-same _ _ (l ∷ ls) (sym e) first
        | inr j ↦
            let q = In-map_from (λ (s : Row). s.line) m (map (cleared r) rows) j in
            let o = In-map_from (cleared r) q.0 rows q.1 in
            let is : m ≡ step o.0.line r = q.2 ∙ ap (λ (s : Row). s.line) o.2 ∙ cleared-line r o.0 in
            IsSum-same _ _ (l ∷ ls) (sym is) (new_row r o.0 (l ∷ ls) (inl (t.to o.0.line (row_sum o.0 rows o.1))) first)
      ]) h;
      from = λ x h. elim h [
        | inl j ↦ olds x (t.from x j)
        | inr j ↦ IsSum-same _ _ new (xor_back l x) (IsSum-xor l (bit_xor l x) new whole (olds (bit_xor l x) (t.from (bit_xor l x) j)))
      ];
    }

none_gained : length {A = Row} [] ≡ gain_of_lines []
unfolding gain_of_lines
none_gained = refl

-- each list of lines has a table
pub has_table : (cols : ℕ) (ls : List ℕ) → AllByRecursion (λ l. l < 2 ^ cols) ls → (rows : List Row) × TableOf cols ls rows
has_table cols [] h = ([], record { table = tt; gained = none_gained; to = λ x k. k; from = λ x k. k })
has_table cols (l ∷ ls) h =
    let t = has_table cols ls h.1 in
    elim (cases_eq (reduced l t.0) 0) [
      | inl e ↦ (t.0, table_stays cols l ls t.0 t.1 e)
      | inr ne ↦
          let p = some_bit cols (reduced l t.0) (reduced-lt cols l t.0 t.1.table h.0) ne in (
            record { pivot = p.0; line = reduced l t.0 } ∷ map (cleared (record { pivot = p.0; line = reduced l t.0 })) t.0,
            table_grows cols l p.0 ls t.0 t.1 h.0 p.1 p.2,
          )
    ]
