-- What the rows of a table tell of the lines: no more of them than columns, and one for each piece that came uncoded.
use Rattle.std.proofs.Common.{◌≡◌, ◌≢◌, ◌⊎◌, ℕ, zero, suc, ◌+◌, ◌-◌, ◌<◌, ◌≤◌, ◌/◌, ◌^◌, false, cond, ◌&&◌, not, ◌==◌, nat_le, nat_lt, List, [], ◌∷◌, map, filter, take, length, refl, sym, ap, ◌∙◌, subst, inl, inr, arith, ltb-true}
use Rattle.std.specs.Prelude.{if◌then◌else◌}
use Rattle.std.specs.List.{AllByRecursion, list_any, range_with_len}
use Rattle.std.specs.Int.{bit_at}
use Rattle.std.proofs.lemmas.Nat.Bits.{bit_at-pow_other, bit_at-lt}
use Rattle.std.proofs.lemmas.List.{length-map}
use Rattle.std.proofs.lemmas.List.FromFn.{length-range_with_len}
use Rattle.std.proofs.lemmas.Bool.{cases_eq, cases_lt, and_left, lt-leb}
use Rattle.std.proofs.lemmas.Nat.{pow_below, pow_pos}
use lib.Bits.{or_lt}
use Rattle.frag_model.specs.Parity.{line, line_with, columns_drawn, residues}
use Rattle.frag_model.specs.Fragments.{line_of}
use Rattle.frag_model.specs.Gain.{gain_of_lines, gain_of, direct_of, IsSum}
use Rattle.frag_model.proofs.Members.{In, In-map, In-map_from, In-range, In-range_from, In-filter_from}
use Rattle.frag_model.proofs.Uncoded.{each-In, heard_or_new, direct_of-heard, direct_of-new, line_of_piece}
use Rattle.frag_model.proofs.Sums.{line_of_coded}
use Rattle.frag_model.proofs.Tables.{IsSum-line, Row, lines_of, pivots_of, IsRow, Apart, Table, has_table, no_columns}

-- ---- counting

abbrev pub Distinct : List ℕ → Type 0
Distinct [] = Unit {0}
Distinct (x ∷ xs) = (In x xs → ⊥) × Distinct xs

-- a list without one of its members
without_one : (x : ℕ) (ys : List ℕ) → In x ys → (rest : List ℕ) × (length ys ≡ suc (length rest)) × ((z : ℕ) → z ≢ x → In z ys → In z rest)
without_one x [] m = absurd m
without_one x (y ∷ ys) (inl e) = (ys, refl, λ z ne i. elim i [ inl f ↦ absurd (ne (f ∙ sym e)) | inr j ↦ j ])
without_one x (y ∷ ys) (inr m) =
    let r = without_one x ys m in
    (y ∷ r.0, ap suc r.1, λ z ne i. elim i [ inl f ↦ inl f | inr j ↦ inr (r.2 z ne j) ])

-- different members of a list are no more than it has
pub length-subset : (xs ys : List ℕ) → Distinct xs → ((x : ℕ) → In x xs → In x ys) → length xs ≤ length ys
length-subset [] ys d h = omega arith
length-subset (x ∷ xs) ys d h =
    let r = without_one x ys (h x (inl refl)) in
    let rest : length xs ≤ length r.0 = length-subset xs r.0 d.1 (λ z i. r.2 z (λ e. d.0 (subst (λ w. In w xs) e i)) (h z (inr i))) in
    omega (arith, r.1, rest)

distinct_range : (a n : ℕ) → Distinct (range_with_len a n)
distinct_range a zero = tt
distinct_range a (suc n) = ((λ m. let r = In-range_from a (a + 1) n m in omega arith), distinct_range (a + 1) n)

-- so many different numbers below a bound are no more than the bound, and all of them where they are as many
pub length-distinct : (n : ℕ) (xs : List ℕ) → Distinct xs → ((x : ℕ) → In x xs → x < n) → length xs ≤ n
length-distinct n xs d h =
    let le : length xs ≤ length (range_with_len 0 n) = length-subset xs (range_with_len 0 n) d (λ x i. In-range x 0 n (omega arith) (let lt = h x i in omega arith)) in
    omega (arith, le, length-range_with_len 0 n)

pub all_there : (n : ℕ) (xs : List ℕ) → Distinct xs → ((x : ℕ) → In x xs → x < n) → n ≤ length xs → (k : ℕ) → k < n → In k xs
all_there n xs d h full k lt = elim (heard_or_new k xs) [
  | inl m ↦ m
  | inr new ↦
      let more : length (k ∷ xs) ≤ n = length-distinct n (k ∷ xs) (new, d) (λ x i. elim i [ inl e ↦ subst (λ z. z < n) (sym e) lt | inr j ↦ h x j ]) in
      absurd (omega arith)
]

-- fewer numbers leave one out
all_or_free : (n : ℕ) (xs : List ℕ) → ((k : ℕ) → k < n → In k xs) ⊎ ((k : ℕ) × (k < n) × (In k xs → ⊥))
all_or_free zero xs = inl (λ k lt. absurd (omega arith))
all_or_free (suc n) xs = elim (heard_or_new n xs) [
  | inr new ↦ inr (n, omega arith, new)
  | inl m ↦ elim (all_or_free n xs) [
    | inr f ↦ inr (f.0, omega (arith, f.1), f.2)
    | inl all ↦ inl (λ k lt. elim (cases_eq k n) [ inl e ↦ subst (λ z. In z xs) (sym e) m | inr ne ↦ all k (omega arith) ])
  ]
]

pub free_number : (n : ℕ) (xs : List ℕ) → length xs < n → (k : ℕ) × (k < n) × (In k xs → ⊥)
free_number n xs few = elim (all_or_free n xs) [
  | inr f ↦ f
  | inl all ↦
      let le : length (range_with_len 0 n) ≤ length xs =
      length-subset (range_with_len 0 n) xs (distinct_range 0 n) (λ k i. all k (let r = In-range_from k 0 n i in omega arith)) in
      absurd (omega (arith, le, length-range_with_len 0 n))
]

-- ---- the rows of a table

no_pivot : (cols : ℕ) (r : Row) (rows : List Row) → IsRow cols r → AllByRecursion (Apart r) rows → In r.pivot (pivots_of rows) → ⊥
no_pivot cols r [] k h m = m
no_pivot cols r (s ∷ rows) k h (inl e) = let there : bit_at r.line r.pivot ≡ 0 = ap (λ p. bit_at r.line p) e ∙ h.0.here in omega (arith, k.own, there)
no_pivot cols r (s ∷ rows) k h (inr m) = no_pivot cols r rows k h.1 m

pub pivots_distinct : (cols : ℕ) (rows : List Row) → Table cols rows → Distinct (pivots_of rows)
pivots_distinct cols [] t = tt
pivots_distinct cols (r ∷ rows) t = (no_pivot cols r rows t.0 t.1, pivots_distinct cols rows t.2)

pub row_of : (cols : ℕ) (rows : List Row) (r : Row) → Table cols rows → In r rows → IsRow cols r
row_of cols [] r t m = absurd m
row_of cols (s ∷ rows) r t (inl e) = subst (IsRow cols) (sym e) t.0
row_of cols (s ∷ rows) r t (inr m) = row_of cols rows r t.2 m

pub pivot_inside : (cols : ℕ) (rows : List Row) (p : ℕ) → Table cols rows → In p (pivots_of rows) → p < cols
pivot_inside cols rows p t m =
    let r = In-map_from (λ (s : Row). s.pivot) p rows m in
    subst (λ q. q < cols) (sym r.2) (row_of cols rows r.0 t r.1).inside

-- two rows are apart
pub rows_apart : (cols : ℕ) (rows : List Row) (r s : Row) → Table cols rows → In r rows → In s rows → s.pivot ≢ r.pivot → bit_at r.line s.pivot ≡ 0
rows_apart cols [] r s t i j ne = absurd i
rows_apart cols (q ∷ rows) r s t (inl e) (inl f) ne = absurd (ne (ap (λ (x : Row). x.pivot) (f ∙ sym e)))
rows_apart cols (q ∷ rows) r s t (inl e) (inr j) ne =
    ap (λ (x : Row). bit_at x.line s.pivot) e ∙ (each-In (Apart q) s rows t.1 j).here
rows_apart cols (q ∷ rows) r s t (inr i) (inl f) ne =
    ap (λ (x : Row). bit_at r.line x.pivot) f ∙ (each-In (Apart q) r rows t.1 i).there
rows_apart cols (q ∷ rows) r s t (inr i) (inr j) ne = rows_apart cols rows r s t.2 i j ne

-- gain is at most the number of columns
pub gain-le : (cols : ℕ) (ls : List ℕ) → AllByRecursion (λ l. l < 2 ^ cols) ls → gain_of_lines ls ≤ cols
gain-le cols ls h =
    let t = has_table cols ls h in
    let le : length (pivots_of t.0) ≤ cols = length-distinct cols (pivots_of t.0) (pivots_distinct cols t.0 t.1.table) (λ p m. pivot_inside cols t.0 p t.1.table m) in
    omega (arith, le, length-map t.0 (λ (r : Row). r.pivot), t.1.gained)

-- ---- the lines of numbers

line_with-lt : (cols : ℕ) (cs : List ℕ) → ((c : ℕ) → In c cs → c < cols) → line_with cs < 2 ^ cols
unfolding line_with
line_with-lt cols [] h = pow_pos cols
line_with-lt cols (c ∷ cs) h =
    let one : 2 ^ c < 2 ^ cols = pow_below c cols (h c (inl refl)) in
    or_lt cols (2 ^ c) (line_with cs) one (line_with-lt cols cs (λ d i. h d (inr i)))

In-take : (x n : ℕ) (xs : List ℕ) → In x (take n xs) → In x xs
In-take x zero xs m = absurd m
In-take x (suc n) [] m = absurd m
In-take x (suc n) (y ∷ xs) (inl e) = inl e
In-take x (suc n) (y ∷ xs) (inr m) = inr (In-take x n xs m)

pub line-lt : (n cols : ℕ) → line n cols < 2 ^ cols
unfolding line columns_drawn
line-lt n cols = line_with-lt cols (columns_drawn n cols) (λ c i.
    ltb-true c cols (In-filter_from (λ r. nat_lt r cols) c (residues n cols) (In-take c (cols / 2) (filter (λ r. nat_lt r cols) (residues n cols)) i)).1)

pub line_of-lt : (nb_frag n : ℕ) → 1 ≤ n → line_of nb_frag n < 2 ^ nb_frag
line_of-lt nb_frag n some = elim (cases_lt nb_frag n) [
  | inl lt ↦ subst (λ l. l < 2 ^ nb_frag) (sym (line_of_coded nb_frag n lt)) (line-lt (n - nb_frag) nb_frag)
  | inr le ↦ subst (λ l. l < 2 ^ nb_frag) (sym (line_of_piece nb_frag n le)) (pow_below (n - 1) nb_frag (omega arith))
]

pub lines_within : (nb_frag : ℕ) (numbers : List ℕ) → AllByRecursion (λ n. 1 ≤ n) numbers → AllByRecursion (λ l. l < 2 ^ nb_frag) (map (λ n. line_of nb_frag n) numbers)
lines_within nb_frag [] h = tt
lines_within nb_frag (n ∷ numbers) h = (line_of-lt nb_frag n h.0, lines_within nb_frag numbers h.1)

-- ---- the pieces that came uncoded

-- a sum of rows that is not zero has the column of one
some_pivot : (x : ℕ) (rows : List Row) → AllByRecursion (λ (s : Row). bit_at x s.pivot ≡ 0) rows ⊎ ((p : ℕ) × In p (pivots_of rows) × (bit_at x p ≡ 1))
some_pivot x [] = inl tt
some_pivot x (r ∷ rows) = elim (cases_eq (bit_at x r.pivot) 1) [
  | inl e ↦ inr (r.pivot, inl refl, e)
  | inr ne ↦ elim (some_pivot x rows) [
    | inr f ↦ inr (f.0, inr f.1, f.2)
    | inl none ↦ inl (omega (arith, bit_at-lt x r.pivot), none)
  ]
]

-- a column that is a sum for itself has a row
unit_pivot : (cols k : ℕ) (rows : List Row) → Table cols rows → IsSum (2 ^ k) (lines_of rows) → In k (pivots_of rows)
unit_pivot cols k rows t h = elim (some_pivot (2 ^ k) rows) [
  | inl none ↦ let zero_there : 2 ^ k ≡ 0 = no_columns cols (2 ^ k) rows t h none in absurd (omega (arith, pow_pos k))
  | inr f ↦ elim (cases_eq f.0 k) [
    | inl e ↦ subst (λ p. In p (pivots_of rows)) e f.1
    | inr ne ↦ absurd (omega (arith, f.2, bit_at-pow_other k f.0 ne))
  ]
]

-- the different pieces among the numbers
record Pieces (nb_frag : ℕ) (numbers ds : List ℕ) : Type 0 where
  pub distinct : Distinct ds
  pub counted : length ds ≡ direct_of nb_frag numbers
  pub heard : (d : ℕ) → In d ds → In d numbers × (d ≤ nb_frag)
  pub all : (d : ℕ) → In d numbers → d ≤ nb_frag → In d ds

pub direct_of-coded : (nb_frag n : ℕ) (older : List ℕ) → nb_frag < n → direct_of nb_frag (n ∷ older) ≡ direct_of nb_frag older
unfolding direct_of
direct_of-coded nb_frag n older lt =
    let test : (nat_le n nb_frag && not (list_any (λ k. k == n) older)) ≡ false = and_left (nat_le n nb_frag) (not (list_any (λ k. k == n) older)) (lt-leb n nb_frag lt) in
    let e : ◌≡◌ {A = ℕ} (if nat_le n nb_frag && not (list_any (λ k. k == n) older) then 1 else 0) 0 = ap (λ t. cond {A = ℕ} t 1 0) test in
    omega (arith, e)

no_pieces : (nb_frag : ℕ) → Pieces nb_frag [] []
unfolding direct_of
no_pieces nb_frag = record { distinct = tt; counted = refl; heard = λ d i. absurd i; all = λ d i le. absurd i }

pieces_of : (nb_frag : ℕ) (numbers : List ℕ) → (ds : List ℕ) × Pieces nb_frag numbers ds
pieces_of nb_frag [] = ([], no_pieces nb_frag)
pieces_of nb_frag (n ∷ numbers) =
    let r = pieces_of nb_frag numbers in
    let p = r.1 in
    elim (cases_lt nb_frag n) [
      | inl lt ↦ (
        r.0,
        record {
          distinct = p.distinct;
          counted = p.counted ∙ sym (direct_of-coded nb_frag n numbers lt);
          heard = λ d i. let q = p.heard d i in (inr q.0, q.1);
          all = λ d i le. elim i [ inl e ↦ absurd (omega arith) | inr j ↦ p.all d j le ];
        },
      )
      | inr le ↦ elim (heard_or_new n numbers) [
        | inl m ↦ (
          r.0,
          record {
            distinct = p.distinct;
            counted = p.counted ∙ sym (direct_of-heard nb_frag n numbers m);
            heard = λ d i. let q = p.heard d i in (inr q.0, q.1);
            all = λ d i small. elim i [ inl e ↦ subst (λ z. In z r.0) (sym e) (p.all n m le) | inr j ↦ p.all d j small ];
          },
        )
        | inr new ↦ (
          n ∷ r.0,
          record {
            distinct = ((λ i. new (p.heard n i).0), p.distinct);
            counted = ap suc p.counted ∙ (let e : suc (direct_of nb_frag numbers) ≡ direct_of nb_frag numbers + 1 = omega arith in e) ∙ sym (direct_of-new nb_frag n numbers le new);
            heard = λ d i. elim i [ inl e ↦ (inl e, subst (λ z. z ≤ nb_frag) (sym e) le) | inr j ↦ (let q = p.heard d j in (inr q.0, q.1)) ];
            all = λ d i small. elim i [ inl e ↦ inl e | inr j ↦ inr (p.all d j small) ];
          },
        )
      ]
    ]

-- direct is at most gain: an excess is never cut off
pub direct-le-gain : (nb_frag : ℕ) (numbers : List ℕ) → AllByRecursion (λ n. 1 ≤ n) numbers → direct_of nb_frag numbers ≤ gain_of nb_frag numbers
unfolding gain_of
direct-le-gain nb_frag numbers h =
    let lines : List ℕ = map (λ n. line_of nb_frag n) numbers in
    let t = has_table nb_frag lines (lines_within nb_frag numbers h) in
    let ds = pieces_of nb_frag numbers in
    let le : length ds.0 ≤ length (map suc (pivots_of t.0)) = length-subset ds.0 (map suc (pivots_of t.0)) ds.1.distinct (λ d i.
    let q = ds.1.heard d i in
    let some : 1 ≤ d = each-In (λ n. 1 ≤ n) d numbers h q.0 in
    let sum : IsSum (line_of nb_frag d) lines = IsSum-line (line_of nb_frag d) lines (In-map (λ n. line_of nb_frag n) d numbers q.0) in
    let unit : IsSum (2 ^ (d - 1)) (lines_of t.0) = t.1.from (2 ^ (d - 1)) (subst (λ l. IsSum l lines) (line_of_piece nb_frag d q.1) sum) in
    let there : In (suc (d - 1)) (map suc (pivots_of t.0)) = In-map suc (d - 1) (pivots_of t.0) (unit_pivot nb_frag (d - 1) t.0 t.1.table unit) in
    let same : suc (d - 1) ≡ d = omega arith in
    subst (λ z. In z (map suc (pivots_of t.0))) same there) in
    omega (arith, le, ds.1.counted, length-map (pivots_of t.0) suc, length-map t.0 (λ (r : Row). r.pivot), t.1.gained)
