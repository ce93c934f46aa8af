-- How many places are pieces, rows or free.
use Rattle.std.proofs.Common.{true≢false, ◌≡◌, ◌⊎◌, ℕ, zero, suc, ◌+◌, ◌<◌, ◌≤◌, ◌^◌, Bool, true, false, cond, ◌==◌, List, [], ◌∷◌, map, set, length, get_or, Some, bit_xor, refl, ap, ◌∙◌, subst, inl, inr, arith}
use Rattle.std.specs.Prelude.{if◌then◌else◌}
use Rattle.std.specs.List.{count_by}
use Rattle.std.specs.Int.{bit_at}
use Rattle.std.proofs.lemmas.List.Sums.{sum_by-cons}
use Rattle.frag_model.specs.Fragments.{Equation, xor_bytes}
use Rattle.row_elimination.specs.HeldPlaces.{Place, free, piece, row, told, is_piece, is_row, pieces_held, rows_held, gained_held, cleared, all_cleared, grown}
use Rattle.row_elimination.proofs.Telling.{Tells}
use Rattle.row_elimination.proofs.Growing.{length-all_cleared, at_all_cleared, free_is_cleared}

unfoldable pub one : Bool → ℕ
one t = if t then 1 else 0

pub count-cons : (p : Place → Bool) (x : Place) (xs : List Place) → count_by p (x ∷ xs) ≡ one (p x) + count_by p xs
unfolding one
count-cons p x xs = sum_by-cons (λ y. cond {A = ℕ} (p y) 1 0) x xs

count-set : (p : Place → Bool) (xs : List Place) (k : ℕ) (y : Place) → k < length xs → count_by p (set xs k y) + one (p (get_or xs k free)) ≡ count_by p xs + one (p y)
count-set p [] k y lt = absurd (omega arith)
count-set p (x ∷ xs) zero y lt = omega (arith, count-cons p x xs, count-cons p y xs)
count-set p (x ∷ xs) (suc k) y lt =
    let rest : count_by p (set xs k y) + one (p (get_or xs k free)) ≡ count_by p xs + one (p y) = count-set p xs k y (omega arith) in
    omega (arith, count-cons p x xs, count-cons p x (set xs k y), rest)

count-map : (p : Place → Bool) (f : Place → Place) (xs : List Place) → ((x : Place) → p (f x) ≡ p x) → count_by p (map f xs) ≡ count_by p xs
count-map p f [] h = refl
count-map p f (x ∷ xs) h =
    let rest : count_by p (map f xs) ≡ count_by p xs = count-map p f xs h in
    let same : one (p (f x)) ≡ one (p x) = ap one (h x) in
    omega (arith, count-cons p x xs, count-cons p (f x) (map f xs), rest, same)

-- ---- a cleared place is what it was

pub is_piece-cleared : (p y : ℕ) (q : List ℕ) (x : Place) → is_piece (cleared p y q x) ≡ is_piece x
unfolding is_piece cleared
is_piece-cleared p y q free = refl
is_piece-cleared p y q (piece part) = refl
is_piece-cleared p y q (row line part) = elim (bit_at line p == 1) as (λ t. is_piece (cond t (row (bit_xor line y) (xor_bytes part q)) (row line part)) ≡ false) [ true ↦ refl | false ↦ refl ]

is_row-cleared : (p y : ℕ) (q : List ℕ) (x : Place) → is_row (cleared p y q x) ≡ is_row x
unfolding is_row cleared
is_row-cleared p y q free = refl
is_row-cleared p y q (piece part) = refl
is_row-cleared p y q (row line part) = elim (bit_at line p == 1) as (λ t. is_row (cond t (row (bit_xor line y) (xor_bytes part q)) (row line part)) ≡ true) [ true ↦ refl | false ↦ refl ]

pub rows_cleared : (p y : ℕ) (q : List ℕ) (ps : List Place) → rows_held (all_cleared p y q ps) ≡ rows_held ps
unfolding rows_held all_cleared
rows_cleared p y q ps = count-map is_row (cleared p y q) ps (is_row-cleared p y q)

pub pieces_cleared : (p y : ℕ) (q : List ℕ) (ps : List Place) → pieces_held (all_cleared p y q ps) ≡ pieces_held ps
unfolding pieces_held all_cleared
pieces_cleared p y q ps = count-map is_piece (cleared p y q) ps (is_piece-cleared p y q)

-- where no row is held there is nothing to clear
pub no_rows_cleared : (p y : ℕ) (q : List ℕ) (ps : List Place) → rows_held ps ≡ 0 → all_cleared p y q ps ≡ ps
unfolding rows_held all_cleared cleared is_row one
no_rows_cleared p y q [] none = refl
no_rows_cleared p y q (free ∷ ps) none = ap (λ l. free ∷ l) (no_rows_cleared p y q ps (omega (arith, count-cons is_row free ps, none)))
no_rows_cleared p y q (piece part ∷ ps) none = ap (λ l. piece part ∷ l) (no_rows_cleared p y q ps (omega (arith, count-cons is_row (piece part) ps, none)))
no_rows_cleared p y q (row line part ∷ ps) none = absurd (omega (arith, count-cons is_row (row line part) ps, none))

-- and each place that is no piece is free
pub no_rows_free : (ps : List Place) (k : ℕ) → rows_held ps ≡ 0 → is_piece (get_or ps k free) ≡ false → get_or ps k free ≡ free
unfolding rows_held is_piece is_row one
no_rows_free [] k none other = refl
no_rows_free (free ∷ ps) zero none other = refl
no_rows_free (piece part ∷ ps) zero none other = absurd (true≢false other)
no_rows_free (row line part ∷ ps) zero none other = absurd (omega (arith, count-cons is_row (row line part) ps, none))
no_rows_free (x ∷ ps) (suc k) none other = no_rows_free ps k (omega (arith, count-cons is_row x ps, none)) other

-- ---- one place set

pub rows_set : (ps : List Place) (k : ℕ) (x : Place) → k < length ps → rows_held (set ps k x) + one (is_row (get_or ps k free)) ≡ rows_held ps + one (is_row x)
unfolding rows_held
rows_set ps k x lt = count-set is_row ps k x lt

pub pieces_set : (ps : List Place) (k : ℕ) (x : Place) → k < length ps → pieces_held (set ps k x) + one (is_piece (get_or ps k free)) ≡ pieces_held ps + one (is_piece x)
unfolding pieces_held
pieces_set ps k x lt = count-set is_piece ps k x lt

pub one_true : (t : Bool) → t ≡ true → one t ≡ 1
unfolding one
one_true t e = ap (λ u. cond {A = ℕ} u 1 0) e

pub one_false : (t : Bool) → t ≡ false → one t ≡ 0
unfolding one
one_false t e = ap (λ u. cond {A = ℕ} u 1 0) e

-- a new row leads a place that was free
lead_cleared : (p y : ℕ) (q : List ℕ) (ps : List Place) → get_or ps p free ≡ free → get_or (all_cleared p y q ps) p free ≡ free
lead_cleared p y q ps none = at_all_cleared p y q ps p ∙ ap (cleared p y q) none ∙ free_is_cleared p y q

pub rows_grown : (p y : ℕ) (q : List ℕ) (ps : List Place) → p < length ps → get_or ps p free ≡ free → rows_held (grown p y q ps) ≡ rows_held ps + 1
unfolding grown is_row
rows_grown p y q ps lt none =
    let before = one_false (is_row (get_or (all_cleared p y q ps) p free)) (ap is_row (lead_cleared p y q ps none)) in
    omega (arith, rows_set (all_cleared p y q ps) p (row y q) (omega (arith, length-all_cleared p y q ps)), before, one_true (is_row (row y q)) refl, rows_cleared p y q ps)

pub pieces_grown : (p y : ℕ) (q : List ℕ) (ps : List Place) → p < length ps → get_or ps p free ≡ free → pieces_held (grown p y q ps) ≡ pieces_held ps
unfolding grown is_piece
pieces_grown p y q ps lt none =
    let before = one_false (is_piece (get_or (all_cleared p y q ps) p free)) (ap is_piece (lead_cleared p y q ps none)) in
    omega (arith, pieces_set (all_cleared p y q ps) p (row y q) (omega (arith, length-all_cleared p y q ps)), before, one_false (is_piece (row y q)) refl, pieces_cleared p y q ps)

-- ---- all places held, or some free

gained-cons : (x : Place) (xs : List Place) → gained_held (x ∷ xs) ≡ one (is_piece x) + one (is_row x) + gained_held xs
unfolding gained_held pieces_held rows_held
gained-cons x xs = omega (arith, count-cons is_piece x xs, count-cons is_row x xs)

kind : (x : Place) → ((x ≡ free) × (one (is_piece x) + one (is_row x) ≡ 0)) ⊎ (((e : (c : ℕ) → Equation) × ((c : ℕ) → told c x ≡ Some (e c))) × (one (is_piece x) + one (is_row x) ≡ 1))
unfolding is_piece is_row told one
kind free = inl (refl, refl)
kind (piece part) = inr (((λ c. record { line = 2 ^ c; part = part }), λ c. refl), refl)
kind (row line part) = inr (((λ c. record { line = line; part = part }), λ c. refl), refl)

pub gained-le : (ps : List Place) → gained_held ps ≤ length ps
unfolding gained_held pieces_held rows_held
gained-le [] = omega arith
gained-le (x ∷ xs) = elim (kind x) [
  | inl k ↦ omega (arith, gained-cons x xs, k.1, gained-le xs)
  | inr k ↦ omega (arith, gained-cons x xs, k.1, gained-le xs)
]

pub some_free : (ps : List Place) → gained_held ps < length ps → (k : ℕ) × (k < length ps) × (get_or ps k free ≡ free)
some_free [] lt = absurd (omega arith)
some_free (x ∷ xs) lt = elim (kind x) [
  | inl k ↦ (0, omega arith, k.0)
  | inr k ↦ let r = some_free xs (omega (arith, gained-cons x xs, k.1)) in (suc r.0, omega (arith, r.1), r.2)
]

pub none_free : (ps : List Place) (k : ℕ) → length ps ≤ gained_held ps → k < length ps → (e : Equation) × Tells ps k e
none_free ps k full lt = at k ps k full lt
  where
    at : (c : ℕ) (ps : List Place) (k : ℕ) → length ps ≤ gained_held ps → k < length ps → (e : Equation) × (told c (get_or ps k free) ≡ Some e)
    at c [] k full lt = absurd (omega arith)
    at c (x ∷ xs) zero full lt = elim (kind x) [
      | inl k ↦ absurd (omega (arith, gained-cons x xs, k.1, gained-le xs))
      | inr k ↦ (k.0.0 c, k.0.1 c)
    ]
    at c (x ∷ xs) (suc k) full lt = elim (kind x) [
      | inl w ↦ absurd (omega (arith, gained-cons x xs, w.1, gained-le xs))
      | inr w ↦ at c xs k (omega (arith, gained-cons x xs, w.1)) (omega arith)
    ]

-- a place with an equation is a piece or a row
pub held_kind : (c : ℕ) (x : Place) (e : Equation) → told c x ≡ Some e → one (is_piece x) + one (is_row x) ≡ 1
unfolding told
held_kind c x e h = elim (kind x) [
  | inl k ↦ absurd (let none : told c free ≡ Some e = subst (λ p. told c p ≡ Some e) k.0 h in cc)
  | inr k ↦ k.1
]

pub gained_more : (p y : ℕ) (q : List ℕ) (ps : List Place) → p < length ps → get_or ps p free ≡ free → gained_held (grown p y q ps) ≡ gained_held ps + 1
unfolding gained_held
gained_more p y q ps lt none = omega (arith, rows_grown p y q ps lt none, pieces_grown p y q ps lt none)
