-- What is in a list, by cases on the list; and what is in the list of all lists.
use Rattle.std.proofs.Common.{◌≡◌, ◌⊎◌, ℕ, zero, suc, ◌+◌, ◌<◌, ◌≤◌, Bool, true, false, cond, List, [], ◌∷◌, ◌++◌, map, filter, flat_map, length, refl, sym, ap, ◌∙◌, subst, inl, inr, arith, true≢false}
use Rattle.std.proofs.lemmas.Bool.{and_parts, and_from, and_cases, cases_eq}
use Rattle.std.specs.List.{list_all, range_with_len, AllByRecursion}
use Rattle.frag_model.specs.Verdict.{all_lists}
pub use Rattle.frag_model.specs.Members.{In}

pub In-append_left : {A : Type 0} (x : A) (xs ys : List A) → In x xs → In x (xs ++ ys)
In-append_left x [] ys h = absurd h
In-append_left x (z ∷ xs) ys (inl e) = inl e
In-append_left x (z ∷ xs) ys (inr h) = inr (In-append_left x xs ys h)

pub In-append_right : {A : Type 0} (x : A) (xs ys : List A) → In x ys → In x (xs ++ ys)
In-append_right x [] ys h = h
In-append_right x (z ∷ xs) ys h = inr (In-append_right x xs ys h)

pub In-append_cases : {A : Type 0} (x : A) (xs ys : List A) → In x (xs ++ ys) → In x xs ⊎ In x ys
In-append_cases x [] ys h = inr h
In-append_cases x (z ∷ xs) ys (inl e) = inl (inl e)
In-append_cases x (z ∷ xs) ys (inr h) = elim (In-append_cases x xs ys h) [ inl m ↦ inl (inr m) | inr m ↦ inr m ]

pub In-map : {A B : Type 0} (f : A → B) (x : A) (xs : List A) → In x xs → In (f x) (map f xs)
In-map f x [] h = absurd h
In-map f x (z ∷ xs) (inl e) = inl (ap f e)
In-map f x (z ∷ xs) (inr h) = inr (In-map f x xs h)

-- where a member of a map comes from
pub In-map_from : {A B : Type 0} (f : A → B) (y : B) (xs : List A) → In y (map f xs) → (x : A) × In x xs × (y ≡ f x)
In-map_from f y [] h = absurd h
In-map_from f y (z ∷ xs) (inl e) = (z, inl refl, e)
In-map_from f y (z ∷ xs) (inr h) = let r = In-map_from f y xs h in (r.0, inr r.1, r.2)

pub In-flat_map : {A B : Type 0} (f : A → List B) (y : B) (x : A) (xs : List A) → In x xs → In y (f x) → In y (flat_map f xs)
In-flat_map f y x [] h m = absurd h
In-flat_map {A} {B} f y x (z ∷ xs) (inl e) m = In-append_left y (f z) (flat_map f xs) (let P : List B → Type 0 = λ ys. In y ys in subst P (ap f e) m)
In-flat_map f y x (z ∷ xs) (inr h) m = In-append_right y (f z) (flat_map f xs) (In-flat_map f y x xs h m)

-- where a member of a flat_map comes from
pub In-flat_map_from : {A B : Type 0} (f : A → List B) (y : B) (xs : List A) → In y (flat_map f xs) → (x : A) × In x xs × In y (f x)
In-flat_map_from f y [] h = absurd h
In-flat_map_from f y (z ∷ xs) h = elim (In-append_cases y (f z) (flat_map f xs) h) [
  | inl m ↦ (z, inl refl, m)
  | inr m ↦ let r = In-flat_map_from f y xs m in (r.0, inr r.1, r.2)
]

-- a filter keeps the members that pass
pub In-filter : {A : Type 0} (p : A → Bool) (x : A) (xs : List A) → In x xs → p x ≡ true → In x (filter p xs)
In-filter p x [] h passes = absurd h
In-filter {A} p x (z ∷ xs) (inl e) passes =
    let here : p z ≡ true = sym (ap p e) ∙ passes in
    let P : Bool → Type 0 = λ b. In x (cond b (z ∷ filter p xs) (filter p xs)) in
    subst P (sym here) (inl e)
In-filter {A} p x (z ∷ xs) (inr h) passes =
    let rest = In-filter p x xs h passes in
    elim (p z) as (λ b. In x (cond b (z ∷ filter p xs) (filter p xs))) [ true ↦ inr rest | false ↦ rest ]

filter_cases : {A : Type 0} (p : A → Bool) (x z : A) (xs ys : List A) (b : Bool) → p z ≡ b → (In x ys → In x xs × (p x ≡ true)) → In x (cond b (z ∷ ys) ys) → In x (z ∷ xs) × (p x ≡ true)
filter_cases p x z xs ys true is rest (inl e) = (inl e, ap p e ∙ is)
filter_cases p x z xs ys true is rest (inr m) = let r = rest m in (inr r.0, r.1)
filter_cases p x z xs ys false is rest m = let r = rest m in (inr r.0, r.1)

pub In-filter_from : {A : Type 0} (p : A → Bool) (x : A) (xs : List A) → In x (filter p xs) → In x xs × (p x ≡ true)
In-filter_from p x [] h = absurd h
In-filter_from p x (z ∷ xs) h = filter_cases p x z xs (filter p xs) (p z) refl (In-filter_from p x xs) h

-- where all pass, each member does
pub list_all-In : {A : Type 0} (p : A → Bool) (x : A) (xs : List A) → list_all p xs ≡ true → In x xs → p x ≡ true
list_all-In p x [] h m = absurd m
list_all-In p x (z ∷ xs) h (inl e) = ap p e ∙ (and_parts (p z) (list_all p xs) h).0
list_all-In p x (z ∷ xs) h (inr m) = list_all-In p x xs (and_parts (p z) (list_all p xs) h).1 m

pub list_all-from_In : {A : Type 0} (p : A → Bool) (xs : List A) → ((x : A) → In x xs → p x ≡ true) → list_all p xs ≡ true
list_all-from_In p [] h = refl
list_all-from_In p (z ∷ xs) h = and_from (p z) (list_all p xs) (h z (inl refl)) (list_all-from_In p xs (λ x m. h x (inr m)))

-- where not all pass, some member does not
pub list_all-fails : {A : Type 0} (p : A → Bool) (xs : List A) → list_all p xs ≡ false → (x : A) × In x xs × (p x ≡ false)
list_all-fails p [] h = absurd (true≢false h)
list_all-fails p (z ∷ xs) h = elim (and_cases (p z) (list_all p xs) h) [
  | inl e ↦ (z, inl refl, e)
  | inr e ↦ let r = list_all-fails p xs e in (r.0, inr r.1, r.2)
]

-- the list of all lists has each list of that length over the members
pub In-all_lists : {A : Type 0} (xs ys : List A) (n : ℕ) → length ys ≡ n → AllByRecursion (λ y. In y xs) ys → In ys (all_lists xs n)
unfolding all_lists
In-all_lists xs [] zero e h = inl refl
In-all_lists xs [] (suc n) e h = absurd (omega arith)
In-all_lists xs (y ∷ ys) zero e h = absurd (omega arith)
In-all_lists {A} xs (y ∷ ys) (suc n) e h =
    let f : List A → List (List A) = λ rest. map (λ x. x ∷ rest) xs in
    In-flat_map f (y ∷ ys) ys (all_lists xs n) (In-all_lists xs ys n (omega arith) h.1) (In-map (λ x. x ∷ ys) y xs h.0)

-- and no other
pub In-all_lists_from : {A : Type 0} (xs ys : List A) (n : ℕ) → In ys (all_lists xs n) → (length ys ≡ n) × AllByRecursion (λ y. In y xs) ys
unfolding all_lists
In-all_lists_from {A} xs ys zero (inl e) =
    let P : List A → Type 0 = λ zs. (length zs ≡ 0) × AllByRecursion (λ y. In y xs) zs in
    subst P (sym e) (refl, tt)
In-all_lists_from xs ys zero (inr h) = absurd h
In-all_lists_from {A} xs ys (suc n) h =
    let f : List A → List (List A) = λ rest. map (λ x. x ∷ rest) xs in
    let r = In-flat_map_from f ys (all_lists xs n) h in
    let q = In-map_from (λ x. x ∷ r.0) ys xs r.2 in
    let before = In-all_lists_from xs r.0 n r.1 in
    let P : List A → Type 0 = λ zs. (length zs ≡ suc n) × AllByRecursion (λ y. In y xs) zs in
    let long : length (q.0 ∷ r.0) ≡ suc n = omega (arith, before.0) in
    subst P (sym q.2) (long, (q.1, before.1))

-- the numbers of a range
pub In-range : (b a n : ℕ) → a ≤ b → b < a + n → In b (range_with_len a n)
In-range b a zero low high = absurd (omega arith)
In-range b a (suc n) low high = elim (cases_eq b a) [
  | inl e ↦ inl e
  | inr ne ↦ inr (In-range b (a + 1) n (omega arith) (omega arith))
]

pub In-range_from : (b a n : ℕ) → In b (range_with_len a n) → (a ≤ b) × (b < a + n)
In-range_from b a zero h = absurd h
In-range_from b a (suc n) (inl e) = (omega arith, omega arith)
In-range_from b a (suc n) (inr h) = let r = In-range_from b (a + 1) n h in (omega arith, omega arith)
