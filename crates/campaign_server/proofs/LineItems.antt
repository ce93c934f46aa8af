-- Items of a list, counted from 1, where it grows or one of them changes; and the lines that are still to be read.
use Rattle.std.proofs.Common.{◌≡◌, ◌⊎◌, inl, inr, ℕ, zero, suc, ◌+◌, ◌-◌, ◌<◌, ◌≤◌, Bool, true, false, cond, ◌==◌, List, [], ◌∷◌, ◌++◌, length, take, drop, slice_get, Option, None, Some, IfSome, refl, sym, ap, ◌∙◌, subst, arith, ne_eqb}
use Rattle.std.specs.List.{slice_set}
use Rattle.wire_base.specs.Numbered.{numbered}

-- ---- what is there

pub if_some : {A : Type 0} (P : A → Type 0) (o : Option A) (x : A) → o ≡ Some x → IfSome o P → P x
if_some P None x is h = absurd cc
if_some P (Some y) x is h = let same : y ≡ x = cc in subst P same h

pub some_is : {A : Type 0} (P : A → Type 0) (o : Option A) (x : A) → o ≡ Some x → P x → IfSome o P
some_is P o x is h = subst (λ o. IfSome o P) (sym is) h

pub some_weaker : {A : Type 0} (P Q : A → Type 0) (o : Option A) → ((x : A) → P x → Q x) → IfSome o P → IfSome o Q
some_weaker P Q None f h = tt
some_weaker P Q (Some x) f h = f x h

none_by : {A : Type 0} (xs : List A) (b : Bool) (k : ℕ) → xs ≡ [] → cond b None (slice_get xs k) ≡ None
none_by xs true k none = refl
none_by [] false k none = refl
none_by (x ∷ xs) false k none = absurd cc

pub none_there : {A : Type 0} (xs : List A) (n : ℕ) → xs ≡ [] → numbered xs n ≡ None
none_there xs n none = none_by xs (n == 0) (n - 1) none

-- ---- a list that goes on

get_more : {A : Type 0} (xs ys : List A) (n : ℕ) (x : A) → slice_get xs n ≡ Some x → slice_get (xs ++ ys) n ≡ Some x
get_more [] ys n x is = absurd cc
get_more (z ∷ xs) ys zero x is = is
get_more (z ∷ xs) ys (suc n) x is = get_more xs ys n x is

more_by : {A : Type 0} (xs ys : List A) (b : Bool) (k : ℕ) (x : A) → cond b None (slice_get xs k) ≡ Some x
    → cond b None (slice_get (xs ++ ys) k) ≡ Some x
more_by xs ys true k x is = absurd cc
more_by xs ys false k x is = get_more xs ys k x is

-- an item that is there stays
pub numbered_more : {A : Type 0} (xs ys : List A) (n : ℕ) (x : A) → numbered xs n ≡ Some x
    → numbered (xs ++ ys) n ≡ Some x
numbered_more xs ys n x is = more_by xs ys (n == 0) (n - 1) x is

-- one item more: what is at a place is what was there, or the new item where nothing was
abbrev IsPushed : {A : Type 0} → (old new : Option A) → A → (at end : ℕ) → Type 0
IsPushed old new y at end = (new ≡ old) ⊎ ((old ≡ None) × (new ≡ Some y) × (at ≡ end))

get_push : {A : Type 0} (xs : List A) (y : A) (k : ℕ)
    → IsPushed (slice_get xs k) (slice_get (xs ++ y ∷ []) k) y k (length xs)
get_push [] y zero = inr (refl, refl, refl)
get_push [] y (suc k) = inl refl
get_push (x ∷ xs) y zero = inl refl
get_push (x ∷ xs) y (suc k) = elim (get_push xs y k) [
  | inl same ↦ inl same
  | inr new ↦ inr (new.0, new.1, omega (arith, new.2))
]

push_by : {A : Type 0} (xs : List A) (y : A) (n : ℕ) (b : Bool) → (n == 0) ≡ b
    → IsPushed (cond b None (slice_get xs (n - 1))) (cond b None (slice_get (xs ++ y ∷ []) (n - 1))) y n (length xs + 1)
push_by xs y n true is = inl refl
push_by xs y n false is = elim (get_push xs y (n - 1)) [
  | inl same ↦ inl same
  | inr new ↦ inr (new.0, new.1, some n is new.2)
]
  where
    some : (n : ℕ) → (n == 0) ≡ false → n - 1 ≡ length xs → n ≡ length xs + 1
    some zero is same = absurd cc
    some (suc n) is same = omega (arith, same)

pub numbered_push : {A : Type 0} (xs : List A) (y : A) (n : ℕ)
    → IsPushed (numbered xs n) (numbered (xs ++ y ∷ []) n) y n (length xs + 1)
numbered_push xs y n = push_by xs y n (n == 0) refl

-- ---- another item at a place

get_put : {A : Type 0} (xs : List A) (n k : ℕ) (y : A)
    → (k ≡ n) ⊎ (slice_get (slice_set xs n y) k ≡ slice_get xs k)
get_put [] n k y = inr refl
get_put (x ∷ xs) zero zero y = inl refl
get_put (x ∷ xs) zero (suc k) y = inr refl
get_put (x ∷ xs) (suc n) zero y = inr refl
get_put (x ∷ xs) (suc n) (suc k) y = elim (get_put xs n k y) [ inl is ↦ inl (ap suc is) | inr is ↦ inr is ]

put_by : {A : Type 0} (xs : List A) (n k : ℕ) (y : A) (b : Bool) → (k == 0) ≡ b → 1 ≤ n
    → (k ≡ n) ⊎ (cond b None (slice_get (slice_set xs (n - 1) y) (k - 1)) ≡ cond b None (slice_get xs (k - 1)))
put_by xs n k y true is first = inr refl
put_by xs n k y false is first = elim (get_put xs (n - 1) (k - 1) y) [
  | inl same ↦ inl (some k is same)
  | inr same ↦ inr same
]
  where
    some : (k : ℕ) → (k == 0) ≡ false → k - 1 ≡ n - 1 → k ≡ n
    some zero is same = absurd cc
    some (suc k) is same = omega (arith, same, first)

-- the other items stay
pub numbered_put : {A : Type 0} (xs : List A) (n k : ℕ) (y : A) → 1 ≤ n
    → (k ≡ n) ⊎ (numbered (slice_set xs (n - 1) y) k ≡ numbered xs k)
numbered_put xs n k y first = put_by xs n k y (k == 0) refl first

get_there : {A : Type 0} (xs : List A) (n : ℕ) (x y : A) → slice_get xs n ≡ Some x
    → slice_get (slice_set xs n y) n ≡ Some y
get_there [] n x y is = absurd cc
get_there (z ∷ xs) zero x y is = refl
get_there (z ∷ xs) (suc n) x y is = get_there xs n x y is

there_by : {A : Type 0} (xs : List A) (k : ℕ) (x y : A) (b : Bool) → cond b None (slice_get xs k) ≡ Some x
    → cond b None (slice_get (slice_set xs k y) k) ≡ Some y
there_by xs k x y true is = absurd cc
there_by xs k x y false is = get_there xs k x y is

-- and the new one is there
pub numbered_there : {A : Type 0} (xs : List A) (n : ℕ) (x y : A) → numbered xs n ≡ Some x
    → numbered (slice_set xs (n - 1) y) n ≡ Some y
numbered_there xs n x y is = there_by xs (n - 1) x y (n == 0) is

-- ---- lines

-- the item after the first n
get_next : {A : Type 0} (xs : List A) (n : ℕ) (x : A) (rest : List A) → drop n xs ≡ x ∷ rest
    → (slice_get xs n ≡ Some x) × (drop (suc n) xs ≡ rest)
get_next [] zero x rest is = absurd cc
get_next [] (suc n) x rest is = absurd cc
get_next (y ∷ ys) zero x rest is = (cc, cc)
get_next (y ∷ ys) (suc n) x rest is = get_next ys n x rest is

pub numbered_next : {A : Type 0} (xs : List A) (n : ℕ) (x : A) (rest : List A) → drop n xs ≡ x ∷ rest
    → (numbered xs (n + 1) ≡ Some x) × (drop (n + 1) xs ≡ rest)
numbered_next xs n x rest is =
    let r = get_next xs n x rest is in
    let one : n + 1 ≡ suc n = omega arith in
    let back : (n + 1) - 1 ≡ n = omega arith in
    let some : (n + 1 == 0) ≡ false = ne_eqb (n + 1) 0 (omega arith) in (
      ap (λ (b : Bool). cond b None (slice_get xs ((n + 1) - 1))) some ∙ ap (slice_get xs) back ∙ r.0,
      ap (λ (k : ℕ). drop k xs) one ∙ r.1,
    )

-- the first n, and the item after them
pub take_next : {A : Type 0} (xs : List A) (n : ℕ) (x : A) (rest : List A) → drop n xs ≡ x ∷ rest
    → take (suc n) xs ≡ take n xs ++ x ∷ []
take_next [] zero x rest is = absurd cc
take_next [] (suc n) x rest is = absurd cc
take_next (y ∷ ys) zero x rest is = cc
take_next (y ∷ ys) (suc n) x rest is = ap (λ (zs : List _). y ∷ zs) (take_next ys n x rest is)

-- an item that is there is one of the list
get_within : {A : Type 0} (xs : List A) (k : ℕ) (x : A) → slice_get xs k ≡ Some x → k < length xs
get_within [] k x is = absurd cc
get_within (y ∷ ys) zero x is = omega arith
get_within (y ∷ ys) (suc k) x is = let r = get_within ys k x is in omega (arith, r)

within_by : {A : Type 0} (xs : List A) (n : ℕ) (x : A) (b : Bool) → cond b None (slice_get xs (n - 1)) ≡ Some x
    → n ≤ length xs
within_by xs n x true is = absurd cc
within_by xs n x false is = let r = get_within xs (n - 1) x is in omega (arith, r)

pub within : {A : Type 0} (xs : List A) (n : ℕ) (x : A) → numbered xs n ≡ Some x → n ≤ length xs
within xs n x is = within_by xs n x (n == 0) is
