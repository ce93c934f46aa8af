-- Two lists that stand for one another, one by one.
use Rattle.std.proofs.Common.{◌≡◌, ℕ, ◌<◌, length, List, [], ◌∷◌, ◌++◌, None, Some, Bool, true, false, cond, ◌==◌, ◌-◌, slice_get, zero, suc, refl, sym, ap, ◌∙◌, subst, arith}
use Rattle.std.specs.List.{AllByRecursion, AllZip, slice_set, slice_index_or}
use Rattle.wire_base.specs.Numbered.{numbered}

-- the one at a place
pub zip_get : {A B : Type 0} (R : A → B → Type 0) (xs : List A) (ys : List B) (i : ℕ) (x : A) → AllZip R xs ys → i < length xs → x ≡ slice_index_or xs i x
    → (y : B) × (slice_get ys i ≡ Some y) × R x y
zip_get R [] ys i x all low is = absurd (omega arith)
zip_get R (a ∷ xs) [] i x all low is = absurd all
zip_get R (a ∷ xs) (b ∷ ys) zero x all low is = (b, refl, subst (λ z. R z b) (sym is) all.0)
zip_get R (a ∷ xs) (b ∷ ys) (suc i) x all low is = zip_get R xs ys i x all.1 (omega arith) is

-- what is found in one is found in the other, and what is not, not
pub zip_found : {A B : Type 0} (R : A → B → Type 0) (xs : List A) (ys : List B) (i : ℕ) (x : A) → AllZip R xs ys → slice_get xs i ≡ Some x
    → (y : B) × (slice_get ys i ≡ Some y) × R x y
zip_found R [] ys i x all is = absurd cc
zip_found R (a ∷ xs) [] i x all is = absurd all
zip_found R (a ∷ xs) (b ∷ ys) zero x all is = let same : a ≡ x = cc in (b, refl, subst (λ z. R z b) same all.0)
zip_found R (a ∷ xs) (b ∷ ys) (suc i) x all is = zip_found R xs ys i x all.1 is

pub zip_missed : {A B : Type 0} (R : A → B → Type 0) (xs : List A) (ys : List B) (i : ℕ) → AllZip R xs ys → slice_get xs i ≡ None → slice_get ys i ≡ None
zip_missed R [] [] i all is = refl
zip_missed R [] (b ∷ ys) i all is = absurd all
zip_missed R (a ∷ xs) [] i all is = absurd all
zip_missed R (a ∷ xs) (b ∷ ys) zero all is = absurd cc
zip_missed R (a ∷ xs) (b ∷ ys) (suc i) all is = zip_missed R xs ys i all.1 is

found_by : {A B : Type 0} (R : A → B → Type 0) (xs : List A) (ys : List B) (i : ℕ) (x : A) (b : Bool) → AllZip R xs ys
    → cond b None (slice_get xs i) ≡ Some x → (y : B) × (cond b None (slice_get ys i) ≡ Some y) × R x y
found_by R xs ys i x true all is = absurd cc
found_by R xs ys i x false all is = zip_found R xs ys i x all is

missed_by : {A B : Type 0} (R : A → B → Type 0) (xs : List A) (ys : List B) (i : ℕ) (b : Bool) → AllZip R xs ys
    → cond b None (slice_get xs i) ≡ None → cond b None (slice_get ys i) ≡ None
missed_by R xs ys i true all is = refl
missed_by R xs ys i false all is = zip_missed R xs ys i all is

pub numbered_found : {A B : Type 0} (R : A → B → Type 0) (xs : List A) (ys : List B) (n : ℕ) (x : A) → AllZip R xs ys → numbered xs n ≡ Some x
    → (y : B) × (numbered ys n ≡ Some y) × R x y
numbered_found R xs ys n x all is = found_by R xs ys (n - 1) x (n == 0) all is

pub numbered_missed : {A B : Type 0} (R : A → B → Type 0) (xs : List A) (ys : List B) (n : ℕ) → AllZip R xs ys → numbered xs n ≡ None → numbered ys n ≡ None
numbered_missed R xs ys n all is = missed_by R xs ys (n - 1) (n == 0) all is

-- one more
pub zip_more : {A B : Type 0} (R : A → B → Type 0) (xs : List A) (ys : List B) (x : A) (y : B) → AllZip R xs ys → R x y → AllZip R (xs ++ x ∷ []) (ys ++ y ∷ [])
zip_more R [] [] x y all one = (one, tt)
zip_more R [] (b ∷ ys) x y all one = absurd all
zip_more R (a ∷ xs) [] x y all one = absurd all
zip_more R (a ∷ xs) (b ∷ ys) x y all one = (all.0, zip_more R xs ys x y all.1 one)

pub zip_long : {A B : Type 0} (R : A → B → Type 0) (xs : List A) (ys : List B) → AllZip R xs ys → length ys ≡ length xs
zip_long R [] [] all = refl
zip_long R [] (b ∷ ys) all = absurd all
zip_long R (a ∷ xs) [] all = absurd all
zip_long R (a ∷ xs) (b ∷ ys) all = let more = zip_long R xs ys all.1 in cc

-- another one at a place, that stands for the same
pub zip_put : {A B : Type 0} (R : A → B → Type 0) (xs : List A) (ys : List B) (i : ℕ) (x : A) → AllZip R xs ys
    → ((y : B) → slice_get ys i ≡ Some y → R x y) → AllZip R (slice_set xs i x) ys
zip_put R [] ys i x all one = all
zip_put R (a ∷ xs) [] i x all one = absurd all
zip_put R (a ∷ xs) (b ∷ ys) zero x all one = (one b refl, all.1)
zip_put R (a ∷ xs) (b ∷ ys) (suc i) x all one = (all.0, zip_put R xs ys i x all.1 one)

pub zip_set : {A B : Type 0} (R : A → B → Type 0) (xs : List A) (ys : List B) (i : ℕ) (x : A) (y : B) → AllZip R xs ys → R x y → AllZip R (slice_set xs i x) (slice_set ys i y)
zip_set R [] [] i x y all one = tt
zip_set R [] (b ∷ ys) i x y all one = absurd all
zip_set R (a ∷ xs) [] i x y all one = absurd all
zip_set R (a ∷ xs) (b ∷ ys) zero x y all one = (one, all.1)
zip_set R (a ∷ xs) (b ∷ ys) (suc i) x y all one = (all.0, zip_set R xs ys i x y all.1 one)

-- the two at a place
pub zip_at : {A B : Type 0} (R : A → B → Type 0) (xs : List A) (ys : List B) (i : ℕ) (x : A) (y : B) → AllZip R xs ys → x ≡ slice_index_or xs i x → i < length xs → slice_get ys i ≡ Some y → R x y
zip_at R xs ys i x y all is low there =
    let one = zip_get R xs ys i x all low is in
    let same : one.0 ≡ y = cc in
    subst (λ z. R x z) same one.2

pub zip_some : {A B : Type 0} (R : A → B → Type 0) (xs : List A) (ys : List B) (i : ℕ) → AllZip R xs ys → i < length xs → (y : B) × (slice_get ys i ≡ Some y)
zip_some R [] ys i all low = absurd (omega arith)
zip_some R (a ∷ xs) [] i all low = absurd all
zip_some R (a ∷ xs) (b ∷ ys) zero all low = (b, refl)
zip_some R (a ∷ xs) (b ∷ ys) (suc i) all low = zip_some R xs ys i all.1 (omega arith)

-- the one for which another stands
pub zip_back : {A B : Type 0} (R : A → B → Type 0) (xs : List A) (ys : List B) (i : ℕ) (y : B) → AllZip R xs ys → slice_get ys i ≡ Some y → (x : A) × R x y
zip_back R [] [] i y all is = absurd cc
zip_back R [] (b ∷ ys) i y all is = absurd all
zip_back R (a ∷ xs) [] i y all is = absurd all
zip_back R (a ∷ xs) (b ∷ ys) zero y all is = let same : b ≡ y = cc in (a, subst (λ z. R a z) same all.0)
zip_back R (a ∷ xs) (b ∷ ys) (suc i) y all is = zip_back R xs ys i y all.1 is

-- ---- one list

pub all_more : {A : Type 0} (P : A → Type 0) (xs : List A) (x : A) → AllByRecursion P xs → P x → AllByRecursion P (xs ++ x ∷ [])
all_more P [] x all one = (one, tt)
all_more P (a ∷ xs) x all one = (all.0, all_more P xs x all.1 one)

pub long_set : {A : Type 0} (xs : List A) (i : ℕ) (x : A) → length (slice_set xs i x) ≡ length xs
long_set [] i x = refl
long_set (a ∷ xs) zero x = refl
long_set (a ∷ xs) (suc i) x = let more = long_set xs i x in cc

-- what is as it was, written back, changes nothing
pub same_set : {A : Type 0} (xs : List A) (i : ℕ) (new old : A) → new ≡ old → old ≡ slice_index_or xs i old → slice_set xs i new ≡ xs
same_set [] i new old same is = refl
same_set (x ∷ xs) zero new old same is = let first : new ≡ x = same ∙ is in rw (first) refl
same_set (x ∷ xs) (suc i) new old same is = ap (λ ys. x ∷ ys) (same_set xs i new old same is)

-- so it is of the one that is found there
pub set_there : {A : Type 0} (xs : List A) (i : ℕ) (x : A) → slice_get xs i ≡ Some x → slice_set xs i x ≡ xs
set_there [] i x there = refl
set_there (a ∷ xs) zero x there = let same : a ≡ x = cc in rw (same) refl
set_there (a ∷ xs) (suc i) x there = ap (λ ys. a ∷ ys) (set_there xs i x there)
