-- Items of lists, by their numbers from 1.
use Rattle.std.proofs.Common.{◌≡◌, ℕ, zero, suc, ◌-◌, ◌<◌, ◌≤◌, ◌==◌, nat_le, Bool, true, false, cond, List, [], ◌∷◌, ◌++◌, length, slice_get, None, Some, refl, subst, arith}
use Rattle.std.specs.List.{AllByRecursion}
use Rattle.std.proofs.lemmas.Bool.{and_parts, leb-true}
use Rattle.wire_base.specs.Numbered.{numbered}
use Rattle.campaign_world.specs.Causes.{is_device}

get_there : {A : Type 0} (xs : List A) (k : ℕ) → k < length xs → (x : A) × (slice_get xs k ≡ Some x)
get_there [] k low = absurd (omega (arith, low))
get_there (x ∷ xs) zero low = (x, refl)
get_there (x ∷ xs) (suc k) low = get_there xs k (omega (arith, low))

-- each number up to the length has an item
pub numbered_up_to : {A : Type 0} (xs : List A) (n : ℕ) → 1 ≤ n → n ≤ length xs → (x : A) × (numbered xs n ≡ Some x)
numbered_up_to xs n low high =
    let there = get_there xs (n - 1) (omega (arith, low, high)) in
    let some : (n == 0) ≡ false = grind (arith, low) in
    (there.0, rw some there.1)

-- so has each that the lines may name
pub is_there : {A : Type 0} (xs : List A) (n : ℕ) → is_device (length xs) n ≡ true → (1 ≤ n) × ((x : A) × (numbered xs n ≡ Some x))
is_there xs n is =
    let parts = and_parts (nat_le 1 n) (nat_le n (length xs)) is in
    (leb-true _ _ parts.0, numbered_up_to xs n (leb-true _ _ parts.0) (leb-true _ _ parts.1))

first_by : {A : Type 0} (xs : List A) (n : ℕ) (x : A) (b : Bool) → (n == 0) ≡ b → cond b None (slice_get xs (n - 1)) ≡ Some x → 1 ≤ n
first_by xs n x true none is = absurd cc
first_by xs n x false none is = grind (arith, none)

-- none has number 0
pub number_first : {A : Type 0} (xs : List A) (n : ℕ) (x : A) → numbered xs n ≡ Some x → 1 ≤ n
number_first xs n x is = first_by xs n x (n == 0) refl is

all_get : {A : Type 0} (P : A → Type 0) (xs : List A) (n : ℕ) (x : A) → AllByRecursion P xs → slice_get xs n ≡ Some x → P x
all_get P [] n x all is = absurd cc
all_get P (y ∷ ys) zero x all is = let here : y ≡ x = cc in subst P here all.0
all_get P (y ∷ ys) (suc n) x all is = all_get P ys n x all.1 is

all_by_test : {A : Type 0} (P : A → Type 0) (xs : List A) (b : Bool) (k : ℕ) (x : A) → AllByRecursion P xs → cond b None (slice_get xs k) ≡ Some x → P x
all_by_test P xs true k x all is = absurd cc
all_by_test P xs false k x all is = all_get P xs k x all is

-- what holds of all holds of the one with a number
pub all_numbered : {A : Type 0} (P : A → Type 0) (xs : List A) (n : ℕ) (x : A) → AllByRecursion P xs → numbered xs n ≡ Some x → P x
all_numbered P xs n x all is = all_by_test P xs (n == 0) (n - 1) x all is

-- and of those of two lists, one after the other
pub all_both : {A : Type 0} (P : A → Type 0) (xs ys : List A) → AllByRecursion P xs → AllByRecursion P ys → AllByRecursion P (xs ++ ys)
all_both P [] ys one more = more
all_both P (x ∷ xs) ys one more = (one.0, all_both P xs ys one.1 more)
