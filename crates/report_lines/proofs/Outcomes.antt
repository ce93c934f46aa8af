-- What is said of an Ok, of an Err, and of Some.
use Rattle.std.proofs.Common.{◌≡◌, Option, None, Some, IsTrue, is_some, Result, Ok, Err, OnOk, OnErr, IsOk, refl}

-- to show it, take that it is Ok
pub on_ok : {T E : Type 0} {P : Type 0} (r : Result T E) → (IsOk r → P) → OnOk r P
on_ok (Ok x) says = says refl
on_ok (Err e) says = tt

-- and where it is Ok, it holds
pub on_ok_then : {T E : Type 0} {P : Type 0} (r : Result T E) → IsOk r → OnOk r P → P
on_ok_then (Ok x) ok holds = holds
on_ok_then (Err e) ok holds = absurd cc

-- what holds of an Err, and what follows from it
pub on_err : {T E : Type 0} {P Q : Type 0} (r : Result T E) → (P → Q) → OnErr r P → OnErr r Q
on_err (Ok x) follows holds = tt
on_err (Err e) follows holds = follows holds

-- what is there where something is
pub some_of : {A : Type 0} (o : Option A) → IsTrue (is_some o) → (x : A) × (o ≡ Some x)
some_of None there = absurd cc
some_of (Some x) there = (x, refl)
