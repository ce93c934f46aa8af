-- What comes with Ok.
use Rattle.std.proofs.Common.{OnOk, IfOk, Result, Ok, Err}
use Rattle.std.specs.Result.{IsErr}

-- what follows from two facts
pub OnOk_both : {T E : Type 0} {P Q R : Type 0} → (P → Q → R) → (r : Result T E) → OnOk r P → OnOk r Q → OnOk r R
OnOk_both both (Ok x) p q = both p q
OnOk_both both (Err e) p q = tt

-- what an Err tells of an Ok
pub none_ok : {T E : Type 0} (P : T → Type 0) (r : Result T E) → IsErr r → IfOk r P
none_ok P (Ok x) failed = let no : ⊥ = cc in absurd no
none_ok P (Err e) failed = tt

pub none_ok_on : {T E : Type 0} (P : Type 0) (r : Result T E) → IsErr r → OnOk r P
none_ok_on P (Ok x) failed = let no : ⊥ = cc in absurd no
none_ok_on P (Err e) failed = tt
