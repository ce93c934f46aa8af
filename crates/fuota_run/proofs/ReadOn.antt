-- Bytes that are read are those after the ones that were read before.
use Rattle.std.proofs.Common.{◌≡◌, List, [], ℕ, ◌++◌, Option, Some, None, IsSome, Result, Ok, Err, OnOk, OnErr, IfSome, is_err, true, false, ◌<◌, length, sym, ap, subst, ◌∙◌, append-nil, append_assoc, length-append, arith}
use Rattle.std.specs.Io.KnownBytes.{Consumes, IsAtEnd}
use Rattle.fuota_run.specs.Outside.{Held, HoldsName, IsWhole, IsReadSoFar}
use Rattle.fuota_run.specs.Source.{IsSource, IsTooLong}

pub reads_on : (held : Option Held) (name xs ys : List ℕ) (before left : Option (List ℕ)) → IsReadSoFar held name xs before → Consumes before left ys → IsReadSoFar held name (xs ++ ys) left
reads_on None name xs ys before left so_far more = tt
reads_on (Some h) name xs ys None left so_far more = absurd so_far
reads_on (Some h) name xs ys (Some b) None so_far more = absurd more
reads_on (Some h) name xs ys (Some b) (Some l) so_far more =
    so_far ∙ ap (λ (s : List ℕ). Some (xs ++ s)) more ∙ ap (λ (s : List ℕ). Some s) (sym (append_assoc xs ys l))

-- nothing was read yet
pub none_read : (held : Option Held) (name : List ℕ) (left : Option (List ℕ)) → HoldsName held name → IsWhole held name left → IsReadSoFar held name [] left
none_read None name left some whole = tt
none_read (Some h) name None some whole = absurd (let none : IsSome {T = List ℕ} None = subst (λ (o : Option (List ℕ)). IsSome o) (sym whole) some in cc)
none_read (Some h) name (Some l) some whole = sym whole

-- all was read
pub all_read : (held : Option Held) (name bytes : List ℕ) (limit : ℕ) (left : Option (List ℕ)) → IsReadSoFar held name bytes left → IsAtEnd left → IsSource held name limit bytes
all_read None name bytes limit left so_far end = tt
all_read (Some h) name bytes limit None so_far end = absurd so_far
all_read (Some h) name bytes limit (Some l) so_far end =
    so_far ∙ ap (λ (s : List ℕ). Some (bytes ++ s)) end ∙ ap (λ (s : List ℕ). Some s) (append-nil bytes)

pub on_ok : {T E P : Type 0} (r : Result T E) → is_err r ≡ false → OnOk r P → P
on_ok (Ok x) ok is = is
on_ok (Err e) ok is = absurd cc

pub on_err : {T E P : Type 0} (r : Result T E) → is_err r ≡ true → OnErr r P → P
on_err (Ok x) failed is = absurd cc
on_err (Err e) failed is = is

-- more was read than the limit
pub too_long : (held : Option Held) (name bytes : List ℕ) (limit : ℕ) (left : Option (List ℕ)) → limit < length bytes → IsReadSoFar held name bytes left → IsTooLong held name limit
too_long None name bytes limit left more so_far = tt
too_long (Some h) name bytes limit None more so_far = absurd so_far
too_long (Some h) name bytes limit (Some rest) more so_far =
    subst (λ (o : Option (List ℕ)). IfSome o (λ b. limit < length b)) (sym so_far) (omega (arith, length-append bytes rest, more))
