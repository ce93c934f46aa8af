-- Runs of reads.
use Rattle.std.proofs.Common.{◌≡◌, ℕ, ◌+◌, ◌≤◌, Bool, true, false, List, Option, Some, None, MatchOption, IfOk, IfErr, OnOk, OnErr, Result, Ok, Err, sym, subst, ◌∙◌, arith}
use Rattle.std.specs.Bool.{MatchBool}
use Rattle.flash_session.specs.Contents.{Same, Follows, HasRisen, HasCause}
use Rattle.flash_session.specs.Gates.{AreOpen, AreShut}
use Rattle.flash_session.specs.Moments.{Elapses}
use Rattle.flash_session.specs.Seen.{FlashSeen, IsKept}
use Rattle.flash_session.proofs.Runs.{one_more, follows_joined, same_after, same_stays}

pub same_joined : {a b c : List ℕ → Type 0} → Follows Same a b → Follows Same b c → Follows Same a c
same_joined {a} {b} {c} = follows_joined same_after

pub same_self : (a : List ℕ → Type 0) → Follows Same a a
same_self a = record { from = λ c now. (c, now, same_stays c) }

-- nothing is written by a run of reads
pub elapsed : {old mid new : FlashSeen} → Elapses Same old mid → Elapses Same mid new → Elapses Same old new
elapsed {old} {mid} {new} = one_more (λ c d s. s) same_after

-- gates that are shut still are
pub shut_kept : (holds0 holds : List ℕ → Type 0) (at from k : ℕ) → AreShut holds0 at from k → Follows Same holds0 holds → AreShut holds at from k
shut_kept holds0 holds at from k shut follows = record {
  shut = λ b held j le lt is. let before = follows.from b held in shut.shut before.0 before.1 j le lt (sym (before.2.all (at + j)) ∙ is);
}

-- and gates that are open
pub open_kept : (holds0 holds : List ℕ → Type 0) (at from k : ℕ) → AreOpen holds0 at from k → Follows Same holds0 holds → AreOpen holds at from k
open_kept holds0 holds at from k opened follows = record {
  opened = λ b held j le lt. let before = follows.from b held in before.2.all (at + j) ∙ opened.opened before.0 before.1 j le lt;
}

-- a count that rose in the last call rose
pub risen_behind : (m n o : ℕ) → m ≤ n → HasRisen n o → HasRisen m o
risen_behind m n o before risen = omega (arith, before, risen)

-- and so did that of a run whose last call failed
pub cause_behind : {T E : Type 0} {m n o : ℕ} (r : Result T E) → m ≤ n → HasCause n o r → HasCause m o r
cause_behind {T} {E} {m} {n} {o} (Ok x) before cause = record { later = omega (arith, before, cause.later); failed = tt }
cause_behind {T} {E} {m} {n} {o} (Err e) before cause = record { later = omega (arith, before, cause.later); failed = risen_behind m n o before cause.failed }

pub found_some : {A : Type 0} (P : Type 0) (Q : A → Type 0) (o : Option A) (k : A) → o ≡ Some k → MatchOption o P Q → Q k
found_some {A} P Q o k is found = subst (λ (x : Option A). MatchOption x P Q) is found

pub found_none : {A : Type 0} (P : Type 0) (Q : A → Type 0) (o : Option A) → o ≡ None → MatchOption o P Q → P
found_none {A} P Q o is found = subst (λ (x : Option A). MatchOption x P Q) is found

pub found_true : (P Q : Type 0) (b : Bool) → b ≡ true → MatchBool b P Q → P
found_true P Q b is found = subst (λ (x : Bool). MatchBool x P Q) is found

pub found_false : (P Q : Type 0) (b : Bool) → b ≡ false → MatchBool b P Q → Q
found_false P Q b is found = subst (λ (x : Bool). MatchBool x P Q) is found

-- what holds at an Err
pub on_err : {T E : Type 0} {P Q : E → Type 0} → ((e : E) → P e → Q e) → (r : Result T E) → IfErr r P → IfErr r Q
on_err to (Ok x) p = tt
on_err to (Err e) p = to e p

pub on_ok : {T E : Type 0} {P Q : T → Type 0} → ((x : T) → P x → Q x) → (r : Result T E) → IfOk r P → IfOk r Q
on_ok to (Ok x) p = to x p
on_ok to (Err e) p = tt

pub on_err_to : {T E : Type 0} {X Y : Type 0} → (X → Y) → (r : Result T E) → OnErr r X → OnErr r Y
on_err_to to (Ok x) p = tt
on_err_to to (Err e) p = to p

pub on_err_any : {T E : Type 0} {P : Type 0} → P → (r : Result T E) → OnErr r P
on_err_any p (Ok x) = tt
on_err_any p (Err e) = p

pub on_ok_any : {T E : Type 0} {P : Type 0} → P → (r : Result T E) → OnOk r P
on_ok_any p (Ok x) = p
on_ok_any p (Err e) = tt

-- what a stop leaves stays what a read gives, while nothing is written
pub kept_reads : {old new : FlashSeen} → IsKept old → Follows Same new.holds old.holds → Elapses Same old new → IsKept new
kept_reads {old} {new} kept stays elapses = record {
  from = λ c now.
      let d = elapses.last c now in
      let e = kept.from d.0 d.1 in
      let f = stays.from e.0 e.1 in
      (f.0, f.1, same_after f.0 e.0 c f.2 (same_after e.0 d.0 c e.2 d.2));
}

-- what holds at an Ok, and what an Ok promises
pub if_ok_both : {T E : Type 0} {P Q : T → Type 0} {X Y : Type 0} → ((x : T) → P x → (X → Y) → Q x) → (r : Result T E) → IfOk r P → (X → OnOk r Y) → IfOk r Q
if_ok_both to (Ok x) p q = to x p q
if_ok_both to (Err e) p q = tt
