-- A source that is longer than its limit: how many of its bytes were taken.
use Rattle.std.proofs.Common.{◌≡◌, ℕ, List, length, Option, None, Some, Ok, Err, IsErrOf, refl, ap, subst}
use Rattle.fuota_run.specs.declared.source.SourceError.{SourceError}
use Rattle.fuota_run.specs.declared.source.SourceError.TheVariants as error
use Rattle.fuota_run.specs.declared.status.Status.TheVariants as status
use Rattle.fuota_run.specs.Outside.{Held, HasRisen, IsReadSoFar}
use Rattle.fuota_run.specs.Source.{IsTaken}
use Rattle.fuota_run.specs.HeldReading.{ReadsSource}
use Rattle.fuota_run.specs.Answer.{Answer}
use Rattle.fuota_run.specs.HeldAnswer.{IsUnreadAnswer}

-- which error it is
pub same_taken : {T : Type 0} (n m : ℕ) → IsErrOf {T = T} {E = SourceError} (Err (error.TooLong n)) (error.TooLong m) → n ≡ m
same_taken n m is = cc

pub failed_long : {T : Type 0} (n : ℕ) → IsErrOf {T = T} {E = SourceError} (Err error.Failed) (error.TooLong n) → ⊥
failed_long n is = cc

pub long_failed : {T : Type 0} (n : ℕ) → IsErrOf {T = T} {E = SourceError} (Err (error.TooLong n)) error.Failed → ⊥
long_failed n is = cc

pub ok_err : {T : Type 0} {x : T} {e : SourceError} → Ok x ≡ Err e → ⊥
ok_err is = cc

-- a reading that failed, where a fault was counted and the files are unchanged
pub read_failed : {T : Type 0} {finds : T → Type 0} {held now : Option Held} {faults faults_now limit : ℕ} {left : Option (List ℕ)} {name : List ℕ}
    → HasRisen faults faults_now → now ≡ held → ReadsSource finds held now faults faults_now left name limit (Err error.Failed)
read_failed risen same = record {
  found = tt;
  end = tt;
  long = λ taken is. absurd (failed_long _ is);
  taken = λ taken is. absurd (failed_long _ is);
  consumed = λ taken is. absurd (failed_long _ is);
  failed = λ is. risen;
  quiet = λ other. absurd (other refl);
  same = same;
}

-- what was read so far was taken
pub taken_so_far : (held : Option Held) (name bytes : List ℕ) (taken : ℕ) (left : Option (List ℕ)) → length bytes ≡ taken → IsReadSoFar held name bytes left → IsTaken held name taken left
taken_so_far None name bytes taken left long so_far = tt
taken_so_far (Some h) name bytes taken left long so_far = (bytes, long, so_far)

-- an answer that a source is too long comes from a source that was
pub unread_taken : (e : SourceError) (a : Answer) (Took : ℕ → Type 0) → IsUnreadAnswer e a → ((taken : ℕ) → e ≡ error.TooLong taken → Took taken) → (n : ℕ) → a.status ≡ status.TooLong n → Took n
unread_taken error.Memory a Took is took n long = absurd is
unread_taken error.Failed a Took is took n long = let s = ap (λ (x : Answer). x.status) is in absurd cc
unread_taken (error.TooLong m) a Took is took n long =
    let s = ap (λ (x : Answer). x.status) is in
    let same : m ≡ n = cc in
    subst Took same (took m refl)
