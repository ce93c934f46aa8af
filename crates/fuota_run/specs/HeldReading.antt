-- What a call promises that reads a file to its end, or to one byte more than a limit.
use Rattle.std.specs.Prelude.{◌≡◌, ◌≢◌, ℕ, ◌+◌, ◌≤◌, Bool, true, List, Option, Result, Err, IfOk, OnOk, OnErr, IsErrOf}
use Rattle.std.specs.Io.KnownBytes.{IsAtEnd}
use Rattle.fuota_run.specs.declared.source.SourceError.{SourceError}
use Rattle.fuota_run.specs.declared.source.SourceError.TheVariants.{Failed, TooLong}
use Rattle.fuota_run.specs.Outside.{Held, HasRisen}
use Rattle.fuota_run.specs.Source.{IsTooLong, IsTaken}

-- The file of a name was read. The files are seen before and after, and what is left of the file after.
pub record ReadsSource {T : Type 0} (finds : T → Type 0) (held held_now : Option Held) (faults faults_now : ℕ)
    (left : Option (List ℕ)) (name : List ℕ) (limit : ℕ) (result : Result T SourceError) : Type 0 where
  -- at Ok this was found, and the file is at its end
  pub found : IfOk result finds
  pub end : OnOk result (IsAtEnd left)
  -- a file that is too long goes on after the limit, and one byte more than that was taken
  pub long : (taken : ℕ) → IsErrOf result (TooLong taken) → IsTooLong held name limit
  pub taken : (taken : ℕ) → IsErrOf result (TooLong taken) → taken ≡ limit + 1
  pub consumed : (taken : ℕ) → IsErrOf result (TooLong taken) → IsTaken held name taken left
  -- a fault is answered exactly where one was counted
  pub failed : IsErrOf result Failed → HasRisen faults faults_now
  pub quiet : result ≢ Err Failed → faults_now ≡ faults
  -- the files are unchanged
  pub same : held_now ≡ held

-- One piece more was read, of a file that is chosen, after which so many bytes were taken; what is seen of the files before and
-- after.
pub record ReadsPiece (before after most : ℕ) (is_chosen : Bool) (old_held new_held : Option Held) (faults faults_now : ℕ)
    (left : Option (List ℕ)) (result : Result ℕ SourceError) : Type 0 where
  pub taken : IfOk result (λ n. after ≡ before + n)
  pub within : OnOk result (after ≤ most)
  -- only at the file's end nothing more comes
  pub end : IfOk result (λ n. n ≡ 0 → IsAtEnd left)
  -- a fault is answered exactly where one was counted
  pub failed : IsErrOf result Failed → HasRisen faults faults_now
  pub quiet : result ≢ Err Failed → faults_now ≡ faults
  pub not_long : (taken : ℕ) → result ≢ Err (TooLong taken)
  -- the files are unchanged, and the file is still chosen
  pub chosen : is_chosen ≡ true
  pub held : new_held ≡ old_held

-- One piece more was heard, of at most so many bytes, of which this holds.
pub record HearsPiece {E : Type 0} (hears : ℕ → Type 0) (most : ℕ) (is_chosen : Bool) (old_held new_held : Option Held) (faults faults_now : ℕ)
    (left : Option (List ℕ)) (result : Result ℕ E) : Type 0 where
  pub heard : IfOk result hears
  pub within : IfOk result (λ n. n ≤ most)
  -- only at the file's end nothing more comes
  pub end : IfOk result (λ n. n ≡ 0 → IsAtEnd left)
  -- a fault is answered exactly where one was counted
  pub failed : OnErr result (HasRisen faults faults_now)
  pub quiet : OnOk result (faults_now ≡ faults)
  -- the files are unchanged, and the file is still chosen
  pub chosen : is_chosen ≡ true
  pub held : new_held ≡ old_held
