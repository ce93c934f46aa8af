-- What every call on a flash keeps, and what a call tells that reads it.
use Rattle.std.specs.Prelude.{◌≡◌, ℕ, ◌≤◌, List, Result, OnOk, OnErr, IfOk, IfErr}
use Rattle.flash_session.specs.Contents.{Same, Follows, HasRisen, HasCause}
use Rattle.flash_session.specs.Moments.{Elapses}
use Rattle.flash_session.specs.Seen.{FlashSeen, left, IsKept}
use Rattle.flash_session.specs.declared.fault.OpenFault.{OpenFault}
use Rattle.flash_session.specs.declared.fault.OpenFault.TheVariants as why

-- a call took a flash from one moment to another, by a step on its bytes
pub record FlashServes {T E : Type 0} (step : List ℕ → List ℕ → Type 0) (old new : FlashSeen) (result : Result T E) : Type 0 where
  -- what is held is what was held, after the step
  pub held : Follows step old.holds new.holds
  -- and so is what a stop may leave, at any moment
  pub stops : Elapses step old new
  -- it has as many bytes as it had
  pub size : new.room ≡ old.room
  -- it fails only where a fault was counted
  pub cause : HasCause old.faults new.faults result
  -- after a failure a read gives what a stop at this moment might leave
  pub torn : OnErr result (Follows Same (left new) new.holds)

-- nothing was written, and what is read tells this of what is held
pub record FlashReads {T E : Type 0} (tells : T → (List ℕ → Type 0) → Type 0) (old new : FlashSeen) (result : Result T E) : Type 0 where
  pub told : IfOk result (λ x. tells x new.holds)
  -- all that was held is held still
  pub stays : Follows Same new.holds old.holds
  pub serves : FlashServes Same old new result

-- nothing was written, and this is found there, or a place is foreign, or the flash failed
pub record FlashOpens {T E : Type 0} (fault_of : E → OpenFault) (finds : T → FlashSeen → Type 0)
    (names : List ℕ → (place : ℕ) → Type 0) (old new : FlashSeen) (result : Result T E) : Type 0 where
  pub found : IfOk result (λ x. finds x new)
  pub foreign : IfErr result (λ e. (p : ℕ) → fault_of e ≡ why.Foreign p → (b : List ℕ) → new.holds b → names b p)
  -- where all was synced it still is
  pub kept : IsKept old → OnOk result (IsKept new)
  pub held : Follows Same old.holds new.holds
  pub stops : Elapses Same old new
  pub size : new.room ≡ old.room
  pub later : old.faults ≤ new.faults
  pub fault : IfErr result (λ e. fault_of e ≡ why.Flash → HasRisen old.faults new.faults)
