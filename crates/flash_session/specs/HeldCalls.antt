-- What each call on a session in flash keeps, whatever it is asked.
use Rattle.std.specs.Prelude.{◌≡◌, ◌⊎◌, ℕ, List, Option, Result, OnOk, OnErr, IfOk, IfErr}
use Rattle.row_elimination.specs.Room.{Extent}
use Rattle.frag_session.specs.declared.setups.Limits.{Limits}
use Rattle.frag_session.specs.Session.{Session}
use Rattle.frag_session.specs.HeldSteps.{extent_of}
use Rattle.flash_session.specs.Contents.{SameOutside, SameWithin, Follows}
use Rattle.flash_session.specs.HeldSession.{HeldSession}
use Rattle.flash_session.specs.Lies.{NoSession}
use Rattle.flash_session.specs.Moments.{LeavesOnly}
use Rattle.flash_session.specs.Opening.{NothingForeign}
use Rattle.flash_session.specs.Replayed.{place_in, IsPlaceOf}
use Rattle.flash_session.specs.Seen.{FlashSeen, left, IsKept}
use Rattle.flash_session.specs.Serving.{FlashServes}
use Rattle.flash_session.specs.Sessions.{HeldStandsAs, CountsAs, IsHeldAs, IsHeldBut, LiesForAs}

-- what a stop leaves: the session as it was, or as it is after the call
abbrev pub OldOrNew : HeldSession → (old new : Option Session) → List ℕ → Type 0
OldOrNew h old new c = LiesForAs h old c ⊎ LiesForAs h new c

-- or none in between
abbrev pub OldNoneOrNew : HeldSession → (old new : Option Session) → List ℕ → Type 0
OldNoneOrNew h old new c = LiesForAs h old c ⊎ NoSession h.base c ⊎ LiesForAs h new c

-- A call made of a session what `after` makes of it, in a solver of so many words and bytes. At Err its memory is returned.
pub record HeldServes {Answer : Type 0} (words bytes : ℕ) (h : HeldSession) (after : Option Session → Option Session)
    (leaves : (old new : Option Session) → List ℕ → Type 0) (old new : FlashSeen)
    (result : Result (HeldSession × Answer) Extent) : Type 0 where
  -- what is held in memory stands for the session after the call, and so does its count
  pub stands : (o : Option Session) → HeldStandsAs h o → IfOk result (λ r. HeldStandsAs r.0 (after o))
  pub counted : (o : Option Session) → HeldStandsAs h o → CountsAs h o → IfOk result (λ r. CountsAs r.0 (after o))
  -- it is what a read gives, and what a stop leaves
  pub acknowledged : (o : Option Session) → IsHeldAs h o old → IfOk result (λ r. IsHeldAs r.0 (after o) new)
  -- a stop at any moment leaves only this
  pub any_moment : (o : Option Session) → IsHeldAs h o old → LeavesOnly (leaves o (after o)) old new
  -- and where the flash failed a read gives only this
  pub again : (o : Option Session) → IsHeldAs h o old → OnErr result ((b : List ℕ) → new.holds b → leaves o (after o) b)
  -- what a stop leaves as a read gives it in another range is left so
  pub others : (at n : ℕ) → Follows (SameWithin at n) old.holds (left old) → OnOk result (Follows (SameWithin at n) new.holds (left new))
  -- its place and its memory are those that they were
  pub place : IfOk result (λ r. IsPlaceOf r.0 words bytes h.base h.span h.limits (extent_of h.slot))
  pub extent : IfErr result (λ idle. idle ≡ extent_of h.slot)
  -- nothing outside its range is written
  pub serves : FlashServes (SameOutside h.base h.span) old new result

-- What is opened, whatever is there.
pub record HeldOpened (words bytes base span : ℕ) (limits : Limits) (extent : Extent) (h : HeldSession) (seen : FlashSeen) : Type 0 where
  -- it stands for the records there, except for the count
  pub held_but : (o : Option Session) × IsHeldBut h o seen
  pub nothing_foreign : (b : List ℕ) → seen.holds b → NothingForeign (place_in words bytes base span limits extent) b
  pub place : IsPlaceOf h words bytes base span limits extent
  -- a stop leaves all that a read gives, outside the range too
  pub kept : IsKept seen
