-- The receiver that is held in a part: its range, and its room.
use Rattle.std.specs.Prelude.{◌≡◌, ℕ, List, Option, Some, Result, OnErr, IfOk, IfErr}
use Rattle.frag_session.specs.Session.{Session}
use Rattle.frag_session.specs.Setup.{Room}
use Rattle.row_elimination.specs.Room.{Extent}
use Rattle.flash_session.specs.Contents.{HasCause}
use Rattle.flash_session.specs.HeldSession.{HeldSession}
use Rattle.flash_session.specs.Moments.{LeavesOnly}
use Rattle.flash_session.specs.Replayed.{place_in, IsPlaceOf}
use Rattle.flash_session.specs.Seen.{FlashSeen}
use Rattle.flash_session.specs.Sessions.{HeldStandsAs, CountsAs, IsHeldAs}
use Rattle.sample_receiver.specs.HeldReceiver.{extent, limits}

-- 24,640 bytes, and 58 for each of 513 records
abbrev pub span : ℕ
span = 54394

abbrev pub room : Room
room = record { words = 64; bytes = 768; extent = extent; span = Some span }

-- its place, of which nothing is known
abbrev pub place : HeldSession
place = place_in 64 768 0 span limits extent

abbrev pub IsReceiver : HeldSession → Type 0
IsReceiver h = IsPlaceOf h 64 768 0 span limits extent

-- what it holds in memory stands for the session, its count too
pub record ReceiverStands (h : HeldSession) (s : Option Session) : Type 0 where
  pub stands : HeldStandsAs h s
  pub counted : CountsAs h s

-- ---- a call on it

-- It made of the session what `after` makes of it.
pub record ReceiverServes {T E : Type 0} (receiver_of : T → HeldSession) (h : HeldSession) (after : Option Session → Option Session)
    (leaves : (old new : Option Session) → List ℕ → Type 0) (old new : FlashSeen) (result : Result T E) : Type 0 where
  -- in memory, and in the part
  pub stands : (s : Option Session) → ReceiverStands h s → IfOk result (λ r. ReceiverStands (receiver_of r) (after s))
  pub stored : (s : Option Session) → IsHeldAs h s old → IfOk result (λ r. IsHeldAs (receiver_of r) (after s) new)
  -- a stop at any moment leaves only this
  pub any_moment : (s : Option Session) → IsHeldAs h s old → LeavesOnly (leaves s (after s)) old new
  -- and where the part failed a read gives only this
  pub again : (s : Option Session) → IsHeldAs h s old → OnErr result ((b : List ℕ) → new.holds b → leaves s (after s) b)

-- It is still a receiver, or its memory is returned; it fails only where a fault of the part was counted.
pub record ReceiverStays {T : Type 0} (receiver_of : T → HeldSession) (old new : FlashSeen) (result : Result T Extent) : Type 0 where
  pub receiver : IfOk result (λ r. IsReceiver (receiver_of r))
  pub arena : IfErr result (λ arena. arena ≡ extent)
  pub size : new.room ≡ old.room
  pub cause : HasCause old.faults new.faults result
