-- The sessions of a device in one flash, by their index, each in its own range (this project's profile).
use Rattle.std.specs.Prelude.{◌≡◌, ◌⊎◌, ℕ, ◌*◌, ◌<◌, ◌≤◌, ◌==◌, if◌then◌else◌, List, length, get_or, Option, Some, None, Result, OnOk, OnErr}
use Rattle.frag_session.specs.Session.{Session}
use Rattle.frag_session.specs.Setup.{Room}
use Rattle.row_elimination.specs.Room.{Extent}
use Rattle.flash_session.specs.Contents.{HasCause}
use Rattle.flash_session.specs.declared.flash.Failed.{Failed}
use Rattle.flash_session.specs.HeldSession.{HeldSession}
use Rattle.flash_session.specs.Layout.{records_place}
use Rattle.flash_session.specs.Moments.{LeavesOnly}
use Rattle.flash_session.specs.Replayed.{place_in, IsPlaceOf}
use Rattle.flash_session.specs.Seen.{FlashSeen}
use Rattle.flash_session.specs.Sessions.{LiesForAs, HeldStandsAs, CountsAs, IsHeldAs}
use Rattle.session_store.specs.declared.held_slots.Idles.{Idles}
use Rattle.session_store.specs.Size.{SizedLayout, extent_in}
use Rattle.session_store.specs.SessionTable.{SessionTable, session_at, with_session}

-- ---- where they are

-- what is held, by index, and the layout; within a call the place of one is empty
pub record HeldPlaces : Type 0 where
  pub sessions : List (Option HeldSession)
  pub layout : SizedLayout

-- a session begins there
abbrev pub IsPlace : HeldSession → SizedLayout → (base : ℕ) → Type 0
IsPlace h l base = IsPlaceOf h l.size.words l.size.bytes base l.span l.limits (extent_in l)

-- that of index i begins at i times the bytes of one
abbrev pub base_at : SizedLayout → (index : ℕ) → ℕ
base_at l index =
    if index == 0 then 0
    else if index == 1 then l.span
    else if index == 2 then 2 * l.span
    else 3 * l.span

-- one is held there, and this holds of it
abbrev pub Holding : (HeldSession → Type 0) → Option HeldSession → Type 0
Holding P None = ⊥
Holding P (Some h) = P h

-- there are four, each at its place
pub record ArePlaces (h : HeldPlaces) : Type 0 where
  pub four : length h.sessions ≡ 4
  pub each : (index : ℕ) → index < 4 → Holding (λ k. IsPlace k h.layout (base_at h.layout index)) (get_or h.sessions index None)
  pub long : records_place ≤ h.layout.span

-- a place of which nothing is known
abbrev pub place_at : SizedLayout → (base : ℕ) → HeldSession
place_at l base = place_in l.size.words l.size.bytes base l.span l.limits (extent_in l)

-- the room that each has
abbrev pub room_at : SizedLayout → Room
room_at l = record { words = l.size.words; bytes = l.size.bytes; extent = extent_in l; span = Some l.span }

-- ---- what they stand for

-- each is held, and has this to its session
pub record Each (P : HeldSession → Option Session → Type 0) (h : HeldPlaces) (table : SessionTable) : Type 0 where
  pub each : (index : ℕ) → index < 4 → Holding (λ k. P k (session_at table index)) (get_or h.sessions index None)

-- what is held in memory stands for the session, and its count too
pub record PlaceStands (h : HeldSession) (o : Option Session) : Type 0 where
  pub stands : HeldStandsAs h o
  pub counted : CountsAs h o

abbrev pub PlacesStand : HeldPlaces → SessionTable → Type 0
PlacesStand h table = Each PlaceStands h table

-- so it is what a read gives, and what a stop leaves
abbrev pub AreHeld : HeldPlaces → SessionTable → FlashSeen → Type 0
AreHeld h table seen = Each (λ k o. IsHeldAs k o seen) h table

-- the four are there, so that opening gives them
pub record TableLies (l : SizedLayout) (table : SessionTable) (c : List ℕ) : Type 0 where
  pub first : LiesForAs (place_at l 0) table.first c
  pub second : LiesForAs (place_at l l.span) table.second c
  pub third : LiesForAs (place_at l (2 * l.span)) table.third c
  pub fourth : LiesForAs (place_at l (3 * l.span)) table.fourth c

-- what a stop leaves of a call: those before it, or those after it
abbrev pub TableOldOrNew : SizedLayout → (old new : SessionTable) → List ℕ → Type 0
TableOldOrNew l old new c = TableLies l old c ⊎ TableLies l new c

-- or none at an index in between
abbrev pub TableOldNoneOrNew : SizedLayout → (index : ℕ) → (old new : SessionTable) → List ℕ → Type 0
TableOldNoneOrNew l index old new c = TableLies l old c ⊎ TableLies l (with_session old index None) c ⊎ TableLies l new c

-- ---- the memory of four

pub record AreIdle {W B : ℕ} (extent : Extent) (idles : Idles W B) : Type 0 where
  pub first : idles.first ≡ extent
  pub second : idles.second ≡ extent
  pub third : idles.third ≡ extent
  pub fourth : idles.fourth ≡ extent

-- ---- a call for one of them

-- A call made of the sessions what `after` makes of them. At Err nothing is known of the one that it was for.
pub record PlacesServe {Answer : Type 0} (after : SessionTable → SessionTable) (leaves : (old new : SessionTable) → List ℕ → Type 0)
    (was is : HeldPlaces) (old new : FlashSeen) (result : Result Answer Failed) : Type 0 where
  -- what is held in memory stands for the sessions after the call
  pub stands : (table : SessionTable) → PlacesStand was table → OnOk result (PlacesStand is (after table))
  -- they are what a read gives, and what a stop leaves
  pub stored : (table : SessionTable) → AreHeld was table old → OnOk result (AreHeld is (after table) new)
  -- a stop at any moment leaves only this
  pub any_moment : (table : SessionTable) → AreHeld was table old → LeavesOnly (leaves table (after table)) old new
  -- and where the flash failed a read gives only this
  pub again : (table : SessionTable) → AreHeld was table old → OnErr result ((b : List ℕ) → new.holds b → leaves table (after table) b)
  pub layout : is.layout ≡ was.layout
  pub size : new.room ≡ old.room
  pub cause : HasCause old.faults new.faults result
