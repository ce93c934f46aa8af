-- What the sessions of a device are, wherever they are stored, with its flash, and for which they stand.
use Rattle.std.specs.Prelude.{◌≡◌, ℕ, ◌*◌, ◌≤◌, Bool, true, false, List, Option, Some, None, Result, OnOk, OnErr, IfOk, MatchResult, is_ok}
use Rattle.row_elimination.specs.Room.{extent_for}
use Rattle.frag_session.specs.Setup.{Room}
use Rattle.flash_session.specs.Contents.{HasCause}
use Rattle.flash_session.specs.declared.fault.OpenFault.{OpenFault}
use Rattle.flash_session.specs.declared.fault.OpenFault.TheVariants as why
use Rattle.flash_session.specs.Layout.{records_place}
use Rattle.flash_session.specs.Moments.{LeavesOnly}
use Rattle.flash_session.specs.Seen.{FlashSeen}
use Rattle.session_store.specs.declared.flash_sessions.IdleSessions.TheVariants as idle
use Rattle.session_store.specs.declared.state.State.{State}
use Rattle.session_store.specs.declared.state.State.TheVariants.{Memory, Flash, Down}
use Rattle.session_store.specs.BySize.{slots_in, places_in, idle_size, IdleFor}
pub use Rattle.session_store.specs.Size.{SizedLayout, store_room}
use Rattle.session_store.specs.Size.{Size}
use Rattle.session_store.specs.HeldPlaces.{PlacesStand, AreHeld, TableLies}
use Rattle.session_store.specs.HeldSessions.{SessionsStand}
use Rattle.session_store.specs.CompleteFlags.{flags_of, none_complete}
use Rattle.session_store.specs.declared.state.CompleteFlags.{CompleteFlags}
use Rattle.session_store.specs.declared.store.FlashFault.{FlashFault}
use Rattle.session_store.specs.SessionTable.{SessionTable}

-- the flash, how sessions are laid out there, whether they are held there, and where they are
pub record HeldStore (F : Type 0) : Type 0 where
  pub flash : F
  pub layout : SizedLayout
  pub held : Bool
  pub state : State

-- the size of a session with this room
abbrev pub size_of_room : Room → Size
size_of_room room = record { pieces = room.extent.pieces; words = room.words; bytes = room.bytes }

-- that of a field that is empty only within a call
abbrev pub kept : Option State → State
kept (Some state) = state
kept None =
    let none = extent_for 0 in
    Down (idle.Small (record { first = none; second = none; third = none; fourth = none })) none_complete

-- of which size the sessions are
abbrev pub size_in : State → Size
size_in (Memory slots) = size_of_room (slots_in slots).room
size_in (Flash slots) = (places_in slots).layout.size
size_in (Down idles flags) = idle_size idles

-- they are held in flash
abbrev pub held_in : State → Bool
held_in (Memory slots) = false
held_in (Flash slots) = true
held_in (Down idles flags) = true

-- they are there, or down until power comes
abbrev pub IsUp : State → Type 0
IsUp (Memory slots) = Unit {0}
IsUp (Flash slots) = Unit {0}
IsUp (Down idles flags) = ⊥

abbrev pub IsDown : State → Type 0
IsDown (Memory slots) = ⊥
IsDown (Flash slots) = ⊥
IsDown (Down idles flags) = Unit {0}

-- they are held in flash, whether there or down
abbrev pub IsInFlash : State → Type 0
IsInFlash (Memory slots) = ⊥
IsInFlash (Flash slots) = Unit {0}
IsInFlash (Down idles flags) = Unit {0}

-- they stand for these sessions; what is down stands for none
abbrev pub StateStands : State → SessionTable → Type 0
StateStands (Memory slots) table = SessionsStand (slots_in slots) table
StateStands (Flash slots) table = PlacesStand (places_in slots) table
StateStands (Down idles flags) table = ⊥

-- where they are held in flash they are there too
abbrev pub StateIsStored : State → SessionTable → FlashSeen → Type 0
StateIsStored (Memory slots) table seen = Unit {0}
StateIsStored (Flash slots) table seen = AreHeld (places_in slots) table seen
StateIsStored (Down idles flags) table seen = ⊥

-- these had their file whole when the device was last up: now, or when it went down
abbrev pub HadWhole : State → CompleteFlags → Type 0
HadWhole (Memory slots) whole = (table : SessionTable) × StateStands (Memory slots) table × (whole ≡ flags_of table)
HadWhole (Flash slots) whole = (table : SessionTable) × StateStands (Flash slots) table × (whole ≡ flags_of table)
HadWhole (Down idles was) whole = whole ≡ was

-- they are up in flash, and are there
abbrev pub StateIsHeld : State → SessionTable → FlashSeen → Type 0
StateIsHeld (Memory slots) table seen = ⊥
StateIsHeld (Flash slots) table seen = AreHeld (places_in slots) table seen
StateIsHeld (Down idles flags) table seen = ⊥

-- the ranges are long enough, and are within so many bytes
abbrev pub HasRanges : SizedLayout → (room : ℕ) → Type 0
HasRanges layout room = (records_place ≤ layout.span) × (4 * layout.span ≤ room)

-- where they are is as the layout says, with a flash of so many bytes
abbrev pub StateFits : SizedLayout → (room : ℕ) → State → Type 0
StateFits layout room (Memory slots) = (slots_in slots).room ≡ store_room layout false
StateFits layout room (Flash slots) = ((places_in slots).layout ≡ layout) × HasRanges layout room
StateFits layout room (Down idles flags) = IdleFor layout.area idles × HasRanges layout room

-- it is laid out as it was
pub record IsLaidOut {F : Type 0} (old new : HeldStore F) : Type 0 where
  pub layout : new.layout ≡ old.layout
  pub held : new.held ≡ old.held

-- ---- what its calls keep

-- A call made of the sessions what `after` makes of them. At Err they are down until power comes.
pub record StoreServes {F Answer : Type 0} (seen : F → FlashSeen) (after : SessionTable → SessionTable)
    (leaves : (old new : SessionTable) → List ℕ → Type 0) (old new : HeldStore F) (result : Result Answer FlashFault) : Type 0 where
  -- they stand for the sessions after the call
  pub stands : (table : SessionTable) → StateStands old.state table → OnOk result (StateStands new.state (after table))
  -- and are in the flash, where they are held there
  pub stored : (table : SessionTable) → StateIsStored old.state table (seen old.flash) → OnOk result (StateIsStored new.state (after table) (seen new.flash))
  -- a stop at any moment leaves only this
  pub any_moment : (table : SessionTable) → StateIsHeld old.state table (seen old.flash) → LeavesOnly (leaves table (after table)) (seen old.flash) (seen new.flash)
  -- and where the flash failed a read gives only this, so that power gives it
  pub again : (table : SessionTable) → StateIsHeld old.state table (seen old.flash)
      → OnErr result ((b : List ℕ) → (seen new.flash).holds b → leaves table (after table) b)
  -- they are up at Ok, in flash where they were; at Err they are down, and which files were whole is kept
  pub up : OnOk result (IsUp new.state)
  pub in_flash : IsInFlash old.state → OnOk result (IsInFlash new.state)
  pub down : (table : SessionTable) → StateStands old.state table → OnErr result ((idles : _) × (new.state ≡ Down idles (flags_of table)))
  pub laid : IsLaidOut old new
  -- no flash is called for sessions in memory
  pub quiet : old.held ≡ false → (is_ok result ≡ true) × (new.flash ≡ old.flash)
  pub size : (seen new.flash).room ≡ (seen old.flash).room
  pub cause : HasCause (seen old.flash).faults (seen new.flash).faults result

-- power came: the sessions that are in the flash are there, or they are still down
pub record StorePowers {F : Type 0} (seen : F → FlashSeen) (old new : HeldStore F) (result : Result CompleteFlags OpenFault) : Type 0 where
  -- what is there for these sessions is what they are after it, or the flash failed
  pub opened : (table : SessionTable) (b : List ℕ) → (seen new.flash).holds b → TableLies old.layout table b
      → MatchResult result (λ flags. StateStands new.state table × StateIsStored new.state table (seen new.flash)) (λ e. e ≡ why.Flash)
  -- what was there for the sessions that were held is still there, so that power at them gives them again
  pub again : (table : SessionTable) → StateIsHeld old.state table (seen old.flash) → (b : List ℕ) → (seen new.flash).holds b → TableLies old.layout table b
  -- at Ok it says which files were whole when they were last up
  pub whole : (table : SessionTable) → StateStands old.state table → IfOk result (λ flags. flags ≡ flags_of table)
  pub was : (idles : _) (flags : CompleteFlags) → old.state ≡ Down idles flags → IfOk result (λ now. now ≡ flags)
  -- at Err that is kept
  pub stays : (table : SessionTable) → StateStands old.state table → OnErr result ((idles : _) × (new.state ≡ Down idles (flags_of table)))
  pub stays_down : (idles : _) (flags : CompleteFlags) → old.state ≡ Down idles flags → OnErr result ((now : _) × (new.state ≡ Down now flags))
  pub up : OnOk result (IsUp new.state)
  pub in_flash : OnOk result (IsInFlash new.state)
  pub down : OnErr result (IsDown new.state)
  pub laid : IsLaidOut old new
