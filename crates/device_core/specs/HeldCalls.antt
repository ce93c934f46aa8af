-- What calls of a device promise of its flash, besides what they do to the record.
use Rattle.std.specs.Prelude.{◌≡◌, ◌⊎◌, ℕ, ◌≤◌, true, false, List, ◌∷◌, ◌++◌, Result, Ok, is_ok, OnOk, OnErr}
use Rattle.wire_base.specs.declared.refusal.Direction.TheVariants as direction
use Rattle.package_grammar.specs.declared.command.Command.{Command}
use Rattle.package_grammar.specs.declared.downlink.Downlink.{Downlink}
use Rattle.package_grammar.specs.Reading.{Reading, reading_of}
use Rattle.flash_session.specs.Contents.{HasCause}
use Rattle.flash_session.specs.Moments.{LeavesOnly}
use Rattle.flash_session.specs.Seen.{FlashSeen, left}
use Rattle.session_store.specs.declared.flash_sessions.IdleSessions.{IdleSessions}
use Rattle.session_store.specs.declared.store.FlashFault.{FlashFault}
use Rattle.session_store.specs.declared.state.State.TheVariants.{Down}
use Rattle.session_store.specs.HeldPlaces.{TableLies}
use Rattle.session_store.specs.CompleteFlags.{flags_of}
use Rattle.device_core.specs.declared.arrival.Arrival.{Arrival}
use Rattle.device_core.specs.declared.delivered.Delivered.{Delivered}
use Rattle.device_core.specs.declared.delivered.Delivered.TheVariants.{Done}
use Rattle.device_core.specs.declared.delivered.Delivered.TheVariants as answer
use Rattle.device_core.specs.Deliver.{Outcome, arrival, delivery}
use Rattle.device_core.specs.Device.{DeviceState}
use Rattle.device_core.specs.Firmware.{after_due_reboot}
use Rattle.device_core.specs.HeldDevice.{HeldDevice, device_of, DeviceStands}
use Rattle.device_core.specs.HeldSessions.{HeldStore, IsUp, IsInFlash, StateStands, StateIsStored, StateIsHeld, IsLaidOut}
use Rattle.device_core.specs.Passed.{LiesOneOf}
use Rattle.device_core.specs.Radio.{brought}
use Rattle.device_core.specs.SessionTable.{SessionTable}
use Rattle.device_core.specs.Step.{after_commands}

-- ---- what a stop leaves

-- what a stop might leave now is what it might have left before, or has P
pub record LeavesBesides (P : List ℕ → Type 0) (old new : FlashSeen) : Type 0 where
  pub later : old.moment ≤ new.moment
  pub earlier : (t : ℕ) (c : List ℕ) → t ≤ old.moment → new.since t c → old.since t c ⊎ P c
  -- at the moment now
  pub last : (c : List ℕ) → left new c → left old c ⊎ P c

-- sessions that are stored are stored as this call leaves the record
abbrev pub StaysStored : {F : Type 0} → (seen : F → FlashSeen)
    → (old new : HeldDevice F) → (DeviceState → DeviceState) → Type 0
StaysStored seen old new after = (device : DeviceState) → DeviceStands old device
    → StateIsStored old.sessions.state device.sessions (seen old.sessions.flash)
    → StateIsStored new.sessions.state (after device).sessions (seen new.sessions.flash)

-- a stop at any moment leaves the sessions that are held as they were, or as one of these tables
abbrev pub LeavesPassed : {F : Type 0} → (seen : F → FlashSeen)
    → (old new : HeldDevice F) → (DeviceState → List SessionTable) → Type 0
LeavesPassed seen old new tables = (device : DeviceState) → DeviceStands old device
    → StateIsHeld old.sessions.state device.sessions (seen old.sessions.flash)
    → LeavesOnly
    (λ c. TableLies old.sessions.layout device.sessions c ⊎ LiesOneOf old.sessions.layout (tables device) c)
    (seen old.sessions.flash) (seen new.sessions.flash)

-- a read gives the sessions that were held as they were, or as one of these tables
abbrev pub GivesPassed : {F : Type 0} → (seen : F → FlashSeen)
    → (old new : HeldDevice F) → (DeviceState → List SessionTable) → Type 0
GivesPassed seen old new tables = (device : DeviceState) → DeviceStands old device
    → StateIsHeld old.sessions.state device.sessions (seen old.sessions.flash)
    → (b : List ℕ) → (seen new.sessions.flash).holds b
    → TableLies old.sessions.layout device.sessions b ⊎ LiesOneOf old.sessions.layout (tables device) b

-- ---- a call that may fail

-- the sessions went down, and all else is as it was
pub record Fails {F : Type 0} (old new : HeldDevice F) : Type 0 where
  pub down : (table : SessionTable) → StateStands old.sessions.state table
      → (idles : IdleSessions) × (new.sessions.state ≡ Down idles (flags_of table))
  pub rest : (table : SessionTable) → device_of new table ≡ device_of old table

-- what its flash holds and may be left with, and why it failed: after Ok the sessions are stored as they are then
pub record Keeps {F A : Type 0} (seen : F → FlashSeen)
    (old : HeldDevice F) (new : HeldStore F) (result : Result A FlashFault)
    (after : DeviceState → DeviceState) (tables : DeviceState → List SessionTable) : Type 0 where
  pub up : OnOk result (IsUp new.state)
  pub in_flash : IsInFlash old.sessions.state → OnOk result (IsInFlash new.state)
  pub stored : (device : DeviceState) → DeviceStands old device
      → StateIsStored old.sessions.state device.sessions (seen old.sessions.flash)
      → OnOk result (StateIsStored new.state (after device).sessions (seen new.flash))
  pub moments : (device : DeviceState) → DeviceStands old device
      → StateIsHeld old.sessions.state device.sessions (seen old.sessions.flash)
      → LeavesBesides (LiesOneOf old.sessions.layout (tables device)) (seen old.sessions.flash) (seen new.flash)
  -- where the flash failed a read gives one of these tables, so that power gives it
  pub again : (device : DeviceState) → DeviceStands old device
      → StateIsHeld old.sessions.state device.sessions (seen old.sessions.flash)
      → OnErr result ((b : List ℕ) → (seen new.flash).holds b → LiesOneOf old.sessions.layout (tables device) b)
  pub laid : IsLaidOut old.sessions new
  pub quiet : old.sessions.held ≡ false → (is_ok result ≡ true) × (new.flash ≡ old.sessions.flash)
  pub cause : HasCause (seen old.sessions.flash).faults (seen new.flash).faults result

-- ---- where a payload's commands stopped

-- the flash failed at one command: those before it have acted; it made no uplink, and those after it did not act
pub record FailsAt {F : Type 0} (here : Arrival) (device : DeviceState) (cs : List Command) (new : HeldDevice F) : Type 0 where
  pub front : List Command
  pub failing : Command
  pub behind : List Command
  pub parted : cs ≡ front ++ failing ∷ behind
  pub rest : (table : SessionTable) → device_of new table ≡ record (after_commands here device front) { sessions = table }
  pub down : (idles : IdleSessions) × (new.sessions.state ≡ Down idles (flags_of (after_commands here device front).sessions))

-- what was read of it would have acted, and the flash failed at one of its commands
pub record FailsIn {F : Type 0} (made : Outcome Delivered) (here : Arrival) (device : DeviceState) (reading : Reading)
    (new : HeldDevice F) : Type 0 where
  pub commands : List Command
  pub read : reading ≡ Ok commands
  pub acts : made.answer ≡ Done
  pub fails : FailsAt here device commands new

-- of a payload that would have acted: a reboot that was due is carried out before it, and none after
abbrev pub FailsWithin : {F : Type 0} → (t word mark : ℕ) → Downlink → DeviceState → HeldDevice F → Type 0
FailsWithin t word mark down device new =
    let before = after_due_reboot t device in
    FailsIn (delivery t word mark down device) (arrival t word mark down before) before
    (reading_of down.port direction.Down down.payload) new

-- of bytes that brought a payload: the same
pub record FailsOnAir {F : Type 0} (t word mark : ℕ) (bytes : List ℕ) (device : DeviceState) (new : HeldDevice F) : Type 0 where
  pub down : Downlink
  pub came : brought device bytes ≡ Ok down
  pub fails : FailsWithin t word mark down device new

-- an answer of a device that is up, whose flash did not fail
abbrev pub IsPlain : Delivered → Type 0
IsPlain answer.FlashFault = ⊥
IsPlain answer.Down = ⊥
IsPlain delivered = Unit {0}
