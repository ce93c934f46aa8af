-- What power at a device promises; it opens the sessions held in its flash.
use Rattle.std.specs.Prelude.{◌≡◌, ℕ, List, Result, OnOk, OnErr, MatchResult}
use Rattle.flash_session.specs.declared.fault.OpenFault.{OpenFault}
use Rattle.flash_session.specs.declared.fault.OpenFault.TheVariants as fault
use Rattle.flash_session.specs.Seen.{FlashSeen}
use Rattle.flash_session.specs.Serving.{FlashOpens}
use Rattle.session_store.specs.declared.state.CompleteFlags.{CompleteFlags}
use Rattle.session_store.specs.HeldForeign.{NoneForeign, IsForeignIn}
use Rattle.session_store.specs.HeldPlaces.{TableLies}
-- these had their file whole when the device was last up: now, or when it went down
pub use Rattle.session_store.specs.HeldStore.{HadWhole}
use Rattle.device_core.specs.Device.{DeviceState}
use Rattle.device_core.specs.HeldDevice.{HeldDevice, device_of, DeviceStands}
use Rattle.device_core.specs.HeldSessions.{IsUp, IsDown, StateIsStored, StateIsHeld, IsLaidOut}
use Rattle.device_core.specs.Power.{after_power}
use Rattle.device_core.specs.SessionTable.{SessionTable}

-- what power makes of a device and of its flash
pub record Powers {F : Type 0} (seen : F → FlashSeen)
    (old new : HeldDevice F) (result : Result (Unit {0}) OpenFault) : Type 0 where
  -- what is there for sessions is what they are after it, or the flash failed
  pub opened : (whole : CompleteFlags) → HadWhole old.sessions.state whole
      → (table : SessionTable) (b : List ℕ) → (seen new.sessions.flash).holds b → TableLies old.sessions.layout table b
      → MatchResult result
      (λ ok. DeviceStands new (after_power whole table (device_of old table))
      × StateIsStored new.sessions.state table (seen new.sessions.flash))
      (λ e. e ≡ fault.Flash)
  -- a device that was up has them as they were, and nothing of its record changes
  pub again : (device : DeviceState) → DeviceStands old device
      → StateIsHeld old.sessions.state device.sessions (seen old.sessions.flash)
      → (b : List ℕ) → (seen new.sessions.flash).holds b
      → MatchResult result
      (λ ok. DeviceStands new device
      × StateIsStored new.sessions.state device.sessions (seen new.sessions.flash))
      (λ e. e ≡ fault.Flash)
  -- nothing is written; Foreign comes exactly where the header's gate of a range is open and something there is no session's
  pub opens : FlashOpens (λ e. e) (λ ok flash. (b : List ℕ) → flash.holds b → NoneForeign old.sessions.layout b)
      (IsForeignIn old.sessions.layout) (seen old.sessions.flash) (seen new.sessions.flash) result
  pub up : OnOk result (IsUp new.sessions.state)
  -- at an error they are down, which files were whole is kept, and all but the sessions is as it was
  pub down : OnErr result (IsDown new.sessions.state)
  pub stays : (flags : CompleteFlags) → HadWhole old.sessions.state flags → OnErr result (HadWhole new.sessions.state flags)
  pub rest : OnErr result ((table : SessionTable) → device_of new table ≡ device_of old table)
  pub laid : IsLaidOut old.sessions new.sessions
