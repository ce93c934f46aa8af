-- What saving a device promises, and restoring one.
use Rattle.std.specs.Prelude.{◌≡◌, ℕ, Bool, true, false, not, IsTrue, List, Result, Ok, Err}
use Rattle.session_store.specs.declared.state.CompleteFlags.{CompleteFlags}
use Rattle.session_store.specs.declared.flash_sessions.IdleSessions.{IdleSessions}
use Rattle.session_store.specs.declared.state.State.TheVariants.{Down}
use Rattle.session_store.specs.HeldStore.{HadWhole}
use Rattle.device_core.specs.Configuration.{Configuration}
use Rattle.device_core.specs.declared.saving.RestoreError.{RestoreError}
use Rattle.device_core.specs.declared.saving.RestoreError.TheVariants.{Memory, BadConfig, Corrupt}
use Rattle.device_core.specs.Device.{DeviceState, layout_of}
use Rattle.device_core.specs.HeldDevice.{HeldDevice, DeviceStands, device_of, can_reserve}
use Rattle.device_core.specs.Saving.{saved_of, IsSaved}
use Rattle.device_core.specs.SessionTable.{SessionTable, no_sessions}

-- the bytes of the record that it stands for, or stood for before its sessions went down
abbrev pub Saves : {F : Type 0} → HeldDevice F → List ℕ → Type 0
Saves held saved = (flags : CompleteFlags) → HadWhole held.sessions.state flags
    → (table : SessionTable) → saved ≡ saved_of (device_of held table) flags

-- it has this flash, and all but its sessions is a record with these bytes and files; one whose sessions are held in flash is
-- down, and had these files whole, another has no sessions
pub record Restores {F : Type 0} (config : Configuration) (flash : F) (saved running next : List ℕ)
    (held : HeldDevice F) : Type 0 where
  pub flags : CompleteFlags
  pub saved_is : IsSaved config saved running next (device_of held no_sessions) flags
  pub flash_is : held.sessions.flash ≡ flash
  pub held_is : held.sessions.held ≡ config.held
  pub layout_is : held.sessions.layout ≡ layout_of config
  pub up : config.held ≡ false → DeviceStands held (device_of held no_sessions)
  pub down : config.held ≡ true → (idles : IdleSessions) × (held.sessions.state ≡ Down idles flags)

-- no record of the configuration has these bytes and files
abbrev pub NoneSaved : Configuration → (saved running next : List ℕ) → Type 0
NoneSaved config saved running next =
    (device : DeviceState) (flags : CompleteFlags) → IsSaved config saved running next device flags → ⊥

-- a device at its start became the one of these bytes and files, or there is none
abbrev pub Resumes : {F : Type 0} → Configuration → (flash : F) → (saved running next : List ℕ) → HeldDevice F → Bool → Type 0
Resumes config flash saved running next held true = Restores config flash saved running next held
Resumes config flash saved running next held false = NoneSaved config saved running next

-- BadConfig comes exactly as at reserve, and Corrupt exactly where no record has the bytes
abbrev pub IsRestored : {F : Type 0} → Configuration → (room : ℕ) → (flash : F) → (saved running next : List ℕ)
    → Result (HeldDevice F) RestoreError → Type 0
IsRestored config room flash saved running next (Ok held) =
    IsTrue (can_reserve config room) × Restores config flash saved running next held
IsRestored config room flash saved running next (Err BadConfig) = IsTrue (not (can_reserve config room))
IsRestored config room flash saved running next (Err Corrupt) =
    IsTrue (can_reserve config room) × NoneSaved config saved running next
IsRestored config room flash saved running next (Err Memory) = IsTrue (can_reserve config room)
