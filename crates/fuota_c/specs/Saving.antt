-- What a device saves for C, and the device that is restored from such bytes.
use Rattle.std.specs.Prelude.{◌≡◌, ◌⊎◌, ℕ, Bool, true, false, List, Option, Some, None}
use Rattle.flash_session.specs.Flashes.{Cells}
use Rattle.device_core.specs.Configuration.{Configuration}
use Rattle.device_core.specs.HeldDevice.{HeldDevice}
use Rattle.device_core.specs.HeldSaving.{Saves, Restores, NoneSaved}
use Rattle.c_base.specs.Answer.{done, range, no_memory, corrupt}
use Rattle.c_base.specs.Bytes.{Whole}
use Rattle.fuota_c.specs.Device.{Parts, CanMake, CanNotMake, OfSize}

-- the bytes of a device go to the front of what was written over, where they have room
pub record SavesTo (x : HeldDevice Cells) (old new : List ℕ) (n : ℕ) : Type 0 where
  pub bytes : List ℕ
  pub saved : Saves x bytes
  pub put : Whole bytes old new n

-- the device that has these bytes and files, over a flash of those bytes
pub record IsBack (config : Configuration) (flash saved running next : List ℕ) (x : HeldDevice Cells) : Type 0 where
  pub flash_is : x.sessions.flash.bytes ≡ flash
  pub restores : Restores config x.sessions.flash saved running next x

-- there is none where a number is out of its bounds, the flash has no room, memory was missing, or no device saved the bytes
abbrev pub IsDeviceBack : Parts → (saved running next : List ℕ) → Option (HeldDevice Cells) → (answer : ℕ) → Type 0
IsDeviceBack parts saved running next (Some x) answer =
    (answer ≡ done) × CanMake parts × OfSize parts (λ config. IsBack config parts.bytes saved running next x)
IsDeviceBack parts saved running next None answer =
    ((answer ≡ range) × CanNotMake parts)
    ⊎ (((answer ≡ no_memory) × CanMake parts)
    ⊎ ((answer ≡ corrupt) × CanMake parts × OfSize parts (λ config. NoneSaved config saved running next)))

-- the file that runs, or that was received to run next
abbrev pub slot_file : HeldDevice Cells → (is_next : Bool) → List ℕ
slot_file x true = x.slots.next_file
slot_file x false = x.slots.running
