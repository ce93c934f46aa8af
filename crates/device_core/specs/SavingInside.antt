-- The fields of a saved device, read from any bytes.
use Rattle.std.specs.Prelude.{◌≡◌, ◌⊎◌, ℕ, ◌+◌, ◌*◌, ◌%◌, ◌≤◌, min, Bool, true, false, not, ◌==◌, if◌then◌else◌, List, length, map, slice_index, slice_range, Option, Some, None}
use Rattle.std.specs.List.{range_with_len, AllByRecursion}
use Rattle.wire_base.specs.Numbers.{number_at}
use Rattle.clock_sync.specs.Clock.{Clock}
use Rattle.mc_group.specs.declared.group.Group.{Group}
use Rattle.image_slots.specs.HeldSlots.{HeldSlots}
use Rattle.image_slots.specs.Image.{image_state}
use Rattle.image_slots.specs.Slots.{Slots, RunsImage, first_slots}
use Rattle.session_store.specs.declared.flash_sessions.IdleSessions.{IdleSessions}
use Rattle.session_store.specs.declared.state.CompleteFlags.{CompleteFlags}
use Rattle.session_store.specs.declared.state.State.TheVariants.{Down}
use Rattle.device_core.specs.declared.class_session.ClassSession.{ClassSession}
use Rattle.device_core.specs.declared.class_session.Kind.{Kind}
use Rattle.device_core.specs.declared.class_session.Kind.TheVariants.{ClassC, ClassB}
use Rattle.device_core.specs.Configuration.{Configuration}
use Rattle.device_core.specs.declared.config.ReserveError.{ReserveError}
use Rattle.device_core.specs.declared.config.ReserveError.TheVariants as new
use Rattle.device_core.specs.declared.saving.RestoreError.{RestoreError}
use Rattle.device_core.specs.declared.saving.RestoreError.TheVariants as restored
use Rattle.device_core.specs.declared.counts.Counts.{Counts}
use Rattle.device_core.specs.declared.uplink.Uplink.{Uplink}
use Rattle.device_core.specs.Device.{DeviceState}
use Rattle.device_core.specs.Sendable.{IsUplink}
use Rattle.device_core.specs.HeldDevice.{HeldDevice, device_of}
use Rattle.device_core.specs.HeldSessions.{IsUp}
use Rattle.device_core.specs.SessionTable.{SessionTable}

-- the same error, as that of restore
abbrev pub restore_error : ReserveError → RestoreError
restore_error new.Memory = restored.Memory
restore_error new.BadConfig = restored.BadConfig

-- a value where the byte before it says that there is one
abbrev pub option_at : {A : Type 0} → (List ℕ → ℕ → A) → List ℕ → (at : ℕ) → Option A
option_at fields bytes at = if slice_index bytes at == 0 then None else Some (fields bytes (at + 1))

abbrev pub clock_in : List ℕ → Clock
clock_in bytes = record { offset = number_at bytes 5 4; token = slice_index bytes 9 % 16 }

abbrev pub moment_in : List ℕ → Option ℕ
moment_in bytes = option_at (λ b at. number_at b at 8) bytes 10

abbrev pub group_in : List ℕ → (at : ℕ) → Group
group_in bytes at = record {
  addr = number_at bytes at 4;
  key = slice_range bytes (at + 4) (at + 20);
  min = number_at bytes (at + 20) 4;
  max = number_at bytes (at + 24) 4;
}

-- that of an id
abbrev pub place_in : List ℕ → (id : ℕ) → Option Group
place_in bytes id = option_at group_in bytes (19 + 29 * id)

abbrev pub groups_in : List ℕ → (number : ℕ) → List (Option Group)
groups_in bytes number = map (λ id. place_in bytes id) (range_with_len 0 number)

-- a byte that is not 0 is class B
abbrev pub kind_of : (byte periodicity : ℕ) → Kind
kind_of byte periodicity = if byte == 0 then ClassC else ClassB (periodicity % 8)

abbrev pub session_fields_in : List ℕ → (at : ℕ) → ClassSession
session_fields_in bytes at = record {
  id = slice_index bytes at % 4;
  kind = kind_of (slice_index bytes (at + 1)) (slice_index bytes (at + 2));
  time = number_at bytes (at + 3) 4;
  timeout = slice_index bytes (at + 7) % 16;
}

abbrev pub session_in : List ℕ → Option ClassSession
session_in bytes = option_at session_fields_in bytes 135

abbrev pub reboot_in : List ℕ → Option ℕ
reboot_in bytes = option_at (λ b at. number_at b at 4) bytes 144

abbrev pub counts_in : List ℕ → Counts
counts_in bytes = record {
  deaf = number_at bytes 149 8;
  refused = number_at bytes 157 8;
  full = number_at bytes 165 8;
  dropped = number_at bytes 173 8;
}

-- both are known, or those of the configuration
abbrev pub formats_of : (formats byte : ℕ) → ℕ
formats_of formats byte = if byte == 2 then 2 else formats

-- at least what the configuration has
abbrev pub formats_in : (formats : ℕ) → List ℕ → ℕ
formats_in formats bytes = formats_of formats (slice_index bytes 181)

-- the slot that runs, its file handed in beside the record
abbrev pub running_in : Slots → List ℕ → (running : List ℕ) → Slots
running_in slots bytes running =
    record slots { formats = formats_in slots.formats bytes; version = number_at bytes 182 4; running = running }

-- next is what its bytes are, where there is one
abbrev pub slots_in : (hw : ℕ) → Slots → List ℕ → (running next : List ℕ) → Slots
slots_in hw slots bytes running next =
    if slice_index bytes 186 == 0 then running_in slots bytes running
    else record (running_in slots bytes running) {
      next = image_state next hw (formats_in slots.formats bytes);
      next_file = next;
    }

abbrev pub flag_of : (byte : ℕ) → Bool
flag_of byte = not (byte == 0)

abbrev pub flags_in : List ℕ → CompleteFlags
flags_in bytes = record {
  first = flag_of (slice_index bytes 199);
  second = flag_of (slice_index bytes 200);
  third = flag_of (slice_index bytes 201);
  fourth = flag_of (slice_index bytes 202);
}

-- an uplink, of at most 22 bytes
abbrev pub uplink_at : List ℕ → (at : ℕ) → Uplink
uplink_at bytes at = record {
  due = number_at bytes at 8;
  port = slice_index bytes (at + 8);
  payload = slice_range bytes (at + 10) (at + 10 + min (slice_index bytes (at + 9)) 22);
}

-- at most eight uplinks
abbrev pub uplinks_in : List ℕ → List Uplink
uplinks_in bytes = map (λ k. uplink_at bytes (204 + 32 * k)) (range_with_len 0 (min (slice_index bytes 203) 8))

-- ---- all of it

-- slots that were changed as restoring does, or in part
pub record AreStill (old new : HeldSlots) : Type 0 where
  pub hw : new.hw ≡ old.hw
  pub area : new.area ≡ old.area
  pub formats : (new.slots.formats ≡ old.slots.formats) ⊎ (new.slots.formats ≡ 2)

-- the device with these fields
abbrev pub told_of : DeviceState → (bytes running next : List ℕ) → DeviceState
told_of device bytes running next = record device {
  clock = clock_in bytes;
  last_due = moment_in bytes;
  groups = groups_in bytes device.config.groups;
  class_session = session_in bytes;
  slots = slots_in device.config.hw device.slots bytes running next;
  reboot = reboot_in bytes;
  outbox = uplinks_in bytes;
  counts = counts_in bytes;
}

-- the files have room, what runs is an image, a next that is none has no bytes, and the uplinks are some of a device's
pub record CanTake (config : Configuration) (bytes running next : List ℕ) : Type 0 where
  pub runs : length running ≤ config.area
  pub image : RunsImage config.hw (running_in (first_slots config.formats) bytes running)
  pub follows : length next ≤ config.area
  pub none : slice_index bytes 186 ≡ 0 → length next ≡ 0
  pub uplinks : AllByRecursion IsUplink (uplinks_in bytes)

-- what taking them makes of a device
pub record Takes {F : Type 0} (old new : HeldDevice F) (bytes running next : List ℕ) (result : Bool) : Type 0 where
  pub fits : result ≡ true → CanTake old.config bytes running next
  pub unfit : result ≡ false → CanTake old.config bytes running next → ⊥
  pub told : result ≡ true → (table : SessionTable)
      → device_of new table ≡ told_of (device_of old table) bytes running next
  -- sessions that are down had these files whole, and others stay
  pub down : result ≡ true → (idles : IdleSessions) (was : CompleteFlags) → old.sessions.state ≡ Down idles was
      → new.sessions ≡ record old.sessions { state = Down idles (flags_in bytes) }
  pub up : result ≡ true → IsUp old.sessions.state → new.sessions ≡ old.sessions
