-- A device of a campaign, whose memory is taken at its first event.
use Rattle.std.specs.Prelude.{◌≡◌, ◌≤◌, ◌<◌, ◌^◌, true, [], Option, Some, None}
use Rattle.device_core.specs.Device.{DeviceState, first_device}
use Rattle.flash_session.specs.Flashes.{Cells, cells_seen}
use Rattle.flash_session.specs.Layout.{records_place}
use Rattle.device_core.specs.HeldDevice.{HeldDevice, DeviceStands}
use Rattle.device_core.specs.HeldSessions.{StateIsStored}
use Rattle.device_core.specs.Configuration.{Configuration}

-- its configuration, and what it holds from its first event on
pub record Late : Type 0 where
  pub config : Configuration
  pub device : Option (HeldDevice Cells)

-- sessions that are held in flash have ranges there
abbrev pub HasSpan : Configuration → Type 0
HasSpan config = config.held ≡ true → (records_place ≤ config.span) × (config.span < 2 ^ 30)

-- its sessions are in its cells, if they are held there
abbrev pub IsStored : HeldDevice Cells → DeviceState → Type 0
IsStored held device =
    StateIsStored held.sessions.state device.sessions (cells_seen held.sessions.flash.bytes)

-- a device between two events: it stands for its record, its sessions are stored, and its uplinks are taken
pub record IsAtRest (held : HeldDevice Cells) (device : DeviceState) : Type 0 where
  pub stands : DeviceStands held device
  pub stored : IsStored held device
  pub empty : held.outbox ≡ []

-- before its first event it stands for the first record of its configuration
abbrev pub RestsBy : Configuration → Option (HeldDevice Cells) → DeviceState → Type 0
RestsBy config None device = device ≡ first_device config
RestsBy config (Some held) device = IsAtRest held device

-- a device that may be made later stands for this record, made or not
abbrev pub DeviceRests : Late → DeviceState → Type 0
DeviceRests late device = RestsBy late.config late.device device
