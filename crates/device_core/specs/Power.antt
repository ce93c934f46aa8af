-- Power comes back to a device whose sessions are held in flash (this project's profile).
use Rattle.std.specs.Prelude.{◌≡◌, ℕ}
use Rattle.frag_session.specs.Session.{view_of}
use Rattle.image_slots.specs.Slots.{Slots}
use Rattle.session_store.specs.declared.state.CompleteFlags.{CompleteFlags}
use Rattle.session_store.specs.CompleteFlags.{flags_of}
use Rattle.device_core.specs.Device.{DeviceState}
use Rattle.device_core.specs.Fragments.{whole_file, slots_after}
use Rattle.device_core.specs.SessionTable.{SessionTable}

-- the file of each session that is whole now and was not is offered to the next slot, by rising index
abbrev pub powered : (hw : ℕ) → CompleteFlags → SessionTable → Slots → Slots
powered hw whole table slots =
    slots_after hw whole.fourth (whole_file (view_of table.fourth))
    (slots_after hw whole.third (whole_file (view_of table.third))
    (slots_after hw whole.second (whole_file (view_of table.second))
    (slots_after hw whole.first (whole_file (view_of table.first)) slots)))

-- the device after it, where these sessions were found; all else stays
unfoldable pub after_power : CompleteFlags → SessionTable → DeviceState → DeviceState
after_power whole table device = record device {
  sessions = table;
  slots = powered device.config.hw whole table device.slots;
}

-- power at a device that was up, and found its own sessions, changes nothing
abbrev pub PowerIsQuiet : Type 0
PowerIsQuiet = (device : DeviceState) → after_power (flags_of device.sessions) device.sessions device ≡ device
