-- A device's counters (this project's profile): only the report says anything of them.
use Rattle.std.specs.Prelude.{◌≡◌}
use Rattle.device_core.specs.declared.counts.Counts.{Counts}
use Rattle.device_core.specs.Device.{DeviceState}
use Rattle.device_core.specs.Events.{Event, event_step}

-- the device with these counters
abbrev pub counting : Counts → DeviceState → DeviceState
counting counts device = record device { counts = counts }

-- one is the other except for its counters
abbrev pub IsAlike : (d e : DeviceState) → Type 0
IsAlike d e = counting e.counts d ≡ e

-- no counter is ever read: devices that differ only in their counters go the same way, whatever happens
abbrev pub CountersAreUnread : Type 0
CountersAreUnread = (event : Event) (d e : DeviceState) → IsAlike d e → IsAlike (event_step d event) (event_step e event)
