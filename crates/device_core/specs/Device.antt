-- A device: what it is at a moment, and at its start.
use Rattle.std.specs.Prelude.{ℕ, ◌+◌, ◌-◌, ◌*◌, ◌^◌, min, Bool, true, ◌&&◌, nat_le, if◌then◌else◌, List, [], Option, None, replicate}
use Rattle.clock_sync.specs.Clock.{Clock, first_clock}
use Rattle.mc_group.specs.Groups.{max_groups}
use Rattle.mc_group.specs.declared.group.Group.{Group}
use Rattle.image_slots.specs.Slots.{Slots, first_slots}
use Rattle.frag_session.specs.declared.setups.Limits.{Limits}
use Rattle.frag_session.specs.Setup.{Room}
use Rattle.flash_session.specs.Layout.{records_place}
use Rattle.session_store.specs.Size.{SizedLayout, store_room}
use Rattle.device_core.specs.declared.class_session.ClassSession.{ClassSession}
use Rattle.device_core.specs.Configuration.{Configuration}
use Rattle.device_core.specs.declared.counts.Counts.{Counts}
use Rattle.device_core.specs.declared.uplink.Uplink.{Uplink}
use Rattle.device_core.specs.SessionTable.{SessionTable, no_sessions}
-- what is kept for the rows of a session
pub use Rattle.session_store.specs.Size.{size_for, session_extent}

-- clock: its offset and token; last_due: when the uplink made last is due, in ms of true time;
-- groups: a place for each id; reboot: the moment that is set, in seconds of its clock;
-- outbox: the uplinks not yet taken, oldest first
pub record DeviceState : Type 0 where
  pub config : Configuration
  pub clock : Clock
  pub last_due : Option ℕ
  pub groups : List (Option Group)
  pub class_session : Option ClassSession
  pub sessions : SessionTable
  pub slots : Slots
  pub reboot : Option ℕ
  pub outbox : List Uplink
  pub counts : Counts

-- at its start it has its configuration; nothing is heard, held or set
abbrev pub first_device : Configuration → DeviceState
first_device config = record {
  config = config;
  clock = first_clock config.offset;
  last_due = None;
  groups = replicate config.groups None;
  class_session = None;
  sessions = no_sessions;
  slots = first_slots config.formats;
  reboot = None;
  outbox = [];
  counts = record { deaf = 0; refused = 0; full = 0; dropped = 0 };
}

-- ---- limits (this project's profile)

-- uplinks that a device holds before they are taken
abbrev pub outbox_size : ℕ
outbox_size = 8

-- sessions
abbrev pub max_sessions : ℕ
max_sessions = 4

-- image formats that a device can know
abbrev pub max_formats : ℕ
max_formats = 2

-- rows for the coded fragments of a session
abbrev pub max_rows : ℕ
max_rows = 256

-- bytes of a session's file area
abbrev pub max_area : ℕ
max_area = 262382

-- the last ms of true time at which a device is called
abbrev pub max_moment : ℕ
max_moment = 4294967295999

-- ---- what a configuration may be, and what it lets sessions be

-- each number is within its bounds
abbrev pub is_config : Configuration → Bool
is_config config =
    (nat_le 1 config.formats && nat_le config.formats max_formats)
    && nat_le config.rows max_rows
    && (nat_le 1 config.sessions && nat_le config.sessions max_sessions)
    && (nat_le 1 config.groups && nat_le config.groups max_groups)
    && (nat_le 1 config.area && nat_le config.area max_area)

-- where its sessions are held in flash, their ranges are long enough and within so many bytes
abbrev pub has_ranges : Configuration → (room : ℕ) → Bool
has_ranges config room =
    if config.held then nat_le records_place config.span && nat_le (4 * config.span) room else true

-- what a session may be of a device
abbrev pub limits_of : Configuration → Limits
limits_of config = record { sessions = config.sessions; rows = config.rows; descriptor = config.descriptor }

-- how its sessions lie in memory, or in flash
abbrev pub layout_of : Configuration → SizedLayout
layout_of config = record { size = config.size; area = config.area; span = config.span; limits = limits_of config }

-- the room for a session: where it is held in flash, its range too
abbrev pub room_of : Configuration → Room
room_of config = store_room (layout_of config) config.held

-- ---- counters

-- a counter stops at its type's end
abbrev pub counter_after : ℕ → ℕ
counter_after n = min (n + 1) (2 ^ 64 - 1)

-- one payload more that was not heard, was refused, or found the outbox full; one fragment more that was dropped
abbrev pub after_deaf : Counts → Counts
after_deaf counts = record counts { deaf = counter_after counts.deaf }

-- a payload that is no message was refused
abbrev pub after_refused : Counts → Counts
after_refused counts = record counts { refused = counter_after counts.refused }

-- a payload whose answers had no room was not taken
abbrev pub after_full : Counts → Counts
after_full counts = record counts { full = counter_after counts.full }

-- a fragment was dropped
abbrev pub after_dropped : Counts → Counts
after_dropped counts = record counts { dropped = counter_after counts.dropped }

-- the device with its counters so changed
abbrev pub with_counts : (Counts → Counts) → DeviceState → DeviceState
with_counts after device = record device { counts = after device.counts }
