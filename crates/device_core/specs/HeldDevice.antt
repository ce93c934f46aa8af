-- What a device holds, for which records it stands, and what a call does to both.
use Rattle.std.specs.Prelude.{◌≡◌, ℕ, ◌+◌, ◌≤◌, Bool, true, false, not, ◌&&◌, IsTrue, List, [], ◌∷◌, ◌++◌, map, length, Option, Some, None, Result, Ok, Err}
use Rattle.clock_sync.specs.Clock.{Clock}
use Rattle.mc_group.specs.declared.group.Group.{Group}
use Rattle.image_slots.specs.Slots.{Slots}
use Rattle.device_core.specs.declared.class_session.ClassSession.{ClassSession}
use Rattle.device_core.specs.Configuration.{Configuration}
use Rattle.device_core.specs.declared.config.ReserveError.{ReserveError}
use Rattle.device_core.specs.declared.config.ReserveError.TheVariants.{BadConfig, Memory}
use Rattle.device_core.specs.declared.counts.Counts.{Counts}
use Rattle.device_core.specs.declared.uplink.Uplink.{Uplink}
use Rattle.device_core.specs.declared.uplink.Answer.{Answer}
use Rattle.session_store.specs.declared.flash_sessions.IdleSessions.{IdleSessions}
use Rattle.session_store.specs.declared.state.State.TheVariants.{Down}
use Rattle.session_store.specs.CompleteFlags.{none_complete}
use Rattle.device_core.specs.SessionTable.{SessionTable, no_sessions}
use Rattle.device_core.specs.Device.{DeviceState, first_device, is_config, has_ranges, layout_of}
use Rattle.device_core.specs.Answers.{DeviceStep, after_answers, uplink_of, due_after}
use Rattle.device_core.specs.Deliver.{Outcome}
use Rattle.device_core.specs.HeldSessions.{HeldStore, StateStands}

-- a device without the histories of its sessions; they are in memory, in its flash, or down
pub record HeldDevice (F : Type 0) : Type 0 where
  pub config : Configuration
  pub clock : Clock
  pub last_due : Option ℕ
  pub groups : List (Option Group)
  pub class_session : Option ClassSession
  pub sessions : HeldStore F
  pub slots : Slots
  pub reboot : Option ℕ
  pub outbox : List Uplink
  pub counts : Counts

-- the record that it stands for, with these sessions
abbrev pub device_of : {F : Type 0} → HeldDevice F → SessionTable → DeviceState
device_of held table = record {
  config = held.config;
  clock = held.clock;
  last_due = held.last_due;
  groups = held.groups;
  class_session = held.class_session;
  sessions = table;
  slots = held.slots;
  reboot = held.reboot;
  outbox = held.outbox;
  counts = held.counts;
}

-- its sessions stand for the record's, and all else is equal; a device that is down stands for no record
pub record DeviceStands {F : Type 0} (held : HeldDevice F) (device : DeviceState) : Type 0 where
  pub sessions : StateStands held.sessions.state device.sessions
  pub rest : device ≡ device_of held device.sessions

-- ---- what a call makes

-- what is held changed this way, for any record it stood for
abbrev pub Becomes : {F : Type 0} → (old new : HeldDevice F) → (DeviceState → DeviceState) → Type 0
Becomes old new after = (device : DeviceState) → DeviceStands old device → DeviceStands new (after device)

-- what is held changed as this call does, and the answer is the call's, for any record it stood for
pub record Makes {F : Type 0} (A : Type 0) (old new : HeldDevice F) (answer : A) (call : DeviceState → Outcome A) : Type 0 where
  pub stands : Becomes old new (λ device. (call device).device)
  pub answers : (device : DeviceState) → DeviceStands old device → answer ≡ (call device).answer

-- its sessions are untouched, wherever they are, and all else went this way
pub record GoesAside {F : Type 0} (old new : HeldDevice F) (after : DeviceState → DeviceState) : Type 0 where
  pub untouched : new.sessions ≡ old.sessions
  pub rest : (table : SessionTable) → device_of new table ≡ after (device_of old table)

-- ---- its start

-- it has this flash, and stands for the first record of its configuration; one whose sessions are held in flash is down, and
-- had no file whole
pub record Starts {F : Type 0} (config : Configuration) (flash : F) (held : HeldDevice F) : Type 0 where
  pub flash_is : held.sessions.flash ≡ flash
  pub held_is : held.sessions.held ≡ config.held
  pub layout_is : held.sessions.layout ≡ layout_of config
  pub up : config.held ≡ false → DeviceStands held (first_device config)
  pub down : config.held ≡ true → (idles : IdleSessions) × (held.sessions.state ≡ Down idles none_complete)
  pub rest : device_of held no_sessions ≡ first_device config

-- each number is within its bounds, and the flash has room
abbrev pub can_reserve : Configuration → (room : ℕ) → Bool
can_reserve config room = has_ranges config room && is_config config

-- BadConfig comes exactly where a number of the configuration is out of its bounds, or the flash has no room for the sessions
-- that it is to hold
abbrev pub IsReserved : {F : Type 0} → Configuration → (room : ℕ) → (flash : F) → Result (HeldDevice F) ReserveError → Type 0
IsReserved config room flash (Ok held) = IsTrue (can_reserve config room) × Starts config flash held
IsReserved config room flash (Err BadConfig) = IsTrue (not (can_reserve config room))
IsReserved config room flash (Err Memory) = IsTrue (can_reserve config room)

-- ---- what a command makes

-- answers are in the outbox after what was there
abbrev pub held_with_answers : {F : Type 0} → HeldDevice F → List Answer → HeldDevice F
held_with_answers held answers = record held {
  outbox = held.outbox ++ map uplink_of answers;
  last_due = due_after held.last_due answers;
}

-- what is held went this step, and the outbox has at most so many uplinks more
pub record Steps {F : Type 0} (old new : HeldDevice F) (weight : ℕ) (step : DeviceState → DeviceStep) : Type 0 where
  pub stands : Becomes old new (λ device. after_answers (step device))
  pub few : length new.outbox ≤ length old.outbox + weight

-- the same with its sessions untouched, wherever they are
pub record StepsAside {F : Type 0} (old new : HeldDevice F) (weight : ℕ) (step : DeviceState → DeviceStep) : Type 0 where
  pub goes : GoesAside old new (λ device. after_answers (step device))
  pub few : length new.outbox ≤ length old.outbox + weight

-- ---- the outbox

-- the oldest uplink was taken; none where none was held
abbrev pub TakesOldest : (old new : List Uplink) → Option Uplink → Type 0
TakesOldest old new None = (old ≡ []) × (new ≡ [])
TakesOldest old new (Some uplink) = old ≡ uplink ∷ new
