-- What the calls of a device do for C.
use Rattle.std.specs.Prelude.{◌≡◌, ◌≢◌, ◌⊎◌, ◌≤◌, ◌<◌, ℕ, Bool, true, false, not, IsTrue, List, [], ◌∷◌, length, Option, Some, None, Result, Ok, Err}
use Rattle.wire_base.specs.Payload.{max_payload}
use Rattle.package_grammar.specs.declared.downlink.To.{To}
use Rattle.package_grammar.specs.declared.downlink.To.TheVariants.{Unicast, Group}
use Rattle.package_grammar.specs.declared.downlink.Downlink.{Downlink}
use Rattle.frag_session.specs.Session.{view_of}
use Rattle.session_store.specs.Size.{size_with}
use Rattle.device_core.specs.Configuration.{Configuration, configured}
use Rattle.device_core.specs.declared.config.DeviceConfig.{DeviceConfig}
use Rattle.device_core.specs.declared.config.ReserveError.{ReserveError}
use Rattle.device_core.specs.declared.config.ReserveError.TheVariants.{BadConfig}
use Rattle.device_core.specs.declared.delivered.Delivered.{Delivered}
use Rattle.device_core.specs.declared.delivered.Delivered.TheVariants as delivered
use Rattle.device_core.specs.declared.delivered.Aired.{Aired}
use Rattle.device_core.specs.declared.delivered.Aired.TheVariants.{Foreign, Heard}
use Rattle.device_core.specs.declared.delivered.OutboxFull.{OutboxFull}
use Rattle.device_core.specs.declared.uplink.Uplink.{Uplink}
use Rattle.device_core.specs.SessionTable.{session_at}
use Rattle.device_core.specs.Device.{DeviceState, max_moment, max_sessions}
use Rattle.device_core.specs.Deliver.{Outcome, delivery, waking, taking}
use Rattle.device_core.specs.Radio.{radio}
use Rattle.flash_session.specs.Seen.{FlashSeen}
use Rattle.flash_session.specs.Flashes.{Cells, cells_seen}
use Rattle.device_core.specs.HeldCalls.{StaysStored}
use Rattle.device_core.specs.HeldDevice.{HeldDevice, DeviceStands, Starts, Becomes, Makes}
use Rattle.device_core.specs.HeldSessions.{IsUp, IsDown}
use Rattle.c_base.specs.Answer.{done, nothing, range, no_memory, refused, deaf, full, foreign, down, flash}
use Rattle.c_base.specs.Bytes.{IsPut, Copied}
use Rattle.fuota_c.specs.Config.{fits}
use Rattle.fuota_c.specs.declared.size.PartSize.{PartSize}
use Rattle.fuota_c.specs.Size.{size_number, sessions_of}
use Rattle.fuota_c.specs.declared.device.ArrivalFields.{ArrivalFields}
use Rattle.fuota_c.specs.declared.device.UplinkFields.{UplinkFields}
use Rattle.fuota_c.specs.declared.shown.ViewFields.{ViewFields}
use Rattle.fuota_c.specs.Shown.{IsShown, file_or_none}

-- ---- a new device

-- a device at its start, over a flash of these bytes
pub record IsFirst (config : Configuration) (bytes : List ℕ) (x : HeldDevice Cells) : Type 0 where
  pub flash : x.sessions.flash.bytes ≡ bytes
  pub starts : Starts config x.sessions.flash x

-- what it is made of: the number of its size, its configuration, and the bytes of its flash
pub record Parts : Type 0 where
  pub size : ℕ
  pub config : DeviceConfig
  pub bytes : List ℕ

-- each number is within its bounds, the size's too, and the flash has room
abbrev pub CanMake : Parts → Type 0
CanMake parts = (parts.size ≤ 2) × IsTrue (fits parts.config parts.bytes)

abbrev pub CanNotMake : Parts → Type 0
CanNotMake parts = (2 < parts.size) ⊎ IsTrue (not (fits parts.config parts.bytes))

-- the device is of that size
abbrev pub OfSize : Parts → (Configuration → Type 0) → Type 0
OfSize parts Is = (size : PartSize) × (parts.size ≡ size_number size) × Is (configured (size_with (sessions_of size)) parts.config)

-- there is none where a number is out of its bounds, the flash has no room, or memory was missing
abbrev pub IsNewDevice : Parts → Option (HeldDevice Cells) → (answer : ℕ) → Type 0
IsNewDevice parts (Some x) answer = (answer ≡ done) × CanMake parts × OfSize parts (λ config. IsFirst config parts.bytes x)
IsNewDevice parts None answer = ((answer ≡ range) × CanNotMake parts) ⊎ ((answer ≡ no_memory) × CanMake parts)

-- the answer where no device is in memory of its own: none was made, or that memory was missing
abbrev pub unmade_number : Result (HeldDevice Cells) ReserveError → ℕ
unmade_number (Err BadConfig) = range
unmade_number other = no_memory

-- ---- what comes

abbrev pub to_of : (is_group : Bool) → (addr count : ℕ) → To
to_of true addr count = Group addr count
to_of false addr count = Unicast

abbrev pub downlink_of : (port : ℕ) → (payload : List ℕ) → ArrivalFields → Downlink
downlink_of port payload arrival = record {
  to = to_of arrival.is_group arrival.addr arrival.count;
  port = port;
  payload = payload;
}

abbrev pub delivered_number : Delivered → ℕ
delivered_number delivered.Done = done
delivered_number delivered.Deaf = deaf
delivered_number (delivered.Refused refusal) = refused
delivered_number (delivered.OutboxFull n) = full
delivered_number delivered.Down = down
-- cells never fail
delivered_number delivered.FlashFault = flash

abbrev pub woken_number : Result (Unit {0}) OutboxFull → ℕ
woken_number (Ok x) = done
woken_number (Err e) = full

-- the call, with a number for its answer
abbrev pub as_number : {A : Type 0} → (A → ℕ) → Outcome A → Outcome ℕ
as_number number outcome = record { device = outcome.device; answer = number outcome.answer }

-- what cells show
abbrev pub seen_cells : Cells → FlashSeen
seen_cells cells = cells_seen cells.bytes

-- what a call makes of a device, and of the sessions in its flash; one that is down stays as it is
pub record Serves (x y : HeldDevice Cells) (answer : ℕ) (call : DeviceState → Outcome ℕ) : Type 0 where
  pub makes : Makes ℕ x y answer call
  pub stored : StaysStored seen_cells x y (λ device. (call device).device)
  pub is_down : answer ≡ down → IsDown x.sessions.state × (y ≡ x)
  pub is_up : answer ≢ down → IsUp x.sessions.state

-- a payload that a radio can bring, at a moment that a device knows, is delivered; any other changes nothing
pub record DeliversOrNot (x y : HeldDevice Cells) (port : ℕ) (payload : List ℕ) (arrival : ArrivalFields) (answer : ℕ)
    : Type 0 where
  pub delivers : length payload ≤ max_payload → arrival.t ≤ max_moment → Serves x y answer (λ device.
      as_number delivered_number
      (delivery arrival.t arrival.word arrival.mark (downlink_of port payload arrival) device))
  pub long : max_payload < length payload → (answer ≡ range) × (y ≡ x)
  pub late : max_moment < arrival.t → (answer ≡ range) × (y ≡ x)

-- its sessions are untouched, wherever they are
pub record WakesOrNot (x y : HeldDevice Cells) (t : ℕ) (answer : ℕ) : Type 0 where
  pub wakes : t ≤ max_moment → Makes ℕ x y answer (λ device. as_number woken_number (waking t device))
  pub untouched : y.sessions ≡ x.sessions
  pub late : max_moment < t → (answer ≡ range) × (y ≡ x)

-- ---- what its radio heard

-- bytes that are no frame for it
abbrev pub aired_number : Aired → ℕ
aired_number (Foreign fault) = foreign
aired_number (Heard delivered) = delivered_number delivered

-- bytes at a moment that a device knows come to it; at a later one nothing changes
pub record HearsFrameOrNot (x y : HeldDevice Cells) (bytes : List ℕ) (t word mark answer : ℕ) : Type 0 where
  pub hears : t ≤ max_moment → Serves x y answer (λ device. as_number aired_number (radio t word mark bytes device))
  pub late : max_moment < t → (answer ≡ range) × (y ≡ x)

-- ---- what goes

-- an uplink is written, its bytes at the front
pub record IsUplinkOut (uplink : Uplink) (old new : UplinkFields) : Type 0 where
  pub due : new.due ≡ uplink.due
  pub port : new.port ≡ uplink.port
  pub count : new.length ≡ length uplink.payload
  pub payload : IsPut uplink.payload old.payload new.payload

abbrev pub IsOldestOut : List Uplink → (old new : UplinkFields) → (answer : ℕ) → Type 0
IsOldestOut [] old new answer = (answer ≡ nothing) × (new ≡ old)
IsOldestOut (uplink ∷ uplinks) old new answer = (answer ≡ done) × IsUplinkOut uplink old new

-- the oldest uplink is taken and written, if one is held; the sessions are untouched, wherever they are
pub record TakesUplink (x y : HeldDevice Cells) (old new : UplinkFields) (answer : ℕ) : Type 0 where
  pub taken : Becomes x y (λ device. (taking device).device)
  pub untouched : y.sessions ≡ x.sessions
  pub out : IsOldestOut x.outbox old new answer

-- ---- what is shown

pub record IsSessionShown (x : HeldDevice Cells) (index : ℕ) (old new : ViewFields) (answer : ℕ) : Type 0 where
  pub shown : index < max_sessions → (device : DeviceState) → DeviceStands x device
      → IsShown (view_of (session_at device.sessions index)) old new answer
  pub down : index < max_sessions → IsDown x.sessions.state → IsShown None old new answer
  pub beyond : max_sessions ≤ index → (answer ≡ range) × (new ≡ old)

-- a window of the whole file of a session
pub record IsSessionFile (x : HeldDevice Cells) (index offset : ℕ) (old new : List ℕ) (n : ℕ) : Type 0 where
  pub file : index < max_sessions → (device : DeviceState) → DeviceStands x device
      → Copied (file_or_none (view_of (session_at device.sessions index))) offset old new n
  pub down : index < max_sessions → IsDown x.sessions.state → Copied [] offset old new n
  pub beyond : max_sessions ≤ index → (n ≡ 0) × (new ≡ old)
