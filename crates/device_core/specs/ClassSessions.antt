-- Class C and class B sessions of the device (TS005-1.0.0, McClassCSessionReq and McClassBSessionReq), and what it
-- hears (LoRaWAN 1.0, classes A, B and C).
use Rattle.std.specs.Prelude.{ℕ, Bool, true, false, ◌&&◌, ◌==◌, if◌then◌else◌, Option, Some, None, is_some}
use Rattle.wire_base.specs.Numbers.{has_bit}
use Rattle.package_grammar.specs.declared.command.Command.{Command}
use Rattle.package_grammar.specs.declared.command.Command.TheVariants.{Cast}
use Rattle.package_grammar.specs.declared.downlink.To.{To}
use Rattle.package_grammar.specs.declared.downlink.To.TheVariants as to
use Rattle.cast_wire.specs.declared.cmd.Cmd.TheVariants.{McClassCSessionAns, McClassBSessionAns}
use Rattle.clock_sync.specs.Clock.{device_time, device_millis}
use Rattle.class_windows.specs.Sessions.{error_bits, start_answer}
use Rattle.class_windows.specs.Windows.{beacon_at}
use Rattle.mc_group.specs.Groups.{group_at, is_for}
use Rattle.device_core.specs.declared.config.Class.{Class}
use Rattle.device_core.specs.declared.config.Class.TheVariants as class
use Rattle.class_windows.specs.Open.{is_open_a, is_open_b, is_open_c}
use Rattle.device_core.specs.declared.class_session.ClassSession.{ClassSession}
use Rattle.device_core.specs.declared.class_session.Kind.{Kind}
use Rattle.device_core.specs.declared.class_session.Kind.TheVariants.{ClassC, ClassB}
use Rattle.device_core.specs.Device.{DeviceState}
use Rattle.device_core.specs.declared.arrival.Arrival.{Arrival}
use Rattle.device_core.specs.Answers.{DeviceStep, one_answer}

-- ---- requests

-- when a session starts, in seconds of the device's clock: at SessionTime, for class B rounded down to a beacon
abbrev pub start_of : Kind → (time : ℕ) → ℕ
start_of ClassC time = time
start_of (ClassB periodicity) time = beacon_at time

-- without an error bit the session replaces the one that there was
abbrev pub class_session_after : (bits : ℕ) → ClassSession → Option ClassSession → Option ClassSession
class_session_after bits session old = if bits == 0 then Some session else old

-- the answer: the group (bit 4), the frequency (bit 3) or the data rate (bit 2) is not possible, and TimeToStart
abbrev pub session_answer : Kind → (id bits : ℕ) → (start : Option ℕ) → Command
session_answer ClassC id bits start =
    Cast (McClassCSessionAns id (has_bit bits 4) (has_bit bits 3) (has_bit bits 2) start)
session_answer (ClassB periodicity) id bits start =
    Cast (McClassBSessionAns id (has_bit bits 4) (has_bit bits 3) (has_bit bits 2) start)

-- McClassCSessionReq and McClassBSessionReq
unfoldable pub class_session_step : Arrival → DeviceState → ClassSession → (freq dr : ℕ) → DeviceStep
class_session_step here device session freq dr =
    let bits = error_bits (is_some (group_at device.groups session.id)) freq dr in
    let start = start_answer bits (device_time device.clock here.moment.t) (start_of session.kind session.time) in
    one_answer here (record device { class_session = class_session_after bits session device.class_session })
    (session_answer session.kind session.id bits start)

-- ---- hearing

-- by unicast: class C always, class A in the windows after the uplink made last
abbrev pub hears_unicast : Class → (last_due : Option ℕ) → (t : ℕ) → Bool
hears_unicast class.C last_due t = true
hears_unicast class.A last_due t = is_open_a last_due t

-- the window of a class session is open
abbrev pub is_open : ClassSession → Kind → (device_ms addr : ℕ) → Bool
is_open session ClassC device_ms addr = is_open_c session.time session.timeout device_ms
is_open session (ClassB periodicity) device_ms addr = is_open_b session.time periodicity session.timeout device_ms addr

-- by multicast: frames to the class session's group in an open window
abbrev pub hears_group : DeviceState → Option ClassSession → (t addr count : ℕ) → Bool
hears_group device None t addr count = false
hears_group device (Some session) t addr count =
    is_for (group_at device.groups session.id) addr count
    && is_open session session.kind (device_millis device.clock t) addr

-- whether a device hears a payload at t ms of true time
unfoldable pub hears : DeviceState → (t : ℕ) → To → Bool
hears device t to.Unicast = hears_unicast device.config.class device.last_due t
hears device t (to.Group addr count) = hears_group device device.class_session t addr count
