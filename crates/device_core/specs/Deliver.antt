-- A payload comes to a device, or the device wakes (this project's profile: the order of the checks).
use Rattle.std.specs.Prelude.{ℕ, ◌+◌, true, nat_lt, nat_le, if◌then◌else◌, List, [], ◌∷◌, length, Option, Some, None, Result, Ok, Err}
use Rattle.wire_base.specs.declared.refusal.Direction.TheVariants.{Down}
use Rattle.frag_session.specs.declared.answers.Via.{Via}
use Rattle.frag_session.specs.declared.answers.Via.TheVariants as via
use Rattle.package_grammar.specs.declared.command.Command.{Command}
use Rattle.package_grammar.specs.declared.downlink.To.{To}
use Rattle.package_grammar.specs.declared.downlink.To.TheVariants as to
use Rattle.package_grammar.specs.declared.downlink.Downlink.{Downlink}
use Rattle.device_core.specs.declared.delivered.Delivered.{Delivered}
use Rattle.device_core.specs.declared.delivered.Delivered.TheVariants.{Deaf, Refused, OutboxFull, Done}
use Rattle.device_core.specs.declared.class_session.ClassSession.{ClassSession}
use Rattle.device_core.specs.declared.delivered.OutboxFull as outbox
use Rattle.device_core.specs.declared.uplink.Uplink.{Uplink}
use Rattle.device_core.specs.Device.{DeviceState, outbox_size, after_deaf, after_refused, after_full, with_counts}
use Rattle.device_core.specs.declared.arrival.Arrival.{Arrival}
use Rattle.device_core.specs.declared.uplink.Answer.{Answer}
use Rattle.device_core.specs.Answers.{DeviceStep, after_answers}
use Rattle.device_core.specs.Clock.{time_request}
use Rattle.device_core.specs.ClassSessions.{hears}
use Rattle.device_core.specs.Firmware.{after_due_reboot}
use Rattle.device_core.specs.Step.{after_commands, weights}
use Rattle.package_grammar.specs.Reading.{Reading, reading_of}

-- what a call makes of a device: the device after it, and its answer
pub record Outcome (A : Type 0) : Type 0 where
  pub device : DeviceState
  pub answer : A

-- ---- a payload comes: the checks, one after another; each that fails changes only its counter

-- a message: it acts where the outbox has room for its weights
unfoldable pub message_delivery : Arrival → DeviceState → List Command → Outcome Delivered
message_delivery here device cs =
    let n = length device.outbox + weights cs in
    if nat_lt outbox_size n
    then record { device = with_counts after_full device; answer = OutboxFull n }
    else record { device = after_commands here device cs; answer = Done }

-- what is read of a payload: commands, or a refusal
unfoldable pub read_delivery : Arrival → DeviceState → Reading → Outcome Delivered
read_delivery here device (Ok cs) = message_delivery here device cs
read_delivery here device (Err refusal) = record { device = with_counts after_refused device; answer = Refused refusal }

-- the way that a payload comes: a group that is heard is the class session's
abbrev pub via_of : Option ClassSession → To → Via
via_of session to.Unicast = via.Unicast
via_of None (to.Group addr count) = via.Unicast
via_of (Some session) (to.Group addr count) = via.Group session.id

-- when and how a payload comes
abbrev pub arrival : (t word mark : ℕ) → Downlink → DeviceState → Arrival
arrival t word mark down device = record {
  moment = record { t = t; word = word; mark = mark };
  via = via_of device.class_session down.to;
  port = down.port;
}

-- a payload that is heard is read, and one that is not is counted
unfoldable pub heard_delivery : (t word mark : ℕ) → Downlink → DeviceState → Outcome Delivered
heard_delivery t word mark down device =
    if hears device t down.to
    then read_delivery (arrival t word mark down device) device (reading_of down.port Down down.payload)
    else record { device = with_counts after_deaf device; answer = Deaf }

-- ---- the device wakes

-- AppTimeReq with AnsRequired, on the port of clock synchronization (TS003-1.0.0)
abbrev pub asks_time : (t : ℕ) → DeviceState → DeviceStep
asks_time t device =
    let request : Answer = record { due = t; port = 202; command = time_request device.clock t true } in
    record { device = device; answers = request ∷ [] }

-- it asks for the time by itself, where the outbox has room
unfoldable pub time_asking : (t : ℕ) → DeviceState → Outcome (Result (Unit {0}) outbox.OutboxFull)
time_asking t device =
    if nat_le outbox_size (length device.outbox)
    then record { device = device; answer = Err (record {}) }
    else record { device = after_answers (asks_time t device); answer = Ok tt }

-- ---- the calls: these two each between the reboots that are due

-- after a call a reboot that has become due by then is carried out
abbrev pub with_due_reboot : {A : Type 0} → (t : ℕ) → Outcome A → Outcome A
with_due_reboot t outcome = record outcome { device = after_due_reboot t outcome.device }

-- a payload comes
unfoldable pub delivery : (t word mark : ℕ) → Downlink → DeviceState → Outcome Delivered
delivery t word mark down device = with_due_reboot t (heard_delivery t word mark down (after_due_reboot t device))

-- the device wakes
unfoldable pub waking : (t : ℕ) → DeviceState → Outcome (Result (Unit {0}) outbox.OutboxFull)
waking t device = with_due_reboot t (time_asking t (after_due_reboot t device))

-- the oldest uplink is taken, where one is held
abbrev taken : DeviceState → List Uplink → Outcome (Option Uplink)
taken device [] = record { device = device; answer = None }
taken device (oldest ∷ others) = record { device = record device { outbox = others }; answer = Some oldest }

-- the oldest uplink is taken
abbrev pub taking : DeviceState → Outcome (Option Uplink)
taking device = taken device device.outbox
