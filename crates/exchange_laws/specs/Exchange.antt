-- One request of a server and its answer (this project's profile): the server asks a device by unicast, the payload comes to the
-- device, and the uplink that it makes comes to the server.
use Rattle.std.specs.Prelude.{◌≡◌, ℕ, true, false, [], Some}
use Rattle.package_grammar.specs.declared.command.Command.{Command}
use Rattle.package_grammar.specs.declared.downlink.To.TheVariants.{Unicast}
use Rattle.clock_sync.specs.Clock.{device_time}
use Rattle.frag_session.specs.declared.answers.Via.TheVariants as via
use Rattle.device_core.specs.declared.arrival.Arrival.{Arrival}
use Rattle.device_core.specs.declared.uplink.Uplink.{Uplink}
use Rattle.device_core.specs.ClassSessions.{hears}
use Rattle.device_core.specs.Deliver.{delivery}
use Rattle.device_core.specs.Device.{DeviceState}
use Rattle.device_core.specs.Firmware.{is_due}
use Rattle.device_core.specs.Sendable.{IsReceivable}
use Rattle.campaign_server.specs.Asking.{request_of}
use Rattle.campaign_server.specs.Server.{ServerState, DownlinkCommand, port_of, downlink_of}
use Rattle.campaign_server.specs.Uplinks.{uplink_step}

-- the server reaches a device at t ms of true time: it hears payloads by unicast, has no uplink left, and no reboot is due
pub record IsReached (device : DeviceState) (t : ℕ) : Type 0 where
  pub hears : hears device t Unicast ≡ true
  pub empty : device.outbox ≡ []
  pub stays : is_due (device_time device.clock t) device.reboot ≡ false

-- what the server asks of device number dev: a valid command, as `Server::ask` gives
pub record IsAsked (server : ServerState) (dev : ℕ) (asked : Command) : Type 0 where
  pub asks : request_of server dev ≡ Some (record { to = Unicast; command = asked })
  pub receivable : IsReceivable (port_of asked) asked

-- how its payload comes
abbrev pub by_request : (t word mark : ℕ) → Command → Arrival
by_request t word mark asked = record {
  moment = record { t = t; word = word; mark = mark };
  via = via.Unicast;
  port = port_of asked;
}

-- the device after the payload
abbrev pub after_request : (t word mark : ℕ) → Command → DeviceState → DeviceState
after_request t word mark asked device =
    let down : DownlinkCommand = record { to = Unicast; command = asked } in
    (delivery t word mark (downlink_of down) device).device

-- the server after an uplink of device number dev that came at so many ms
abbrev pub after_uplink : ServerState → (dev came : ℕ) → Uplink → ServerState
after_uplink server dev came uplink = (uplink_step server dev uplink.port uplink.payload came).server
