use Rattle.std.proofs.Common.{◌≡◌, ◌≤◌, ◌+◌, false, length}
use Rattle.wire_base.specs.declared.refusal.Direction.TheVariants.{Down}
use Rattle.device_core.specs.Device.{DeviceState}
use Rattle.device_core.specs.Step.{weights}
use Rattle.device_core.specs.HeldDevice.{DeviceStands}
use Rattle.device_core.specs.HeldSessions.{IsUp, IsInFlash, IsLaidOut}
use Rattle.device_core.proofs.Acting.{HasActed}
use Rattle.device_core.proofs.device.Device.act_on.Given as goal

abbrev pub invariant-loop-command : goal.invariant-loop-command
invariant-loop-command g l = record {
  port : l.message.port ≡ l.here.port;
  direction : l.message.direction ≡ Down;
  room : length l.self.outbox + weights l.message.commands ≤ 8;
  up : IsUp l.self.sessions.state;
  in_flash : IsInFlash l.fn.self.sessions.state → IsInFlash l.self.sessions.state;
  laid : IsLaidOut l.fn.self.sessions l.self.sessions;
  quiet : l.fn.self.sessions.held ≡ false → l.self.sessions.flash ≡ l.fn.self.sessions.flash;
  later : (g.F.Flash.seen l.fn.self.sessions.flash).faults ≤ (g.F.Flash.seen l.self.sessions.flash).faults;
  acted : (device : DeviceState) → DeviceStands l.fn.self device
      → HasActed g.F.Flash.seen
      l.here l.fn.self l.self device l.fn.message.commands l.message.commands;
}

abbrev pub decreases-loop-command : goal.decreases-loop-command
decreases-loop-command g l = length l.message.commands
