use Rattle.std.proofs.Common.{◌≡◌, ◌+◌, ◌++◌, List, drop}
use Rattle.device_core.specs.Device.{DeviceState}
use Rattle.campaign_world.specs.HeldWorld.{DevicesRest}
use Rattle.campaign_world.specs.Report.{device_parts}
use Rattle.campaign_world.proofs.report.device_parts.Given as goal

abbrev pub invariant-loop-device : goal.invariant-loop-device
invariant-loop-device l = record {
  id_is : l.id ≡ l.device-index + 1;
  told : (ds : List DeviceState) → DevicesRest l.devices.items ds
      → l.text.items ++ device_parts l.server.image l.id (drop l.device-index l.server.stages) (drop l.device-index ds) ≡ device_parts l.server.image 1 l.server.stages ds;
}
