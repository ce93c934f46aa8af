use Rattle.std.proofs.Common.{◌≡◌, ◌≤◌, ◌+◌, ◌*◌, List, drop}
use Rattle.device_core.specs.Device.{DeviceState}
use Rattle.campaign_world.specs.HeldWorld.{DevicesRest}
use Rattle.campaign_world.specs.Summary.{totals_from, nothing_counted}
use Rattle.campaign_world.proofs.summary.count_devices.Given as goal

abbrev pub invariant-loop-device : goal.invariant-loop-device
invariant-loop-device l = record {
  id_is : l.id ≡ l.device-index + 1;
  heard : l.totals.heard ≤ 65535 * l.device-index;
  complete : l.totals.complete ≤ l.device-index;
  updated : l.totals.updated ≤ l.device-index;
  counted : (ds : List DeviceState) → DevicesRest l.devices.items ds
      → totals_from l.totals (drop l.device-index l.server.stages) (drop l.device-index ds) ≡ totals_from nothing_counted l.server.stages ds;
}
