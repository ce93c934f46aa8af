use Rattle.std.proofs.Common.{◌≡◌, ◌+◌, ◌*◌, ◌++◌, length, take}
use Rattle.std.specs.List.{flat_map}
use Rattle.campaign_server.specs.Saving.{device_bytes}
use Rattle.campaign_server.proofs.saving.put_devices.Given as goal

abbrev pub invariant-loop-device : goal.invariant-loop-device
invariant-loop-device l = record {
  bytes : l.to.items ≡ l.fn.to.items ++ flat_map device_bytes (take l.device-index l.devices);
  size : length l.to.items ≡ length l.fn.to.items + 17 * l.device-index;
}
