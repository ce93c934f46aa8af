use Rattle.std.proofs.Common.{◌≡◌, map, take}
use Rattle.fuota_server_c.specs.Plan.{device_of}
use Rattle.fuota_server_c.proofs.plan.devices_of.Given as goal

abbrev pub invariant-loop-device : goal.invariant-loop-device
invariant-loop-device l = l.devices.items ≡ map device_of (take l.device-index l.told)
