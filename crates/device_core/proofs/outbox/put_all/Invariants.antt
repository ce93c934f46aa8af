use Rattle.std.proofs.Common.{◌≡◌, ◌+◌, ◌*◌, ◌++◌, length, take}
use Rattle.std.specs.List.{flat_map}
use Rattle.device_core.specs.Saving.{uplink_bytes}
use Rattle.device_core.proofs.outbox.put_all.Given as goal

abbrev pub invariant-loop-uplink : goal.invariant-loop-uplink
invariant-loop-uplink l = record {
  bytes : l.to.items ≡ l.fn.to.items ++ flat_map uplink_bytes (take l.uplink-index l.uplinks);
  size : length l.to.items ≡ length l.fn.to.items + 32 * l.uplink-index;
}
