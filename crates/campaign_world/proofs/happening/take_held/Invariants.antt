use Rattle.std.proofs.Common.{◌≡◌, ◌≤◌, ◌+◌, length}
use Rattle.device_core.specs.Device.{DeviceState, outbox_size}
use Rattle.device_core.specs.HeldDevice.{DeviceStands}
use Rattle.campaign_world.specs.HeldLog.{HasRoom}
use Rattle.campaign_world.specs.HeldEvent.{numbered_after}
use Rattle.campaign_world.specs.WorldInside.{StayMade}
use Rattle.campaign_world.proofs.happening.take_held.Given as goal

abbrev pub invariant-loop-left : goal.invariant-loop-left
invariant-loop-left l = record {
  stands : (d : DeviceState) → DeviceStands l.fn.device d → DeviceStands l.device (record d { outbox = l.device.outbox });
  taken : numbered_after l.uplinks.items l.id l.device.outbox ≡ numbered_after l.fn.uplinks.items l.id l.fn.device.outbox;
  made : StayMade l.id l.fn.uplinks.items l.uplinks.items;
  count : length l.device.outbox + outbox_size ≡ length l.fn.device.outbox + l.left;
  few : l.left ≤ outbox_size;
  room : HasRoom l.left l.uplinks;
  same : l.device.sessions ≡ l.fn.device.sessions;
}

abbrev pub decreases-loop-left : goal.decreases-loop-left
decreases-loop-left l = l.left
