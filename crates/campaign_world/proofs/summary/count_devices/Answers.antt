use Rattle.std.proofs.Common.{sym, arith}
use Rattle.campaign_world.specs.HeldLate.{DeviceRests}
use Rattle.campaign_world.specs.Summary.{totals_from, nothing_counted}
use Rattle.campaign_world.proofs.Zips.{zip_get, zip_long}
use Rattle.campaign_world.proofs.Counting.{all_counted, one_counted}
use Rattle.campaign_world.proofs.summary.count_devices.Goals as goal

pub loop-device-preserved : goal.loop-device-preserved
loop-device-preserved c = record {
  id_is = let is = c.loop-device.invariant.id_is in omega (arith, is);
  heard = let was = c.loop-device.invariant.heard in let more = c.with_device-totals.ensures.heard in omega (arith, was, more);
  complete = let was = c.loop-device.invariant.complete in let more = c.with_device-totals.ensures.complete in omega (arith, was, more);
  updated = let was = c.loop-device.invariant.updated in let more = c.with_device-totals.ensures.updated in omega (arith, was, more);
  counted = λ ds all. let one = zip_get DeviceRests c.args.devices.now.items ds c.loop-device.device-index c.device-item.result all (rw c.deref-device-items.ensures.value at c.loop-device-test.true) (rw c.deref-device-items.ensures.value at c.device-item.is) in
      one_counted c.loop-device.totals c.with_device-totals.result (totals_from nothing_counted c.args.server.now.stages ds) c.loop-device.id c.loop-device.device-index c.args.server.now.stages ds c.ledger.result one.0
      c.loop-device.invariant.id_is (sym c.ledger.ensures) one.1 (c.with_device-totals.ensures.counted one.0 one.2) (c.loop-device.invariant.counted ds all);
}

pub returns : goal.returns
returns c = λ ds all. all_counted c.loop-device.totals (totals_from nothing_counted c.args.server.now.stages ds) c.loop-device.device-index _ ds (rw (zip_long DeviceRests c.args.devices.now.items ds all, ← c.deref-device-items.ensures.value) c.loop-device-test.false) (c.loop-device.invariant.counted ds all)
