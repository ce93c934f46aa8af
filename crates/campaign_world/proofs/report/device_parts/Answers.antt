use Rattle.std.proofs.Common.{◌∙◌, ℕ, List, ap, sym, arith}
use Rattle.campaign_world.specs.HeldLate.{DeviceRests}
use Rattle.campaign_world.specs.Report.{named_part}
use Rattle.campaign_world.proofs.Zips.{zip_get, zip_long}
use Rattle.campaign_world.proofs.Lines.{part_told, all_told}
use Rattle.campaign_world.proofs.report.device_parts.Goals as goal

pub overflow_add-id : goal.overflow_add-id
overflow_add-id c = let few = c.requires.few in let is = c.loop-device.invariant.id_is in let low = c.loop-device-test.true in omega (arith, few, is, low)

pub loop-device-preserved : goal.loop-device-preserved
loop-device-preserved c = record {
  id_is = let is = c.loop-device.invariant.id_is in omega (arith, is);
  told = λ ds all. let one = zip_get DeviceRests c.args.devices.now.items ds c.loop-device.device-index c.device-item.result all (rw c.deref-device-items.ensures.value at c.loop-device-test.true) (rw c.deref-device-items.ensures.value at c.device-item.is) in
      part_told c.args.server.now.image c.loop-device.text.items c.as_bytes.result.now c.extend_from_slice.new.self.items _ c.loop-device.id c.loop-device.device-index c.args.server.now.stages ds c.ledger-stage.result one.0
      c.loop-device.invariant.id_is (sym c.ledger-stage.ensures) one.1 c.in_ok-extend_from_slice.ensures.items (rw (← c.image.ensures) (c.as_bytes.ensures.value ∙ (c.in_ok-part.ensures one.0 one.2 ∙ ap (λ (l : List ℕ). named_part c.image.result.now l c.ledger-stage.result one.0) (c.as_str.ensures.value ∙ c.in_ok-name.ensures)))) (c.loop-device.invariant.told ds all);
}

pub returns : goal.returns
returns c = λ ds all. all_told c.args.server.now.image c.loop-device.text.items _ c.loop-device.id c.loop-device.device-index _ ds (rw (zip_long DeviceRests c.args.devices.now.items ds all, ← c.deref-device-items.ensures.value) c.loop-device-test.false) (c.loop-device.invariant.told ds all)
