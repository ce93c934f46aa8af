use Rattle.std.proofs.Common.{◌∙◌, arith}
use Rattle.pair_run.specs.PairReport.{pair_parts}
use Rattle.pair_run.proofs.Parts.{part_told, all_told}
use Rattle.pair_run.proofs.report.pair_parts.Goals as goal

pub loop-owner-preserved : goal.loop-owner-preserved
loop-owner-preserved c = record {
  id_is = let is = c.loop-owner.invariant.id_is in omega (arith, is);
  told = λ pair sa sb own.
      part_told pair c.loop-owner.text.items c.as_bytes.result.now c.extend_from_slice.new.self.items (pair_parts pair 1 pair.owners)
      c.loop-owner.id c.loop-owner.owner-index c.args.owners.now.items _
      (rw (c.deref-owner-items.ensures.value) at c.loop-owner-test.true) c.in_ok-extend_from_slice.ensures.items
      (c.as_bytes.ensures.value ∙ (rw (c.deref-owner-items.ensures.value) at c.in_ok-part.ensures pair sa sb))
      (c.loop-owner.invariant.told pair sa sb own);
}

pub returns : goal.returns
returns c = λ pair sa sb own.
    all_told pair c.loop-owner.text.items (pair_parts pair 1 pair.owners) c.loop-owner.id c.loop-owner.owner-index c.args.owners.now.items
    (rw (c.deref-owner-items.ensures.value) at c.loop-owner-test.false) (c.loop-owner.invariant.told pair sa sb own)
