use Rattle.std.proofs.Common.{◌≡◌, ◌+◌, ◌++◌, drop}
use Rattle.campaign_world.specs.HeldWorld.{WorldStands}
use Rattle.pair_run.specs.Pair.{PairState}
use Rattle.pair_run.specs.PairReport.{pair_parts}
use Rattle.pair_run.proofs.report.pair_parts.Given as goal

abbrev pub invariant-loop-owner : goal.invariant-loop-owner
invariant-loop-owner l = record {
  id_is : l.id ≡ l.owner-index + 1;
  told : (pair : PairState) → WorldStands l.a pair.a → WorldStands l.b pair.b → pair.owners ≡ l.owners.items
      → l.text.items ++ pair_parts pair l.id (drop l.owner-index l.owners.items) ≡ pair_parts pair 1 pair.owners;
}
