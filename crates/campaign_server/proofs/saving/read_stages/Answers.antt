use Rattle.std.proofs.Common.{length, ◌∙◌, arith}
use Rattle.std.proofs.lemmas.List.{length-set}
use Rattle.std.proofs.lemmas.List.Edits.{fill_by_more}
use Rattle.std.proofs.lemmas.List.FromFn.{fill_by_all}
use Rattle.campaign_server.specs.declared.stage.Stage.TheVariants.{Updated}
use Rattle.campaign_server.specs.SavingInside.{stage_at}
use Rattle.campaign_server.proofs.saving.read_stages.Goals as goal

pub loop-k-preserved : goal.loop-k-preserved
loop-k-preserved c =
    record {
      size = length-set c.loop-k.stages c.loop-k.k c.stage_at.result ∙ c.loop-k.invariant.size;
      read = rw c.stage_at.ensures
          (λ k d less. fill_by_more (λ k. stage_at c.args.bytes.now k) c.loop-k.stages c.loop-k.k d (omega arith)
          (λ j low. c.loop-k.invariant.read j d low) k less);
    }

pub returns : goal.returns
returns c =
    fill_by_all (λ k. stage_at c.args.bytes.now k) c.loop-k.stages (length c.args.stages.now) Updated c.loop-k.invariant.size
    (λ k less. c.loop-k.invariant.read k Updated (omega arith))
