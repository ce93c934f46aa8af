use Rattle.std.proofs.Common.{length, ◌∙◌, arith, None}
use Rattle.std.proofs.lemmas.List.{length-set}
use Rattle.std.proofs.lemmas.List.Edits.{fill_by_more}
use Rattle.std.proofs.lemmas.List.FromFn.{fill_by_all}
use Rattle.campaign_server.specs.SavingInside.{status_at}
use Rattle.campaign_server.proofs.saving.read_statuses.Goals as goal

pub loop-k-preserved : goal.loop-k-preserved
loop-k-preserved c =
    record {
      size = length-set c.loop-k.statuses c.loop-k.k c.status_at.result ∙ c.loop-k.invariant.size;
      read = rw c.status_at.ensures
          (λ k d less. fill_by_more (λ k. status_at c.args.bytes.now (length c.args.statuses.now) k) c.loop-k.statuses c.loop-k.k d (omega arith)
          (λ j low. c.loop-k.invariant.read j d low) k less);
    }

pub returns : goal.returns
returns c =
    fill_by_all (λ k. status_at c.args.bytes.now (length c.args.statuses.now) k) c.loop-k.statuses (length c.args.statuses.now) None
    c.loop-k.invariant.size (λ k less. c.loop-k.invariant.read k None (omega arith))
