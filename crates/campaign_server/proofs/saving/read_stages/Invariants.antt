use Rattle.std.proofs.Common.{◌≡◌, ℕ, ◌<◌, length, get_or}
use Rattle.campaign_server.specs.declared.stage.Stage.{Stage}
use Rattle.campaign_server.specs.SavingInside.{stage_at}
use Rattle.campaign_server.proofs.saving.read_stages.Given as goal

abbrev pub invariant-loop-k : goal.invariant-loop-k
invariant-loop-k l = record {
  size : length l.stages ≡ length l.fn.stages;
  read : (k : ℕ) (d : Stage) → k < l.k → get_or l.stages k d ≡ stage_at l.bytes k;
}
