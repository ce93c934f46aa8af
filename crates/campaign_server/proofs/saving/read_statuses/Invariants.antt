use Rattle.std.proofs.Common.{◌≡◌, ℕ, ◌<◌, length, get_or, Option}
use Rattle.campaign_server.specs.declared.stage.LastStatus.{LastStatus}
use Rattle.campaign_server.specs.SavingInside.{status_at}
use Rattle.campaign_server.proofs.saving.read_statuses.Given as goal

abbrev pub invariant-loop-k : goal.invariant-loop-k
invariant-loop-k l = record {
  size : length l.statuses ≡ length l.fn.statuses;
  read : (k : ℕ) (d : Option LastStatus) → k < l.k → get_or l.statuses k d ≡ status_at l.bytes (length l.fn.statuses) k;
}
