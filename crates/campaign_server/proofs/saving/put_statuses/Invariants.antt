use Rattle.std.proofs.Common.{◌≡◌, ◌+◌, ◌*◌, ◌++◌, length, take}
use Rattle.std.specs.List.{flat_map}
use Rattle.campaign_server.specs.Saving.{status_bytes}
use Rattle.campaign_server.proofs.saving.put_statuses.Given as goal

abbrev pub invariant-loop-status : goal.invariant-loop-status
invariant-loop-status l = record {
  bytes : l.to.items ≡ l.fn.to.items ++ flat_map status_bytes (take l.status-index l.statuses);
  size : length l.to.items ≡ length l.fn.to.items + 4 * l.status-index;
}
