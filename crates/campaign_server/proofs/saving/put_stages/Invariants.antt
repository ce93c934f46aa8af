use Rattle.std.proofs.Common.{◌≡◌, ◌+◌, ◌*◌, ◌++◌, length, take}
use Rattle.std.specs.List.{flat_map}
use Rattle.campaign_server.specs.Saving.{stage_bytes}
use Rattle.campaign_server.proofs.saving.put_stages.Given as goal

abbrev pub invariant-loop-stage : goal.invariant-loop-stage
invariant-loop-stage l = record {
  bytes : l.to.items ≡ l.fn.to.items ++ flat_map stage_bytes (take l.stage-index l.stages);
  size : length l.to.items ≡ length l.fn.to.items + 2 * l.stage-index;
}
