use Rattle.std.proofs.Common.{◌≡◌, ◌+◌, ◌*◌, length, map}
use Rattle.std.specs.List.{AllByRecursion, range_with_len}
use Rattle.device_core.specs.Saving.{UplinkFits}
use Rattle.device_core.specs.SavingInside.{uplink_at}
use Rattle.device_core.proofs.outbox.Outbox.read.Given as goal

abbrev pub invariant-loop-k : goal.invariant-loop-k
invariant-loop-k l = record {
  uplinks : l.uplinks.items ≡ map (λ k. uplink_at l.fn.saved (204 + 32 * k)) (range_with_len 0 l.k);
  fit : AllByRecursion UplinkFits l.uplinks.items;
  size : length l.uplinks.items ≡ l.k;
}
