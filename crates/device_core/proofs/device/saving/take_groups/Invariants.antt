use Rattle.std.proofs.Common.{◌≡◌, ℕ, ◌<◌, length, get_or, None}
use Rattle.device_core.specs.SavingInside.{place_in}
use Rattle.device_core.proofs.device.saving.take_groups.Given as goal

abbrev pub invariant-loop-id : goal.invariant-loop-id
invariant-loop-id l = record {
  size : length l.groups ≡ l.number;
  read : (k : ℕ) → k < l.id → get_or l.groups k None ≡ place_in l.fn.saved k;
}
