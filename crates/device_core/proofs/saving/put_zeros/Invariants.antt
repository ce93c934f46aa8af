use Rattle.std.proofs.Common.{◌≡◌, ◌+◌, ◌++◌, length, replicate}
use Rattle.device_core.proofs.saving.put_zeros.Given as goal

abbrev pub invariant-loop : goal.invariant-loop
invariant-loop l = record {
  bytes : l.to.items ≡ l.fn.to.items ++ replicate l.counter 0;
  size : length l.to.items ≡ length l.fn.to.items + l.counter;
}
