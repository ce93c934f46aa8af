use Rattle.std.proofs.Common.{◌≡◌, ◌≤◌, ◌+◌, ◌*◌, length}
use Rattle.device_core.specs.Step.{weights}
use Rattle.device_core.proofs.device.acting.weights.Given as goal

abbrev pub invariant-loop-command : goal.invariant-loop-command
invariant-loop-command l = record {
  sum : l.sum + weights l.message.commands ≡ weights l.fn.message.commands;
  few : l.sum + 7 * length l.message.commands ≤ 1694;
}

abbrev pub decreases-loop-command : goal.decreases-loop-command
decreases-loop-command l = length l.message.commands
