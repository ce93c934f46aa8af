use Rattle.std.proofs.Common.{◌≡◌, ◌+◌, ◌-◌, ◌++◌}
use Rattle.campaign_generator.specs.Draws.{after_draws}
use Rattle.campaign_generator.specs.Script.{devices_from}
use Rattle.campaign_generator.proofs.script.put_devices.Given as goal

abbrev pub invariant-loop-k : goal.invariant-loop-k
invariant-loop-k l = record {
  lines : l.text.items ++ devices_from l.draws.state (l.k + 1) (8 - l.k) ≡ l.fn.text.items ++ devices_from l.fn.draws.state 1 8;
  state : after_draws l.draws.state (8 - l.k) ≡ after_draws l.fn.draws.state 8;
}
