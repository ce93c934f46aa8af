use Rattle.std.proofs.Common.{◌≡◌, ◌+◌, ◌-◌, ◌≤◌, ◌++◌}
use Rattle.campaign_generator.specs.Draws.{after_draws}
use Rattle.campaign_generator.specs.Script.{downs_from}
use Rattle.campaign_generator.proofs.script.put_fragments.Given as goal

abbrev pub invariant-loop-k : goal.invariant-loop-k
invariant-loop-k l = record {
  few : l.skipped ≤ l.k;
  lines : l.text.items ++ downs_from l.device l.pieces l.draws.state (l.k + 1) l.skipped (l.pieces + 128 - l.k)
      ≡ l.fn.text.items ++ downs_from l.device l.pieces l.fn.draws.state 1 0 (l.pieces + 128);
  state : after_draws l.draws.state (l.pieces + 128 - l.k) ≡ after_draws l.fn.draws.state (l.pieces + 128);
}
