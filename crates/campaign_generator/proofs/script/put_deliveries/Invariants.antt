use Rattle.std.proofs.Common.{◌≡◌, ◌+◌, ◌-◌, ◌++◌}
use Rattle.campaign_generator.specs.Script.{deliveries}
use Rattle.campaign_generator.proofs.script.put_deliveries.Given as goal

abbrev pub invariant-loop-k : goal.invariant-loop-k
invariant-loop-k l =
    l.text.items ++ deliveries l.pieces l.draws.state (l.k + 1) (8 - l.k) ≡ l.fn.text.items ++ deliveries l.pieces l.fn.draws.state 1 8
