use Rattle.std.proofs.Common.{◌≡◌, ◌+◌, ◌-◌, ◌++◌}
use Rattle.campaign_generator.specs.Script.{turns}
use Rattle.campaign_generator.proofs.script.put_turns.Given as goal

abbrev pub invariant-loop-k : goal.invariant-loop-k
invariant-loop-k l =
    l.text.items ++ turns l.device (l.sent + l.k) (l.uplink + l.k) (l.each - l.k) ≡ l.fn.text.items ++ turns l.device l.sent l.uplink l.each
