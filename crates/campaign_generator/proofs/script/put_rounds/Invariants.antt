use Rattle.std.proofs.Common.{◌≡◌, ◌+◌, ◌-◌, ◌*◌, ◌≤◌, ◌++◌}
use Rattle.campaign_generator.specs.Script.{rounds}
use Rattle.campaign_generator.proofs.script.put_rounds.Given as goal

abbrev pub invariant-loop-k : goal.invariant-loop-k
invariant-loop-k l = record {
  sent : l.sent ≤ l.fn.sent + 4 * l.k;
  uplinks : l.uplink ≤ l.fn.uplink + 4 * l.k;
  lines : l.text.items ++ rounds l.each (l.k + 1) l.sent l.uplink (8 - l.k) ≡ l.fn.text.items ++ rounds l.each 1 l.fn.sent l.fn.uplink 8;
}
