use Rattle.std.proofs.Common.{◌≡◌, ◌-◌, ◌++◌}
use Rattle.campaign_generator.specs.Script.{frags}
use Rattle.campaign_generator.proofs.script.put_frags.Given as goal

abbrev pub invariant-loop-k : goal.invariant-loop-k
invariant-loop-k l = l.text.items ++ frags (l.count - l._k) ≡ l.fn.text.items ++ frags l.count
