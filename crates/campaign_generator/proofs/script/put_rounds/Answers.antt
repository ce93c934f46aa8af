use Rattle.std.proofs.Common.{◌≡◌, ℕ, ◌+◌, ◌-◌, arith}
use Rattle.campaign_generator.specs.Script.{turns, rounds}
use Rattle.campaign_generator.proofs.Drawing.{rounds_more, rounds_end, goes_on, ends_so}
use Rattle.campaign_generator.proofs.script.put_rounds.Goals as goal

pub loop-k-preserved : goal.loop-k-preserved
loop-k-preserved c =
    let left : ℕ = 8 - (c.loop-k.k + 1) in
    let one : 8 - c.loop-k.k ≡ left + 1 = omega (arith, c.loop-k-test.true) in
    record {
      sent = omega (arith, c.requires.turns, c.loop-k.invariant.sent);
      uplinks = omega (arith, c.requires.turns, c.loop-k.invariant.uplinks);
      lines = goes_on c.loop-k.text.items c.put_turns.new.text.items
          (turns (c.loop-k.k + 1) c.loop-k.sent c.loop-k.uplink c.args.each) _ (rounds c.args.each _ _ _ left) _
          c.in_ok-put_turns.ensures (rounds_more c.args.each (c.loop-k.k + 1) c.loop-k.sent c.loop-k.uplink _ left one) c.loop-k.invariant.lines;
    }

pub returns : goal.returns
returns c =
    let none : 8 - c.loop-k.k ≡ 0 = omega (arith, c.loop-k-test.false) in
    ends_so c.loop-k.text.items _ _ (rounds_end c.args.each (c.loop-k.k + 1) c.loop-k.sent c.loop-k.uplink _ none) c.loop-k.invariant.lines
