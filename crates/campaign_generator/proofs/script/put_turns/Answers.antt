use Rattle.std.proofs.Common.{◌≡◌, ℕ, ◌+◌, ◌-◌, arith}
use Rattle.campaign_generator.specs.Script.{turn, turns}
use Rattle.campaign_generator.proofs.Drawing.{turns_more, turns_end, goes_on, ends_so}
use Rattle.campaign_generator.proofs.script.put_turns.Goals as goal

pub loop-k-preserved : goal.loop-k-preserved
loop-k-preserved c =
    let left : ℕ = c.args.each - (c.loop-k.k + 1) in
    let one : c.args.each - c.loop-k.k ≡ left + 1 = omega (arith, c.loop-k-test.true) in
    let sent : c.args.sent + (c.loop-k.k + 1) ≡ c.args.sent + c.loop-k.k + 1 = omega arith in
    let uplink : c.args.uplink + (c.loop-k.k + 1) ≡ c.args.uplink + c.loop-k.k + 1 = omega arith in
    rw (sent, uplink) (goes_on c.loop-k.text.items c.put_turn.new.text.items
    (turn c.args.device (c.args.sent + c.loop-k.k) (c.args.uplink + c.loop-k.k)) _
    (turns c.args.device (c.args.sent + c.loop-k.k + 1) (c.args.uplink + c.loop-k.k + 1) left) _
    c.in_ok-put_turn.ensures (turns_more c.args.device (c.args.sent + c.loop-k.k) (c.args.uplink + c.loop-k.k) _ left one) c.loop-k.invariant)

pub returns : goal.returns
returns c =
    let none : c.args.each - c.loop-k.k ≡ 0 = omega (arith, c.loop-k-test.false) in
    ends_so c.loop-k.text.items _ _ (turns_end c.args.device (c.args.sent + c.loop-k.k) (c.args.uplink + c.loop-k.k) _ none) c.loop-k.invariant
