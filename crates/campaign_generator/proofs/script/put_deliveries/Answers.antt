use Rattle.std.proofs.Common.{◌≡◌, ℕ, ◌+◌, ◌-◌, arith}
use Rattle.campaign_generator.specs.Draws.{after_draws}
use Rattle.campaign_generator.specs.Script.{downs_from, deliveries}
use Rattle.campaign_generator.proofs.Drawing.{deliveries_more, deliveries_end, goes_on, ends_so}
use Rattle.campaign_generator.proofs.script.put_deliveries.Goals as goal

pub loop-k-preserved : goal.loop-k-preserved
loop-k-preserved c =
    let g : ℕ = c.loop-k.draws.state in
    let left : ℕ = 8 - (c.loop-k.k + 1) in
    let one : 8 - c.loop-k.k ≡ left + 1 = omega (arith, c.loop-k-test.true) in
    rw (c.in_ok-put_fragments.ensures.state) (goes_on c.loop-k.text.items c.put_fragments.new.text.items
    (downs_from (c.loop-k.k + 1) c.args.pieces g 1 0 (c.args.pieces + 128)) _
    (deliveries c.args.pieces (after_draws g (c.args.pieces + 128)) (c.loop-k.k + 1 + 1) left) _
    c.in_ok-put_fragments.ensures.lines (deliveries_more c.args.pieces g (c.loop-k.k + 1) _ left one) c.loop-k.invariant)

pub returns : goal.returns
returns c =
    let none : 8 - c.loop-k.k ≡ 0 = omega (arith, c.loop-k-test.false) in
    ends_so c.loop-k.text.items _ _ (deliveries_end c.args.pieces c.loop-k.draws.state (c.loop-k.k + 1) _ none) c.loop-k.invariant
