use Rattle.std.proofs.Common.{◌≡◌, ℕ, ◌+◌, ◌-◌, codes, arith}
use Rattle.campaign_generator.specs.Script.{frags}
use Rattle.campaign_generator.proofs.Drawing.{frags_more, frags_end, goes_on, ends_so}
use Rattle.campaign_generator.proofs.script.put_frags.Goals as goal

pub loop-k-preserved : goal.loop-k-preserved
loop-k-preserved c =
    let left : ℕ = c.args.count - (c.loop-k._k + 1) in
    let one : c.args.count - c.loop-k._k ≡ left + 1 = omega (arith, c.loop-k-test.true) in
    goes_on c.loop-k.text.items c.extend_from_slice.new.self.items (codes "frag\n") _ (frags left) _
    c.in_ok-extend_from_slice.ensures.items (frags_more _ left one) c.loop-k.invariant

pub returns : goal.returns
returns c =
    let none : c.args.count - c.loop-k._k ≡ 0 = omega (arith, c.loop-k-test.false) in
    ends_so c.loop-k.text.items _ _ (frags_end _ none) c.loop-k.invariant
