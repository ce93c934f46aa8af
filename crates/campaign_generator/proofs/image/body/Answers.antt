use Rattle.std.proofs.Common.{◌≡◌, ℕ, ◌+◌, ◌-◌, ◌%◌, [], ◌∷◌, sym, ◌∙◌, arith}
use Rattle.campaign_generator.specs.Draws.{drawn}
use Rattle.campaign_generator.specs.Firmware.{bytes_from}
use Rattle.campaign_generator.proofs.Drawing.{bytes_more, bytes_end, draws_more, draws_end, goes_on, ends_so}
use Rattle.campaign_generator.proofs.image.body.Goals as goal

pub loop-k-preserved : goal.loop-k-preserved
loop-k-preserved c =
    let g : ℕ = c.loop-k.draws.state in
    let left : ℕ = c.args.size - (c.loop-k._k + 1) in
    let one : c.args.size - c.loop-k._k ≡ left + 1 = omega (arith, c.loop-k-test.true) in
    rw (c.draw.ensures.state) (record {
      bytes = goes_on c.loop-k.bytes.items c.push.new.self.items (drawn g % 256 ∷ []) _ (bytes_from _ left) _
          (rw (← c.draw.ensures.value) c.in_ok-push.ensures.items) (bytes_more g _ left one) c.loop-k.invariant.bytes;
      state = sym (draws_more g _ left one) ∙ c.loop-k.invariant.state;
    })

pub returns-clause-bytes : goal.returns-clause-bytes
returns-clause-bytes c =
    let none : c.args.size - c.loop-k._k ≡ 0 = omega (arith, c.loop-k-test.false) in
    ends_so c.loop-k.bytes.items _ _ (bytes_end c.loop-k.draws.state _ none) c.loop-k.invariant.bytes

pub returns-clause-state : goal.returns-clause-state
returns-clause-state c =
    let none : c.args.size - c.loop-k._k ≡ 0 = omega (arith, c.loop-k-test.false) in
    sym (draws_end c.loop-k.draws.state _ none) ∙ c.loop-k.invariant.state
