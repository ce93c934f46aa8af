use Rattle.std.proofs.Common.{◌≡◌, ℕ, ◌+◌, ◌-◌, sym, ◌∙◌, arith}
use Rattle.campaign_generator.specs.Draws.{drawn}
use Rattle.campaign_generator.specs.Script.{device_line, devices_from}
use Rattle.campaign_generator.proofs.Drawing.{devices_more, devices_end, draws_more, draws_end, goes_on, ends_so}
use Rattle.campaign_generator.proofs.script.put_devices.Goals as goal

pub loop-k-preserved : goal.loop-k-preserved
loop-k-preserved c =
    let g : ℕ = c.loop-k.draws.state in
    let left : ℕ = 8 - (c.loop-k.k + 1) in
    let one : 8 - c.loop-k.k ≡ left + 1 = omega (arith, c.loop-k-test.true) in
    rw (c.draw.ensures.state) (record {
      lines = goes_on c.loop-k.text.items c.put_device.new.text.items (device_line (c.loop-k.k + 1) (drawn g)) _ (devices_from _ _ left) _
          (rw (← c.draw.ensures.value) c.in_ok-put_device.ensures) (devices_more g (c.loop-k.k + 1) _ left one) c.loop-k.invariant.lines;
      state = sym (draws_more g _ left one) ∙ c.loop-k.invariant.state;
    })

pub returns-clause-lines : goal.returns-clause-lines
returns-clause-lines c =
    let none : 8 - c.loop-k.k ≡ 0 = omega (arith, c.loop-k-test.false) in
    ends_so c.loop-k.text.items _ _ (devices_end c.loop-k.draws.state (c.loop-k.k + 1) _ none) c.loop-k.invariant.lines

pub returns-clause-state : goal.returns-clause-state
returns-clause-state c =
    let none : 8 - c.loop-k.k ≡ 0 = omega (arith, c.loop-k-test.false) in
    sym (draws_end c.loop-k.draws.state _ none) ∙ c.loop-k.invariant.state
