use Rattle.std.proofs.Common.{◌≡◌, ℕ, ◌+◌, ◌-◌, ◌%◌, ◌==◌, sym, ◌∙◌, arith}
use Rattle.campaign_generator.specs.Draws.{drawn}
use Rattle.campaign_generator.specs.Script.{is_skipped, downs}
use Rattle.campaign_generator.proofs.Drawing.{downs_more, downs_end, draws_more, draws_end, skips_few, goes_on, ends_so}
use Rattle.campaign_generator.proofs.script.put_fragments.Goals as goal

pub loop-k-preserved : goal.loop-k-preserved
loop-k-preserved c =
    let g : ℕ = c.loop-k.draws.state in
    let n : ℕ = c.loop-k.k + 1 in
    let left : ℕ = c.args.pieces + 128 - n in
    let one : c.args.pieces + 128 - c.loop-k.k ≡ left + 1 = omega (arith, c.loop-k-test.true) in
    record {
      few = rw c.skips-skipped.ensures (omega (arith, skips_few c.is_skipped-skip.result c.args.pieces n c.loop-k.skipped, c.loop-k.invariant.few));
      lines = rw (c.skips-skipped.ensures, c.is_skipped-skip.ensures, c.draw-v.ensures.state, c.draw-v.ensures.value)
          (goes_on c.loop-k.text.items c.put_downs.new.text.items
          (downs (is_skipped (drawn g % 10) c.args.pieces n c.loop-k.skipped) (drawn g % 10 == 1) c.args.device n) _ _ _
          (rw (← c.draw-v.ensures.value, ← c.is_skipped-skip.ensures) c.in_ok-put_downs.ensures)
          (downs_more c.args.device c.args.pieces g n c.loop-k.skipped _ left one) c.loop-k.invariant.lines);
      state = rw c.draw-v.ensures.state (sym (draws_more g _ left one) ∙ c.loop-k.invariant.state);
    }

pub returns-clause-lines : goal.returns-clause-lines
returns-clause-lines c =
    let none : c.args.pieces + 128 - c.loop-k.k ≡ 0 = omega (arith, c.loop-k-test.false) in
    ends_so c.loop-k.text.items _ _ (downs_end c.args.device c.args.pieces c.loop-k.draws.state (c.loop-k.k + 1) c.loop-k.skipped _ none) c.loop-k.invariant.lines

pub returns-clause-state : goal.returns-clause-state
returns-clause-state c =
    let none : c.args.pieces + 128 - c.loop-k.k ≡ 0 = omega (arith, c.loop-k-test.false) in
    sym (draws_end c.loop-k.draws.state _ none) ∙ c.loop-k.invariant.state
