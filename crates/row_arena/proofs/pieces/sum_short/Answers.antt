use Rattle.std.proofs.Common.{◌+◌, ◌*◌, ◌<◌, ◌≤◌, length, get_or, refl, ap, ◌∙◌, arith}
use Rattle.row_arena.proofs.Picking.{summed_none, summed_more}
use Rattle.row_arena.proofs.pieces.sum_short.Goals as goal

pub loop-n-init : goal.loop-n-init
loop-n-init c =
    summed_none 16 (length c.args.part.now) c.args.area.now c.args.part.now c.args.picks.now c.lanes_at-sum.result c.lanes_at-sum.ensures.wide
    (λ i lt. c.lanes_at-sum.ensures.each i (omega (arith, c.requires.few)) (omega (arith, lt)) ∙ ap (λ j. get_or c.args.part.now j 0) (omega arith))

pub loop-n-preserved : goal.loop-n-preserved
loop-n-preserved c =
    let size = length c.args.part.now in
    let lt : c.loop-n.n < length c.args.picks.now = omega arith in
    let k = get_or c.args.picks.now c.loop-n.n 0 in
    let room : k * size + size ≤ length c.args.area.now = c.requires.picks c.loop-n.n lt in
    summed_more 16 size c.loop-n.n (c.loop-n.n + 1) k c.args.area.now c.args.part.now c.args.picks.now c.loop-n.sum c.lanes_at-sum-in-loop-n.result
    refl refl lt (omega (arith, c.requires.few)) c.lanes_at-sum-in-loop-n.ensures.wide
    (λ i low. c.lanes_at-sum-in-loop-n.ensures.each i (omega (arith, c.requires.few)) (omega arith)) c.loop-n.invariant
