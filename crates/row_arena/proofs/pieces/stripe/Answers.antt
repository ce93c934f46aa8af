use Rattle.std.proofs.Common.{◌+◌, ◌*◌, ◌<◌, ◌≤◌, length, get_or, refl, arith}
use Rattle.row_arena.proofs.Picking.{stripe_none, stripe_more, stripe_here, stripe_beside}
use Rattle.row_arena.proofs.pieces.stripe.Goals as goal

pub loop-n-init : goal.loop-n-init
loop-n-init c = stripe_none 64 (length c.args.part.now) c.args.at c.args.area.now c.args.part.now c.args.picks.now c.requires.inside

pub loop-n-preserved : goal.loop-n-preserved
loop-n-preserved c =
    let size = length c.args.part.now in
    let lt : c.loop-n.n < length c.args.picks.now = omega arith in
    let k = get_or c.args.picks.now c.loop-n.n 0 in
    let room : k * size + size ≤ length c.args.area.now = c.requires.picks c.loop-n.n lt in
    stripe_more 64 size c.args.at c.loop-n.n (c.loop-n.n + 1) k (k * size + c.args.at) c.args.area.now c.args.part.now c.args.picks.now c.loop-n.sum
    refl refl refl lt (omega arith) c.loop-n.invariant

pub returns-clause-here : goal.returns-clause-here
returns-clause-here c = stripe_here 64 (length c.args.part.now) c.args.at c.loop-n.n c.args.area.now c.args.part.now c.args.picks.now c.loop-n.sum c.args.rest.now
    c.loop-n.invariant (omega arith) (omega arith)

pub returns-clause-others : goal.returns-clause-others
returns-clause-others c = stripe_beside 64 c.args.at c.loop-n.sum c.args.rest.now c.loop-n.invariant.sized
