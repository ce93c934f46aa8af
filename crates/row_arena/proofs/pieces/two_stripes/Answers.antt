use Rattle.std.proofs.Common.{◌+◌, ◌*◌, ◌<◌, ◌≤◌, length, get_or, refl, ◌∙◌, inl, inr, arith}
use Rattle.std.proofs.lemmas.Bool.{cases_lt}
use Rattle.std.proofs.lemmas.Simd.{length-put_chunk}
use lib.Lanes.{put_chunk}
use Rattle.row_arena.proofs.Picking.{stripe_none, stripe_more, stripe_here, stripe_beside}
use Rattle.row_arena.proofs.pieces.two_stripes.Goals as goal

pub loop-n-init : goal.loop-n-init
loop-n-init c = (
  stripe_none 16 (length c.args.part.now) c.args.at c.args.area.now c.args.part.now c.args.picks.now c.requires.inside,
  stripe_none 16 (length c.args.part.now) c.args.other c.args.area.now c.args.part.now c.args.picks.now c.requires.other_inside,
)

pub loop-n-preserved : goal.loop-n-preserved
loop-n-preserved c =
    let size = length c.args.part.now in
    let lt : c.loop-n.n < length c.args.picks.now = omega arith in
    let k = get_or c.args.picks.now c.loop-n.n 0 in
    let room : k * size + size ≤ length c.args.area.now = c.requires.picks c.loop-n.n lt in (
      stripe_more 16 size c.args.at c.loop-n.n (c.loop-n.n + 1) k (k * size + c.args.at) c.args.area.now c.args.part.now c.args.picks.now c.loop-n.sum
          refl refl refl lt (omega arith) c.loop-n.invariant.0,
      stripe_more 16 size c.args.other c.loop-n.n (c.loop-n.n + 1) k (k * size + c.args.other) c.args.area.now c.args.part.now c.args.picks.now c.loop-n.more
          refl refl refl lt (omega arith) c.loop-n.invariant.1,
    )

pub returns-clause-here : goal.returns-clause-here
returns-clause-here c = λ i low high.
    let first = stripe_here 16 (length c.args.part.now) c.args.at c.loop-n.n c.args.area.now c.args.part.now c.args.picks.now c.loop-n.sum c.args.rest.now
    c.loop-n.invariant.0 (omega arith) (omega arith) i low high in
    elim (cases_lt i c.args.other) [
      | inl below ↦ stripe_beside 16 c.args.other c.loop-n.more (put_chunk c.args.at c.args.rest.now c.loop-n.sum) c.loop-n.invariant.1.sized i (inl below) ∙ first
      | inr from ↦ elim (cases_lt i (c.args.other + 16)) [
        | inl within ↦ stripe_here 16 (length c.args.part.now) c.args.other c.loop-n.n c.args.area.now c.args.part.now c.args.picks.now c.loop-n.more
            (put_chunk c.args.at c.args.rest.now c.loop-n.sum) c.loop-n.invariant.1 (omega arith) (omega (arith, length-put_chunk c.args.at c.args.rest.now c.loop-n.sum)) i from within
        | inr above ↦ stripe_beside 16 c.args.other c.loop-n.more (put_chunk c.args.at c.args.rest.now c.loop-n.sum) c.loop-n.invariant.1.sized i (inr above) ∙ first
      ]
    ]

pub returns-clause-there : goal.returns-clause-there
returns-clause-there c = stripe_here 16 (length c.args.part.now) c.args.other c.loop-n.n c.args.area.now c.args.part.now c.args.picks.now c.loop-n.more
    (put_chunk c.args.at c.args.rest.now c.loop-n.sum) c.loop-n.invariant.1 (omega arith) (omega (arith, length-put_chunk c.args.at c.args.rest.now c.loop-n.sum))

pub returns-clause-others : goal.returns-clause-others
returns-clause-others c = λ i away beyond.
    stripe_beside 16 c.args.other c.loop-n.more (put_chunk c.args.at c.args.rest.now c.loop-n.sum) c.loop-n.invariant.1.sized i beyond
    ∙ stripe_beside 16 c.args.at c.loop-n.sum c.args.rest.now c.loop-n.invariant.0.sized i away
