use Rattle.std.proofs.Common.{◌≡◌, ◌*◌, ◌/◌, length, subst, arith}
use Rattle.row_arena.specs.Steps.{AddedTo}
use Rattle.row_arena.proofs.Added.{added_all}
use Rattle.row_arena.proofs.lanes.in_lanes.Goals as goal

pub returns : goal.returns
returns c =
    let n = length c.args.from.now in
    let k : c.loop-k.k ≡ n / 32 = omega (arith, c.loop-k.auto.k-end, c.loop-k-test.false) in
    let done : AddedTo (n / 32 * 32) c.args.into.now c.args.from.now c.loop-k.into =
    subst (λ m. AddedTo (m * 32) c.args.into.now c.args.from.now c.loop-k.into) k c.loop-k.invariant in
    added_all n c.args.into.now c.args.from.now c.rest_16.new.into c.requires (omega arith) (c.rest_16.ensures c.args.into.now done)
