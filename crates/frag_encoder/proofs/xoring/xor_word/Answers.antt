use Rattle.std.proofs.Common.{List, ℕ, length, take, refl, subst, arith}
use Rattle.row_arena.specs.Sums.{IsSum}
use Rattle.frag_encoder.proofs.Listing.{listing_begins, listing_fits, listing_more, listing_done}
use Rattle.frag_encoder.proofs.xoring.xor_word.Goals as goal

pub loop-left-init : goal.loop-left-init
loop-left-init g c = listing_begins (length c.args.sum.now) c.args.word c.args.columns c.args.bytes.now c.args.sum.now _ c.requires.word refl

pub bounds-picks-count : goal.bounds-picks-count
bounds-picks-count g c =
    listing_fits (length c.args.sum.now) c.args.word c.loop-left.left c.loop-left.count c.args.columns c.args.bytes.now c.args.sum.now c.loop-left.picks
    (omega arith) c.loop-left.auto.left-fits.fits c.ranges.word.fits c.loop-left.invariant

pub loop-left-preserved : goal.loop-left-preserved
loop-left-preserved g c =
    listing_more (length c.args.sum.now) c.args.word c.loop-left.left _ _ c.loop-left.count _ c.args.columns c.args.bytes.now c.args.sum.now c.loop-left.picks
    (omega arith) c.loop-left.auto.left-fits.fits c.ranges.word.fits refl refl refl c.requires.bytes c.loop-left.invariant

pub returns-clause-sum : goal.returns-clause-sum
returns-clause-sum g c =
    let picks : List ℕ = take c.loop-left.count c.loop-left.picks in
    listing_done (length c.args.sum.now) c.args.word c.loop-left.left c.loop-left.count c.args.columns c.args.bytes.now c.args.sum.now c.loop-left.picks c.sum_pieces.new.rest
    (omega arith) refl (omega (arith, c.sum_pieces.auto.rest))
    (subst (λ part. IsSum c.args.bytes.now picks part c.sum_pieces.new.rest) c.copy_from_slice.ensures.after c.sum_pieces.ensures) c.loop-left.invariant
