use Rattle.std.proofs.Common.{length}
use Rattle.frag_encoder.proofs.Listing.{Listed}
use Rattle.frag_encoder.proofs.xoring.xor_word.Given as goal

abbrev pub invariant-loop-left : goal.invariant-loop-left
invariant-loop-left g l = Listed (length l.sum) l.word l.left l.count l.columns l.bytes l.sum l.picks

abbrev pub decreases-loop-left : goal.decreases-loop-left
decreases-loop-left g l = l.left
