use Rattle.std.proofs.Common.{length}
use Rattle.frag_model.proofs.gains.+plain_direct.Given as goal

abbrev pub decreases-plain_direct : goal.decreases-plain_direct
decreases-plain_direct l = length l.numbers.now
