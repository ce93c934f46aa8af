use Rattle.std.proofs.Common.{length}
use Rattle.frag_model.proofs.gains.+plain_is_sum.Given as goal

abbrev pub decreases-plain_is_sum : goal.decreases-plain_is_sum
decreases-plain_is_sum l = length l.lines.now
