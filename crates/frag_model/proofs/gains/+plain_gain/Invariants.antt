use Rattle.std.proofs.Common.{length}
use Rattle.frag_model.proofs.gains.+plain_gain.Given as goal

abbrev pub decreases-plain_gain : goal.decreases-plain_gain
decreases-plain_gain l = length l.lines.now
