use Rattle.frag_model.proofs.Enough.{gain-most, gain-least}
use Rattle.frag_model.proofs.laws.gain_is_bounded.Goals as goal

pub returns : goal.returns
returns c = record { most = gain-most; least = gain-least }
