use Rattle.fuota_run.proofs.ReplayAnswered.{answered}
use Rattle.fuota_run.proofs.laws.replay_is_answered.Goals as goal

pub returns : goal.returns
returns c = answered
