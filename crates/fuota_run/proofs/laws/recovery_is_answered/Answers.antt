use Rattle.fuota_run.proofs.HeadlineAnswered.{recovery_answered}
use Rattle.fuota_run.proofs.laws.recovery_is_answered.Goals as goal

pub returns : goal.returns
returns c = recovery_answered
