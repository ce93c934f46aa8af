use Rattle.fuota_run.proofs.HeadlineAnswered.{answered}
use Rattle.fuota_run.proofs.laws.report_is_answered.Goals as goal

pub returns : goal.returns
returns c = answered
