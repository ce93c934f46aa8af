use Rattle.fuota_run.proofs.PairAnswered.{answered, two_campaigns, apart}
use Rattle.fuota_run.proofs.laws.pair_is_answered.Goals as goal

pub returns-clause-answered : goal.returns-clause-answered
returns-clause-answered c = answered

pub returns-clause-each : goal.returns-clause-each
returns-clause-each c = two_campaigns

pub returns-clause-apart : goal.returns-clause-apart
returns-clause-apart c = apart
