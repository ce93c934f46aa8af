use Rattle.fuota_run.proofs.OneAnswer.{one_answer, always_answered}
use Rattle.fuota_run.proofs.laws.run_has_one_answer.Goals as goal

pub returns-clause-once : goal.returns-clause-once
returns-clause-once c = one_answer

pub returns-clause-always : goal.returns-clause-always
returns-clause-always c = always_answered
