use Rattle.fuota_run.proofs.WorkedAnswers.{answers_are, in_order}
use Rattle.fuota_run.proofs.laws.worked_answers.Goals as goal

pub returns : goal.returns
returns c = record { answers = answers_are; order = in_order }
