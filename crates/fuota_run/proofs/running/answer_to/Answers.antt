use Rattle.std.proofs.Common.{refl}
use Rattle.fuota_run.proofs.AnswerLemmas.{holds_asked}
use Rattle.fuota_run.proofs.running.answer_to.Goals as goal

pub answer_for-requires : goal.answer_for-requires
answer_for-requires g c = rw c.in-Ok.ensures (holds_asked _ _ c.requires)

pub returns-in-Ok-clause-answer : goal.returns-in-Ok-clause-answer
returns-in-Ok-clause-answer g c = rw (← c.in-Ok.ensures) c.answer_for.ensures.answer

pub returns-in-Ok-clause-untouched : goal.returns-in-Ok-clause-untouched
returns-in-Ok-clause-untouched g c = rw (← c.in-Ok.ensures) c.answer_for.ensures.untouched

pub returns-in-Err-clause-answer : goal.returns-in-Err-clause-answer
returns-in-Err-clause-answer g c = tt

pub returns-in-Err-clause-untouched : goal.returns-in-Err-clause-untouched
returns-in-Err-clause-untouched g c = λ none. refl
