use Rattle.std.proofs.Common.{refl}
use Rattle.flash_session.proofs.Renewing.{at_answer, answered_as}
use Rattle.flash_session.proofs.held.Held.status.Goals as goal

pub returns-in-None-clause-answer : goal.returns-in-None-clause-answer
returns-in-None-clause-answer g c = λ o held counts. answered_as _ o c.args.via c.args.all _ _ held counts refl (at_answer _ _ c.args.via c.args.all _ c.self.view_is c.in-None.ensures.answer)

pub returns-in-Some-clause-answer : goal.returns-in-Some-clause-answer
returns-in-Some-clause-answer g c = λ o held counts. answered_as _ o c.args.via c.args.all _ _ held counts c.received.ensures.value (at_answer _ _ c.args.via c.args.all _ c.self.view_is c.in-Some.ensures.answer)
