use Rattle.std.proofs.Common.{sym, ◌∙◌}
use Rattle.frag_session.proofs.Calls.{status_shown, status_unseen, status_unkept}
use Rattle.frag_session.proofs.slots.Slot.status.Goals as goal

pub returns-in-None-clause-answer : goal.returns-in-None-clause-answer
returns-in-None-clause-answer g c = λ s k. sym (status_unseen c.args.self.now s c.args.via c.args.all k (sym c.in-None.ensures.value))

pub returns-in-None-session-clause-answer : goal.returns-in-None-session-clause-answer
returns-in-None-session-clause-answer g c = λ s k. sym (status_unkept c.args.self.now s c.args.via c.args.all k (sym c.in-None-session.ensures))

pub returns-in-Some-session-clause-answer : goal.returns-in-Some-session-clause-answer
returns-in-Some-session-clause-answer g c = λ s k.
    c.status_in.ensures.answer ∙ status_shown c.args.self.now s c.in-Some-session.setup _ c.args.via c.args.all k (sym c.in-Some.ensures.value) (sym c.in-Some-session.ensures)
