use Rattle.std.proofs.Common.{is_some, ap, refl, ◌∙◌}
use Rattle.frag_session.specs.HeldSteps.{extent_of}
use Rattle.frag_session.specs.HeldHistory.{Stands}
use Rattle.frag_session.proofs.Calls.{lived}
use Rattle.frag_session.proofs.slots.Slot.delete.Goals as goal

pub returns-clause-answer : goal.returns-clause-answer
returns-clause-answer g c = λ s k. c.is_some-lived.ensures ∙ ap is_some c.session.ensures ∙ lived c.args.self.now s k

pub returns-clause-stands : goal.returns-clause-stands
unfolding Stands
returns-clause-stands g c = rw c.clear.ensures tt

pub returns-clause-extent : goal.returns-clause-extent
unfolding extent_of
returns-clause-extent g c = rw c.clear.ensures refl
