use Rattle.std.proofs.Common.{◌∙◌}
use Rattle.frag_session.specs.HeldSteps.{extent_of}
use Rattle.frag_session.specs.HeldHistory.{Stands}
use Rattle.frag_session.proofs.slots.renewed.Goals as goal

pub returns-in-Ok-clause-stands : goal.returns-in-Ok-clause-stands
unfolding Stands
returns-in-Ok-clause-stands g c = c.in-Ok.ensures.stands

pub returns-in-Ok-clause-extent : goal.returns-in-Ok-clause-extent
unfolding extent_of
returns-in-Ok-clause-extent g c = c.in-Ok.ensures.extent ∙ c.cleared.ensures
