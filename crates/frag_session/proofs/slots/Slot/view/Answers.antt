use Rattle.std.proofs.Common.{◌∙◌}
use Rattle.frag_session.proofs.Calls.{shows}
use Rattle.frag_session.proofs.slots.Slot.view.Goals as goal

pub returns-clause-value : goal.returns-clause-value
returns-clause-value g c = λ s k. c.shown.ensures.value ∙ shows c.args.self.now s k
