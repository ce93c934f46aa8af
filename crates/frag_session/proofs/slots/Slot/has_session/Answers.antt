use Rattle.std.proofs.Common.{is_some, ap, ◌∙◌}
use Rattle.frag_session.proofs.Calls.{lived}
use Rattle.frag_session.proofs.slots.Slot.has_session.Goals as goal

pub returns : goal.returns
returns g c = λ s k. c.is_some.ensures ∙ ap is_some c.session.ensures ∙ lived c.args.self.now s k
