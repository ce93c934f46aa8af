use Rattle.std.proofs.Common.{refl}
use Rattle.frag_session.specs.HeldView.{seen}
use Rattle.flash_session.proofs.Renewing.{at_view, shown_as}
use Rattle.flash_session.proofs.held.Held.view.Goals as goal

pub returns-in-None-clause-value : goal.returns-in-None-clause-value
returns-in-None-clause-value g c = λ o held counts. shown_as _ o _ _ held counts refl (at_view _ _ _ c.self.view_is c.in-None.ensures.value)

pub returns-in-Some-clause-value : goal.returns-in-Some-clause-value
unfolding seen
returns-in-Some-clause-value g c = λ o held counts. shown_as _ o _ _ held counts c.received.ensures.value (at_view _ _ _ c.self.view_is c.in-Some.ensures.value)
