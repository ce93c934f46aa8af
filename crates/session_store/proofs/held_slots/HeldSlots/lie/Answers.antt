use Rattle.session_store.proofs.PlaceSteps.{held_left, held_read}
use Rattle.session_store.proofs.held_slots.HeldSlots.lie.Goals as goal

pub returns-clause-left : goal.returns-clause-left
returns-clause-left g c = rw (← c.self.view_is) (λ table held b now. held_left _ table _ c.self.invariant held b now)

pub returns-clause-read : goal.returns-clause-read
returns-clause-read g c = rw (← c.self.view_is) (λ table held b now. held_read _ table _ c.self.invariant held b now)
