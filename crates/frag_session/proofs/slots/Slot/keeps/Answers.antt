use Rattle.std.proofs.Common.{Option, ap, ◌∙◌}
use Rattle.frag_session.specs.declared.setups.SetupReq.{SetupReq}
use Rattle.frag_session.specs.Setup.{lives}
use Rattle.frag_session.proofs.Standing.{request_kept}
use Rattle.frag_session.proofs.slots.Slot.keeps.Goals as goal

pub returns : goal.returns
returns g c = λ s k. c.lives.ensures ∙ ap (λ (o : Option SetupReq). lives o c.args.req) (c.session.ensures ∙ request_kept c.args.self.now s k)
