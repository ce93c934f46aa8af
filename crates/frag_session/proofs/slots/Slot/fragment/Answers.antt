use Rattle.std.proofs.Common.{Option, lit≤, ap, ap₂, ◌∙◌}
use Rattle.frag_session.specs.declared.setups.SetupReq.{SetupReq}
use Rattle.frag_session.specs.declared.answers.Heard.TheVariants as Heard
use Rattle.frag_session.specs.HeldSteps.{slot_cause, news_between}
use Rattle.frag_session.proofs.Calls.{dropped_answer, heard_answer, dropped_stands, heard_stands, can_hear_kept}
use Rattle.frag_session.proofs.slots.Slot.fragment.Goals as goal

pub hear-requires : goal.hear-requires
hear-requires g c = (
  lit≤ tt,
  can_hear_kept c.args.self.now c.args.via c.args.n c.args.part.now
      (c.in-None.ensures ∙ ap (λ (o : Option SetupReq). slot_cause o c.args.via c.args.n c.args.part.now) c.session.ensures),
)

pub returns-in-Some-clause-answer : goal.returns-in-Some-clause-answer
returns-in-Some-clause-answer g c = λ s k.
    dropped_answer c.args.self.now s c.args.via c.args.n c.args.part.now c.args.mark c.in-Some.cause k
    (c.in-Some.ensures ∙ ap (λ (o : Option SetupReq). slot_cause o c.args.via c.args.n c.args.part.now) c.session.ensures)

pub returns-in-Some-clause-stands : goal.returns-in-Some-clause-stands
returns-in-Some-clause-stands g c = λ s k.
    dropped_stands c.args.self.now s c.args.via c.args.n c.args.part.now c.args.mark c.in-Some.cause k
    (c.in-Some.ensures ∙ ap (λ (o : Option SetupReq). slot_cause o c.args.via c.args.n c.args.part.now) c.session.ensures)

pub returns-in-None-clause-answer : goal.returns-in-None-clause-answer
returns-in-None-clause-answer g c = λ s k.
    ap Heard.Fed (c.news_between.ensures ∙ ap₂ news_between c.told-before.ensures c.told.ensures)
    ∙ heard_answer c.args.self.now c.hear.new.self s c.args.via c.args.n c.args.part.now c.args.mark k
    (c.in-None.ensures ∙ ap (λ (o : Option SetupReq). slot_cause o c.args.via c.args.n c.args.part.now) c.session.ensures) c.hear.ensures.stands

pub returns-in-None-clause-stands : goal.returns-in-None-clause-stands
returns-in-None-clause-stands g c = λ s k.
    heard_stands c.args.self.now c.hear.new.self s c.args.via c.args.n c.args.part.now c.args.mark k
    (c.in-None.ensures ∙ ap (λ (o : Option SetupReq). slot_cause o c.args.via c.args.n c.args.part.now) c.session.ensures) c.hear.ensures.stands
