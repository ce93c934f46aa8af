use Rattle.std.proofs.Common.{Option, sym, ap, ◌∙◌}
use Rattle.frag_session.specs.declared.setups.SetupReq.{SetupReq}
use Rattle.frag_session.specs.Setup.{lives}
use Rattle.frag_session.proofs.Calls.{renews, keeps, refuses}
use Rattle.frag_session.proofs.slots.Slot.setup.Goals as goal
use Rattle.frag_session.proofs.slots.Slot.setup.Goals.{else-bits-eq0-via-then-bits-eq0+else-not-lives, else-bits-eq0-via-else-bits-eq0}

pub returns-then-not-lives-clause-stands : goal.returns-then-not-lives-clause-stands
returns-then-not-lives-clause-stands g c = λ s k.
    let accepted = sym c.refusal-bits.ensures ∙ c.if-bits-eq0.true in
    let other = ap (λ (o : Option SetupReq). lives o c.args.req) (sym c.session.ensures) ∙ sym c.lives.ensures ∙ c.if-not-lives.true in
    renews c.args.limits c.args.self.now c.renew.new.self s _ c.args.req accepted other k c.renew.ensures.stands

pub returns-else-bits-eq0-clause-stands : goal.returns-else-bits-eq0-clause-stands
returns-else-bits-eq0-clause-stands g c = λ s k.
    let bits = sym c.refusal-bits.ensures in
    elim c.else-bits-eq0.branch [
      | else-bits-eq0-via-then-bits-eq0+else-not-lives w ↦
          let equal = ap (λ (o : Option SetupReq). lives o c.args.req) (sym w.session.ensures) ∙ sym w.lives.ensures ∙ w.if-not-lives.false in
          keeps c.args.limits c.args.self.now s _ c.args.req (bits ∙ w.if-bits-eq0.true) equal k
      | else-bits-eq0-via-else-bits-eq0 w ↦ refuses c.args.limits c.args.self.now s _ c.args.req (λ e. w.if-bits-eq0.false (sym bits ∙ e)) k
    ]
