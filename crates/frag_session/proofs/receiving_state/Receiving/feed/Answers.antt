use Rattle.std.proofs.Common.{◌≡◌, ◌*◌, length, sym, ap, ap₂, subst, ◌∙◌, lit≤}
use Rattle.frag_model.specs.Fragments.{Shape}
use Rattle.frag_session.specs.Held.{Held}
use Rattle.frag_session.specs.HeldSteps.{extent_of}
use Rattle.frag_session.specs.HeldHistory.{Holds, IsOpen, Stands}
use Rattle.frag_session.proofs.Standing.{receives_holds, completes_whole, complete_sized, contradicts_failed, overflows_failed}
use Rattle.frag_session.proofs.receiving_state.Receiving.feed.Goals as goal

pub decided-requires : goal.decided-requires
decided-requires g c =
    let r = c.feed.ensures.complete c.in-Complete.is in
    let its = c.self.invariant.its in
    let sized : length c.feed.new.self.content ≡ c.self.inside.setup.nb_frag * c.self.inside.setup.frag_size =
    complete_sized _ _ c.args.n c.args.part.now r ∙ ap₂ (λ a b. a * b) its.nb_frag its.frag_size in
    (lit≤ tt, (lit≤ tt, (its.some, (ap (λ (x : Shape). x.nb_frag) r.takes.shape ∙ its.nb_frag, (ap (λ (x : Shape). x.frag_size) r.takes.shape ∙ its.frag_size, (its.short, (c.one_more-received.ensures.most, (r.stage, sized))))))))

pub returns-in-Receiving-clause-stands : goal.returns-in-Receiving-clause-stands
unfolding Stands
returns-in-Receiving-clause-stands g c = λ s k.
    let here = subst (λ (h : Held). Holds h s) (sym c.self.view_is) k in
    rw c.one_more-received.ensures.value (receives_holds _ s c.feed.new.self c.args.n c.args.part.now c.args.mark here c.requires.first (c.feed.ensures.receiving c.in-Receiving.is))

pub returns-in-Receiving-clause-extent : goal.returns-in-Receiving-clause-extent
unfolding extent_of
returns-in-Receiving-clause-extent g c = c.feed.ensures.extent ∙ ap (λ (h : Held). h.solver.extent) c.self.view_is

pub returns-in-Complete-clause-stands : goal.returns-in-Complete-clause-stands
unfolding Stands
returns-in-Complete-clause-stands g c = λ s k.
    let here = subst (λ (h : Held). Holds h s) (sym c.self.view_is) k in
    rw (c.decided.ensures, c.one_more-received.ensures.value) (completes_whole _ s c.feed.new.self c.args.n c.args.part.now c.args.mark here c.requires.first (c.feed.ensures.complete c.in-Complete.is))

pub returns-in-Complete-clause-extent : goal.returns-in-Complete-clause-extent
unfolding extent_of
returns-in-Complete-clause-extent g c = rw c.decided.ensures (c.feed.ensures.extent ∙ ap (λ (h : Held). h.solver.extent) c.self.view_is)

pub returns-in-NoRows-clause-stands : goal.returns-in-NoRows-clause-stands
unfolding Stands
returns-in-NoRows-clause-stands g c = λ s k.
    let here = subst (λ (h : Held). Holds h s) (sym c.self.view_is) k in
    rw (c.decided-in-NoRows.ensures, c.one_more-received.ensures.value) (overflows_failed _ s c.feed.new.self c.args.n c.args.part.now c.args.mark here c.requires.first (c.feed.ensures.no_rows c.in-NoRows.is))

pub returns-in-NoRows-clause-extent : goal.returns-in-NoRows-clause-extent
unfolding extent_of
returns-in-NoRows-clause-extent g c = rw c.decided-in-NoRows.ensures (c.feed.ensures.extent ∙ ap (λ (h : Held). h.solver.extent) c.self.view_is)

pub returns-in-Conflict-clause-stands : goal.returns-in-Conflict-clause-stands
unfolding Stands
returns-in-Conflict-clause-stands g c = λ s k.
    let here = subst (λ (h : Held). Holds h s) (sym c.self.view_is) k in
    rw (c.decided-in-Conflict.ensures, c.one_more-received.ensures.value) (contradicts_failed _ s c.feed.new.self c.args.n c.args.part.now c.args.mark here c.requires.first (c.feed.ensures.conflict c.in-Conflict.is))

pub returns-in-Conflict-clause-extent : goal.returns-in-Conflict-clause-extent
unfolding extent_of
returns-in-Conflict-clause-extent g c = rw c.decided-in-Conflict.ensures (c.feed.ensures.extent ∙ ap (λ (h : Held). h.solver.extent) c.self.view_is)

pub returns-in-Receiving-clause-two : goal.returns-in-Receiving-clause-two
unfolding IsOpen
returns-in-Receiving-clause-two g c = (c.feed.ensures.receiving c.in-Receiving.is).two

pub returns-in-Complete-clause-two : goal.returns-in-Complete-clause-two
unfolding IsOpen
returns-in-Complete-clause-two g c = tt

pub returns-in-NoRows-clause-two : goal.returns-in-NoRows-clause-two
unfolding IsOpen
returns-in-NoRows-clause-two g c = tt

pub returns-in-Conflict-clause-two : goal.returns-in-Conflict-clause-two
unfolding IsOpen
returns-in-Conflict-clause-two g c = tt
