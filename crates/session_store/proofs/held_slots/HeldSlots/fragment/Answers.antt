use Rattle.std.proofs.Common.{◌≡◌, get_or, Option, None, Some, inl, inr, refl, arith, rules}
use Rattle.std.proofs.lemmas.Grind.{common_steps}
use Rattle.std.proofs.lemmas.List.{set-set}
use Rattle.frag_session.specs.Session.{Session, after_fragment}
use Rattle.flash_session.specs.HeldCalls.{OldOrNew}
use Rattle.session_store.specs.SessionTable.{session_at}
use Rattle.session_store.specs.HeldPlaces.{HeldPlaces, PlaceStands, TableOldOrNew}
use Rattle.session_store.specs.Size.{laid_by}
use Rattle.session_store.proofs.PlaceSteps.{places_set, put_back, it_has, answered, refused, same_old_new}
use Rattle.session_store.proofs.held_slots.HeldSlots.fragment.Goals as goal

pub invariant_of-self-in-Err : goal.invariant_of-self-in-Err
invariant_of-self-in-Err g c =
    let p : HeldPlaces = record { sessions = c.self.inside.sessions; layout = laid_by g.row.P g.row.W g.row.B c.self.inside.layout } in
    let at : get_or p.sessions c.args.index None ≡ Some c.unwrap.result = first_of (search rules, cc, grind (arith, common_steps)) in
    rw (set-set, c.from-at.ensures) (places_set p c.args.index c.unwrap.result c.requires.index at c.self.invariant c.unopened.result c.unopened.ensures)

pub returns-in-Ok-clause-answer : goal.returns-in-Ok-clause-answer
returns-in-Ok-clause-answer g c =
    let p : HeldPlaces = record { sessions = c.self.inside.sessions; layout = laid_by g.row.P g.row.W g.row.B c.self.inside.layout } in
    let at : get_or p.sessions c.args.index None ≡ Some c.unwrap.result = first_of (search rules, cc, grind (arith, common_steps)) in
    rw (← c.self.view_is) (λ table each. c.in-Ok.ensures.answer (session_at table c.args.index) (it_has p c.args.index c.unwrap.result c.requires.index at c.self.invariant PlaceStands table each).stands)

pub returns-in-Ok-clause-dropped : goal.returns-in-Ok-clause-dropped
returns-in-Ok-clause-dropped g c =
    let p : HeldPlaces = record { sessions = c.self.inside.sessions; layout = laid_by g.row.P g.row.W g.row.B c.self.inside.layout } in
    let at : get_or p.sessions c.args.index None ≡ Some c.unwrap.result = first_of (search rules, cc, grind (arith, common_steps)) in
    rw (← c.self.view_is, set-set, c.from-at.ensures) (λ k is. (put_back p c.args.index c.unwrap.result c.in-Ok.held at (c.in-Ok.ensures.same k is), c.in-Ok.ensures.dropped k is))

pub returns-in-Ok-clause-serves : goal.returns-in-Ok-clause-serves
returns-in-Ok-clause-serves g c =
    let p : HeldPlaces = record { sessions = c.self.inside.sessions; layout = laid_by g.row.P g.row.W g.row.B c.self.inside.layout } in
    let at : get_or p.sessions c.args.index None ≡ Some c.unwrap.result = first_of (search rules, cc, grind (arith, common_steps)) in
    rw (← c.self.view_is, set-set, c.from-at.ensures) (answered p c.args.index c.unwrap.result c.requires.index at c.self.invariant (λ (o : Option Session). after_fragment o c.args.via c.args.n c.args.part.now c.args.mark) (OldOrNew c.unwrap.result) (TableOldOrNew p.layout)
    (λ t b lies those again. elim lies [ inl was ↦ inl (again was) | inr is ↦ inr (those _ is) ])
    (same_old_new p.layout) c.in-Ok.held c.in-Ok.heard c.in-Ok.ensures.serves)

pub returns-in-Err-clause-serves : goal.returns-in-Err-clause-serves
returns-in-Err-clause-serves g c =
    let p : HeldPlaces = record { sessions = c.self.inside.sessions; layout = laid_by g.row.P g.row.W g.row.B c.self.inside.layout } in
    let at : get_or p.sessions c.args.index None ≡ Some c.unwrap.result = first_of (search rules, cc, grind (arith, common_steps)) in
    rw (← c.self.view_is) (refused p c.args.index c.unwrap.result c.requires.index at c.self.invariant (λ (o : Option Session). after_fragment o c.args.via c.args.n c.args.part.now c.args.mark) (OldOrNew c.unwrap.result) (TableOldOrNew p.layout)
    (λ t b lies those again. elim lies [ inl was ↦ inl (again was) | inr is ↦ inr (those _ is) ])
    (same_old_new p.layout) _ refl c.in-Err.ensures.serves)
