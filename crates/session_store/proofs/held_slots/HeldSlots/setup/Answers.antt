use Rattle.std.proofs.Common.{◌≡◌, get_or, Option, None, Some, inl, inr, refl, arith, rules}
use Rattle.std.proofs.lemmas.Grind.{common_steps}
use Rattle.std.proofs.lemmas.List.{set-set}
use Rattle.frag_session.specs.Session.{Session, after_setup}
use Rattle.flash_session.specs.HeldCalls.{OldNoneOrNew}
use Rattle.session_store.specs.HeldPlaces.{HeldPlaces, TableOldNoneOrNew, room_at}
use Rattle.session_store.specs.Size.{laid_by}
use Rattle.session_store.proofs.PlaceSteps.{places_set, places_on, setup_placed, answered, refused, same_old_none_new}
use Rattle.session_store.proofs.held_slots.HeldSlots.setup.Goals as goal

pub invariant_of-self-in-Err : goal.invariant_of-self-in-Err
invariant_of-self-in-Err g c =
    let p : HeldPlaces = record { sessions = c.self.inside.sessions; layout = laid_by g.row.P g.row.W g.row.B c.self.inside.layout } in
    let at : get_or p.sessions c.args.req.index None ≡ Some c.unwrap.result = first_of (search rules, cc, grind (arith, common_steps)) in
    rw (set-set, c.from-at.ensures) (places_set p c.args.req.index c.unwrap.result c.requires.fields.index at c.self.invariant c.unopened.result c.unopened.ensures)

pub invariant_of-self : goal.invariant_of-self
invariant_of-self g c =
    let p : HeldPlaces = record { sessions = c.self.inside.sessions; layout = laid_by g.row.P g.row.W g.row.B c.self.inside.layout } in
    let at : get_or p.sessions c.args.req.index None ≡ Some c.unwrap.result = first_of (search rules, cc, grind (arith, common_steps)) in
    rw (set-set, c.from-at.ensures) (places_on p c.args.req.index c.unwrap.result c.requires.fields.index at c.self.invariant c.in-Ok.held c.in-Ok.ensures.serves.place)

pub returns-in-Ok-clause-serves : goal.returns-in-Ok-clause-serves
returns-in-Ok-clause-serves g c =
    let p : HeldPlaces = record { sessions = c.self.inside.sessions; layout = laid_by g.row.P g.row.W g.row.B c.self.inside.layout } in
    let at : get_or p.sessions c.args.req.index None ≡ Some c.unwrap.result = first_of (search rules, cc, grind (arith, common_steps)) in
    rw (← c.self.view_is, set-set, c.from-at.ensures) (answered p c.args.req.index c.unwrap.result c.requires.fields.index at c.self.invariant (λ (o : Option Session). after_setup p.layout.limits (room_at p.layout) o c.args.req) (OldNoneOrNew c.unwrap.result) (TableOldNoneOrNew p.layout c.args.req.index)
    (λ t b lies those again. elim lies [ inl was ↦ inl (again was) | inr others ↦ elim others [ inl none ↦ inr (inl (those None none)) | inr is ↦ inr (inr (those _ is)) ] ])
    (same_old_none_new p.layout c.args.req.index) c.in-Ok.held c.in-Ok.bits (setup_placed p c.args.req.index c.unwrap.result c.requires.fields.index at c.self.invariant c.args.req c.in-Ok.ensures.serves))

pub returns-in-Err-clause-serves : goal.returns-in-Err-clause-serves
returns-in-Err-clause-serves g c =
    let p : HeldPlaces = record { sessions = c.self.inside.sessions; layout = laid_by g.row.P g.row.W g.row.B c.self.inside.layout } in
    let at : get_or p.sessions c.args.req.index None ≡ Some c.unwrap.result = first_of (search rules, cc, grind (arith, common_steps)) in
    rw (← c.self.view_is) (refused p c.args.req.index c.unwrap.result c.requires.fields.index at c.self.invariant (λ (o : Option Session). after_setup p.layout.limits (room_at p.layout) o c.args.req) (OldNoneOrNew c.unwrap.result) (TableOldNoneOrNew p.layout c.args.req.index)
    (λ t b lies those again. elim lies [ inl was ↦ inl (again was) | inr others ↦ elim others [ inl none ↦ inr (inl (those None none)) | inr is ↦ inr (inr (those _ is)) ] ])
    (same_old_none_new p.layout c.args.req.index) _ refl (setup_placed p c.args.req.index c.unwrap.result c.requires.fields.index at c.self.invariant c.args.req c.in-Err.ensures.serves))
