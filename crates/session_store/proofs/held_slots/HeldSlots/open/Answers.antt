use Rattle.std.proofs.Common.{◌*◌, [], ◌∷◌, get_or, None, Some, refl, arith}
use Rattle.flash_session.specs.Sessions.{IsHeldAs}
use Rattle.session_store.specs.SessionTable.{session_at}
use Rattle.session_store.specs.HeldPlaces.{IsPlace, Holding, base_at}
use Rattle.session_store.proofs.ByIndex.{each4}
use Rattle.flash_session.proofs.Serves.{is_opened, read_joined, opens_from}
use Rattle.flash_session.proofs.Still.{same_joined, risen_behind}
use Rattle.session_store.specs.HeldForeign as foreign
use Rattle.session_store.proofs.ForeignSteps.{none_still, none_last, first_foreign}
use Rattle.session_store.specs.Size.{laid_by}
use Rattle.session_store.proofs.PlaceSteps.{opened_place, opened_for_last, placed}
use Rattle.session_store.proofs.held_slots.HeldSlots.open.Goals as goal

pub returns-in-Err-clause-opens : goal.returns-in-Err-clause-opens
returns-in-Err-clause-opens g c = opens_from (is_opened c.open.ensures.opens) tt
    (λ p is b now. foreign.first (first_foreign (laid_by g.row.P g.row.W g.row.B c.args.layout) 0 c.args.idles.first b p c.requires.idle.first (c.in-Err.ensures.opens.foreign p is b now)))
    (λ is. c.in-Err.ensures.opens.fault is) (λ was. tt)

pub returns-in-Err-open-clause-opens : goal.returns-in-Err-open-clause-opens
returns-in-Err-open-clause-opens g c = opens_from (read_joined (is_opened c.open.ensures.opens) (is_opened c.open-2.ensures.opens)) tt
    (λ p is b now. foreign.second (none_still (laid_by g.row.P g.row.W g.row.B c.args.layout) 0 c.args.idles.first _ _ c.requires.idle.first c.in-Ok.ensures.opens.found.nothing_foreign c.open-2.ensures.opens.held b now) (first_foreign (laid_by g.row.P g.row.W g.row.B c.args.layout) c.args.layout.span c.args.idles.second b p c.requires.idle.second (c.in-Err-open.ensures.opens.foreign p is b now)))
    (λ is. risen_behind _ _ _ c.open.ensures.opens.later (c.in-Err-open.ensures.opens.fault is)) (λ was. tt)

pub returns-in-Err-open-2-clause-opens : goal.returns-in-Err-open-2-clause-opens
returns-in-Err-open-2-clause-opens g c = opens_from (read_joined (is_opened c.open.ensures.opens) (read_joined (is_opened c.open-2.ensures.opens) (is_opened c.open-3.ensures.opens))) tt
    (λ p is b now. foreign.third (none_still (laid_by g.row.P g.row.W g.row.B c.args.layout) 0 c.args.idles.first _ _ c.requires.idle.first c.in-Ok.ensures.opens.found.nothing_foreign (same_joined c.open-2.ensures.opens.held c.open-3.ensures.opens.held) b now) (none_still (laid_by g.row.P g.row.W g.row.B c.args.layout) c.args.layout.span c.args.idles.second _ _ c.requires.idle.second c.in-Ok-open.ensures.opens.found.nothing_foreign c.open-3.ensures.opens.held b now) (first_foreign (laid_by g.row.P g.row.W g.row.B c.args.layout) (2 * c.args.layout.span) c.args.idles.third b p c.requires.idle.third (c.in-Err-open-2.ensures.opens.foreign p is b now)))
    (λ is. risen_behind _ _ _ (omega (arith, c.open.ensures.opens.later, c.open-2.ensures.opens.later)) (c.in-Err-open-2.ensures.opens.fault is)) (λ was. tt)

pub returns-in-Err-open-3-clause-opens : goal.returns-in-Err-open-3-clause-opens
returns-in-Err-open-3-clause-opens g c = opens_from (read_joined (is_opened c.open.ensures.opens) (read_joined (is_opened c.open-2.ensures.opens) (read_joined (is_opened c.open-3.ensures.opens) (is_opened c.open-4.ensures.opens)))) tt
    (λ p is b now. foreign.fourth (none_still (laid_by g.row.P g.row.W g.row.B c.args.layout) 0 c.args.idles.first _ _ c.requires.idle.first c.in-Ok.ensures.opens.found.nothing_foreign (same_joined c.open-2.ensures.opens.held (same_joined c.open-3.ensures.opens.held c.open-4.ensures.opens.held)) b now) (none_still (laid_by g.row.P g.row.W g.row.B c.args.layout) c.args.layout.span c.args.idles.second _ _ c.requires.idle.second c.in-Ok-open.ensures.opens.found.nothing_foreign (same_joined c.open-3.ensures.opens.held c.open-4.ensures.opens.held) b now) (none_still (laid_by g.row.P g.row.W g.row.B c.args.layout) (2 * c.args.layout.span) c.args.idles.third _ _ c.requires.idle.third c.in-Ok-open-2.ensures.opens.found.nothing_foreign c.open-4.ensures.opens.held b now) (first_foreign (laid_by g.row.P g.row.W g.row.B c.args.layout) (3 * c.args.layout.span) c.args.idles.fourth b p c.requires.idle.fourth (c.in-Err-open-3.ensures.opens.foreign p is b now)))
    (λ is. risen_behind _ _ _ (omega (arith, c.open.ensures.opens.later, c.open-2.ensures.opens.later, c.open-3.ensures.opens.later)) (c.in-Err-open-3.ensures.opens.fault is)) (λ was. tt)

pub returns-in-Ok-open-3-clause-opens : goal.returns-in-Ok-open-3-clause-opens
returns-in-Ok-open-3-clause-opens g c = opens_from (read_joined (is_opened c.open.ensures.opens) (read_joined (is_opened c.open-2.ensures.opens) (read_joined (is_opened c.open-3.ensures.opens) (is_opened c.open-4.ensures.opens))))
    (λ b now. record {
      first = none_still (laid_by g.row.P g.row.W g.row.B c.args.layout) 0 c.args.idles.first _ _ c.requires.idle.first c.in-Ok.ensures.opens.found.nothing_foreign (same_joined c.open-2.ensures.opens.held (same_joined c.open-3.ensures.opens.held c.open-4.ensures.opens.held)) b now;
      second = none_still (laid_by g.row.P g.row.W g.row.B c.args.layout) c.args.layout.span c.args.idles.second _ _ c.requires.idle.second c.in-Ok-open.ensures.opens.found.nothing_foreign (same_joined c.open-3.ensures.opens.held c.open-4.ensures.opens.held) b now;
      third = none_still (laid_by g.row.P g.row.W g.row.B c.args.layout) (2 * c.args.layout.span) c.args.idles.third _ _ c.requires.idle.third c.in-Ok-open-2.ensures.opens.found.nothing_foreign c.open-4.ensures.opens.held b now;
      fourth = none_last (laid_by g.row.P g.row.W g.row.B c.args.layout) (3 * c.args.layout.span) c.args.idles.fourth b c.requires.idle.fourth (c.in-Ok-open-3.ensures.opens.found.nothing_foreign b now);
    })
    tt tt (λ was. c.in-Ok-open-3.ensures.opens.found.kept)

pub returns-in-Ok-open-3-clause-opened : goal.returns-in-Ok-open-3-clause-opened
returns-in-Ok-open-3-clause-opened g c = λ table b now lies.
    let kept = c.in-Ok-open-3.ensures.opens.found.kept in
    let third = c.open-4.ensures.opens.held in
    let second = same_joined c.open-3.ensures.opens.held third in
    let first = same_joined c.open-2.ensures.opens.held second in
    let sessions = Some c.in-Ok.held ∷ Some c.in-Ok-open.held ∷ Some c.in-Ok-open-2.held ∷ Some c.in-Ok-open-3.fourth ∷ [] in
    let flash = c.open-4.new.flash in
    record {
      each = each4 (λ i. Holding (λ k. IsHeldAs k (session_at table i) (g.F.Flash.seen flash)) (get_or sessions i None))
          (opened_place c.in-Ok.held (laid_by g.row.P g.row.W g.row.B c.args.layout) (0) c.args.idles.first table.first _ _ c.requires.idle.first
          c.in-Ok.ensures.opened c.in-Ok.ensures.opens.found.place c.requires.long first kept b now lies.first)
          (opened_place c.in-Ok-open.held (laid_by g.row.P g.row.W g.row.B c.args.layout) (c.args.layout.span) c.args.idles.second table.second _ _ c.requires.idle.second
          c.in-Ok-open.ensures.opened c.in-Ok-open.ensures.opens.found.place c.requires.long second kept b now lies.second)
          (opened_place c.in-Ok-open-2.held (laid_by g.row.P g.row.W g.row.B c.args.layout) (2 * c.args.layout.span) c.args.idles.third table.third _ _ c.requires.idle.third
          c.in-Ok-open-2.ensures.opened c.in-Ok-open-2.ensures.opens.found.place c.requires.long third kept b now lies.third)
          (opened_for_last c.in-Ok-open-3.fourth (laid_by g.row.P g.row.W g.row.B c.args.layout) (3 * c.args.layout.span) c.args.idles.fourth table.fourth _ c.requires.idle.fourth
          c.in-Ok-open-3.ensures.opened b now lies.fourth);
    }

pub invariant_of-result : goal.invariant_of-result
invariant_of-result g c =
    let l = laid_by g.row.P g.row.W g.row.B c.args.layout in
    let sessions = Some c.in-Ok.held ∷ Some c.in-Ok-open.held ∷ Some c.in-Ok-open-2.held ∷ Some c.in-Ok-open-3.fourth ∷ [] in
    record {
      four = refl;
      each = each4 (λ i. Holding (λ k. IsPlace k l (base_at l i)) (get_or sessions i None))
          (placed c.in-Ok.held l 0 c.args.idles.first c.requires.idle.first c.in-Ok.ensures.opens.found.place)
          (placed c.in-Ok-open.held l l.span c.args.idles.second c.requires.idle.second c.in-Ok-open.ensures.opens.found.place)
          (placed c.in-Ok-open-2.held l (2 * l.span) c.args.idles.third c.requires.idle.third c.in-Ok-open-2.ensures.opens.found.place)
          (placed c.in-Ok-open-3.fourth l (3 * l.span) c.args.idles.fourth c.requires.idle.fourth c.in-Ok-open-3.ensures.opens.found.place);
      long = c.requires.long;
    }
