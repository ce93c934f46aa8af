use Rattle.std.proofs.Common.{◌≡◌, Some, None, refl, subst, ◌∙◌, arith, rules}
use Rattle.row_elimination.specs.Room.{Extent}
use Rattle.frag_session.specs.HeldSteps.{extent_of}
use Rattle.flash_session.specs.Opening.{IsFirstForeign}
use Rattle.flash_session.specs.Replayed.{place_in, IsOpened, IsEmpty}
use Rattle.flash_session.proofs.Opened.{opened_there, empty_there, lies_there, foreign_there, empty_opened, empty_but, opened_for, opened_but, opened_fine, not_foreign}
use Rattle.flash_session.proofs.Still.{found_some, found_none}
use Rattle.flash_session.proofs.held.Held.open.Goals as goal

pub returns-in-Err-clause-opens : goal.returns-in-Err-clause-opens
returns-in-Err-clause-opens g c =
    record {
      found = tt;
      foreign = λ p is b now. subst (λ (z : Extent). IsFirstForeign (place_in g.row.W g.row.B c.args.base c.args.span c.args.limits z) b p) c.new-slot.ensures.extent (c.in-Err.ensures.opens.foreign p is b now);
      kept = λ was. tt;
      held = c.find.ensures.opens.held;
      stops = c.find.ensures.opens.stops;
      size = c.find.ensures.opens.size;
      later = c.find.ensures.opens.later;
      fault = c.in-Err.ensures.opens.fault;
    }

pub returns-in-Err-clause-opened : goal.returns-in-Err-clause-opened
returns-in-Err-clause-opened g c = λ o b now lies. not_foreign (place_in g.row.W g.row.B c.args.base c.args.span c.args.limits c.args.idle) c.in-Err.fault o b lies (λ p is.
    subst (λ (z : Extent). IsFirstForeign (place_in g.row.W g.row.B c.args.base c.args.span c.args.limits z) b p) c.new-slot.ensures.extent (c.in-Err.ensures.opens.foreign p is b now))

pub returns-in-Ok-None-clause-opened : goal.returns-in-Ok-None-clause-opened
unfolding extent_of
returns-in-Ok-None-clause-opened g c = λ o b now lies.
    let none : c.in-Ok-None.field-0 ≡ None = first_of (search rules, cc, grind arith) in
    let found = subst (λ (z : Extent). IsEmpty (place_in g.row.W g.row.B c.args.base c.args.span c.args.limits z) c.find.new.slot (g.F.Flash.seen c.find.new.flash).holds) c.new-slot.ensures.extent
    (found_none _ _ c.in-Ok-None.field-0 none c.in-Ok-None.ensures.opens.found) in
    let there = empty_there (place_in g.row.W g.row.B c.args.base c.args.span c.args.limits c.args.idle) c.find.new.slot 0 0 (c.find.ensures.extent ∙ c.new-slot.ensures.extent) (g.F.Flash.seen c.find.new.flash).holds found in
    empty_opened _ (g.F.Flash.seen c.find.new.flash) c.in-Ok-None.ensures.kept there o b now (lies_there (place_in g.row.W g.row.B c.args.base c.args.span c.args.limits c.args.idle) c.find.new.slot 0 0 (c.find.ensures.extent ∙ c.new-slot.ensures.extent) o b lies)

pub returns-in-Ok-None-clause-opens : goal.returns-in-Ok-None-clause-opens
unfolding extent_of
returns-in-Ok-None-clause-opens g c =
    let none : c.in-Ok-None.field-0 ≡ None = first_of (search rules, cc, grind arith) in
    let found = subst (λ (z : Extent). IsEmpty (place_in g.row.W g.row.B c.args.base c.args.span c.args.limits z) c.find.new.slot (g.F.Flash.seen c.find.new.flash).holds) c.new-slot.ensures.extent
    (found_none _ _ c.in-Ok-None.field-0 none c.in-Ok-None.ensures.opens.found) in
    let there = empty_there (place_in g.row.W g.row.B c.args.base c.args.span c.args.limits c.args.idle) c.find.new.slot 0 0 (c.find.ensures.extent ∙ c.new-slot.ensures.extent) (g.F.Flash.seen c.find.new.flash).holds found in
    record {
      found = record { held_but = empty_but _ (g.F.Flash.seen c.find.new.flash) c.in-Ok-None.ensures.kept there; nothing_foreign = λ b now header. absurd (found.none b now header); place = record { words_are = refl; bytes_are = refl; base_is = refl; span_is = refl; limits_are = refl; extent_is = (c.find.ensures.extent ∙ c.new-slot.ensures.extent) }; kept = c.in-Ok-None.ensures.kept };
      foreign = tt;
      kept = λ was. c.in-Ok-None.ensures.kept;
      held = c.find.ensures.opens.held;
      stops = c.find.ensures.opens.stops;
      size = c.find.ensures.opens.size;
      later = c.find.ensures.opens.later;
      fault = tt;
    }

pub invariant_of-result-in-Ok-Some : goal.invariant_of-result-in-Ok-Some
unfolding extent_of
invariant_of-result-in-Ok-Some g c =
    let some : c.in-Ok-Some.field-0 ≡ Some c.in-Ok-Some.counts = first_of (search rules, cc, grind arith) in
    let found = subst (λ (z : Extent). IsOpened (place_in g.row.W g.row.B c.args.base c.args.span c.args.limits z) c.find.new.slot (g.F.Flash.seen c.find.new.flash).holds c.in-Ok-Some.counts) c.new-slot.ensures.extent
    (found_some _ _ c.in-Ok-Some.field-0 c.in-Ok-Some.counts some c.in-Ok-Some.ensures.opens.found) in
    let there = opened_there (place_in g.row.W g.row.B c.args.base c.args.span c.args.limits c.args.idle) c.find.new.slot c.in-Ok-Some.counts.records c.in-Ok-Some.counts.tallies (c.find.ensures.extent ∙ c.new-slot.ensures.extent) (g.F.Flash.seen c.find.new.flash).holds found in
    let but = opened_but _ (g.F.Flash.seen c.find.new.flash) c.in-Ok-Some.ensures.kept there in
    record { long = c.requires.long; session = but.0; stands = but.1.stands }

pub returns-in-Ok-Some-clause-opened : goal.returns-in-Ok-Some-clause-opened
unfolding extent_of
returns-in-Ok-Some-clause-opened g c = λ o b now lies.
    let some : c.in-Ok-Some.field-0 ≡ Some c.in-Ok-Some.counts = first_of (search rules, cc, grind arith) in
    let found = subst (λ (z : Extent). IsOpened (place_in g.row.W g.row.B c.args.base c.args.span c.args.limits z) c.find.new.slot (g.F.Flash.seen c.find.new.flash).holds c.in-Ok-Some.counts) c.new-slot.ensures.extent
    (found_some _ _ c.in-Ok-Some.field-0 c.in-Ok-Some.counts some c.in-Ok-Some.ensures.opens.found) in
    let there = opened_there (place_in g.row.W g.row.B c.args.base c.args.span c.args.limits c.args.idle) c.find.new.slot c.in-Ok-Some.counts.records c.in-Ok-Some.counts.tallies (c.find.ensures.extent ∙ c.new-slot.ensures.extent) (g.F.Flash.seen c.find.new.flash).holds found in
    opened_for _ (g.F.Flash.seen c.find.new.flash) c.in-Ok-Some.ensures.kept there o b now (lies_there (place_in g.row.W g.row.B c.args.base c.args.span c.args.limits c.args.idle) c.find.new.slot c.in-Ok-Some.counts.records c.in-Ok-Some.counts.tallies (c.find.ensures.extent ∙ c.new-slot.ensures.extent) o b lies)

pub returns-in-Ok-Some-clause-opens : goal.returns-in-Ok-Some-clause-opens
unfolding extent_of
returns-in-Ok-Some-clause-opens g c =
    let some : c.in-Ok-Some.field-0 ≡ Some c.in-Ok-Some.counts = first_of (search rules, cc, grind arith) in
    let found = subst (λ (z : Extent). IsOpened (place_in g.row.W g.row.B c.args.base c.args.span c.args.limits z) c.find.new.slot (g.F.Flash.seen c.find.new.flash).holds c.in-Ok-Some.counts) c.new-slot.ensures.extent
    (found_some _ _ c.in-Ok-Some.field-0 c.in-Ok-Some.counts some c.in-Ok-Some.ensures.opens.found) in
    let there = opened_there (place_in g.row.W g.row.B c.args.base c.args.span c.args.limits c.args.idle) c.find.new.slot c.in-Ok-Some.counts.records c.in-Ok-Some.counts.tallies (c.find.ensures.extent ∙ c.new-slot.ensures.extent) (g.F.Flash.seen c.find.new.flash).holds found in
    record {
      found = record {
        held_but = opened_but _ (g.F.Flash.seen c.find.new.flash) c.in-Ok-Some.ensures.kept there;
        nothing_foreign = λ b now header place foreign. opened_fine _ (g.F.Flash.seen c.find.new.flash) c.in-Ok-Some.ensures.kept there b now header place
            (foreign_there (place_in g.row.W g.row.B c.args.base c.args.span c.args.limits c.args.idle) c.find.new.slot c.in-Ok-Some.counts.records c.in-Ok-Some.counts.tallies (c.find.ensures.extent ∙ c.new-slot.ensures.extent) b place foreign);
        place = record { words_are = refl; bytes_are = refl; base_is = refl; span_is = refl; limits_are = refl; extent_is = (c.find.ensures.extent ∙ c.new-slot.ensures.extent) };
        kept = c.in-Ok-Some.ensures.kept;
      };
      foreign = tt;
      kept = λ was. c.in-Ok-Some.ensures.kept;
      held = c.find.ensures.opens.held;
      stops = c.find.ensures.opens.stops;
      size = c.find.ensures.opens.size;
      later = c.find.ensures.opens.later;
      fault = tt;
    }
