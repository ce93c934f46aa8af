use Rattle.std.proofs.Common.{◌≡◌, None, true, false, refl, sym, ◌∙◌}
use Rattle.flash_session.specs.HeldCalls.{OldOrNew}
use Rattle.flash_session.specs.Lies.{NoSession}
use Rattle.flash_session.proofs.Headers.{kept_within}
use Rattle.flash_session.proofs.Renewing.{lives_as, none_held, none_there, deleted_held, deleted_moments, unmoved}
use Rattle.flash_session.proofs.Runs.{outside_stays}
use Rattle.flash_session.proofs.Serves.{serves_none, serves_ok, serves_failed}
use Rattle.flash_session.proofs.StillHeld.{given_too, same_old_new}
use Rattle.flash_session.proofs.held.Held.delete.Goals as goal

-- no session lives
pub returns-then-not-has_session-clause-answer : goal.returns-then-not-has_session-clause-answer
returns-then-not-has_session-clause-answer g c = rw (← c.self.view_is) (λ o held. sym c.if-not-has_session.true ∙ lives_as _ o _ held c.has_session.ensures)

pub returns-then-not-has_session-clause-ended : goal.returns-then-not-has_session-clause-ended
returns-then-not-has_session-clause-ended g c = rw (← c.self.view_is) (none_held _ c.self.invariant.session c.self.invariant.stands (sym (lives_as _ c.self.invariant.session _ c.self.invariant.stands c.has_session.ensures) ∙ c.if-not-has_session.true))

pub returns-then-not-has_session-clause-serves : goal.returns-then-not-has_session-clause-serves
returns-then-not-has_session-clause-serves g c = rw (← c.self.view_is) (record {
  stands = λ o held. none_held _ o held (sym (lives_as _ o _ held c.has_session.ensures) ∙ c.if-not-has_session.true);
  counted = λ o held counts. tt;
  acknowledged = λ o held. none_there _ o _ held (sym (lives_as _ o _ held.stands c.has_session.ensures) ∙ c.if-not-has_session.true);
  any_moment = λ o held. unmoved _ o (NoSession c.self.inside.base) c.self.invariant.long held;
  again = λ o held. tt;
  others = λ at len was. was;
  place = record { words_are = refl; bytes_are = refl; base_is = refl; span_is = refl; limits_are = refl; extent_is = refl };
  extent = tt;
  serves = serves_none (outside_stays _ _);
})

pub returns-then-not-has_session-clause-quiet : goal.returns-then-not-has_session-clause-quiet
returns-then-not-has_session-clause-quiet g c = λ none. refl

-- one lived
pub returns-in-Ok-clause-answer : goal.returns-in-Ok-clause-answer
returns-in-Ok-clause-answer g c = rw (← c.self.view_is) (λ o held. sym c.if-not-has_session.false ∙ lives_as _ o _ held c.has_session.ensures)

pub returns-in-Ok-clause-ended : goal.returns-in-Ok-clause-ended
returns-in-Ok-clause-ended g c = c.delete.ensures.stands

pub returns-in-Ok-clause-serves : goal.returns-in-Ok-clause-serves
returns-in-Ok-clause-serves g c = rw (← c.self.view_is) (record {
  stands = λ o held. c.delete.ensures.stands;
  counted = λ o held counts. tt;
  acknowledged = λ o held. deleted_held _ o c.delete.new.self held _ c.if-not-has_session.false c.has_session.ensures c.delete.ensures.stands c.in-Ok.ensures.ended.acknowledged;
  any_moment = λ o held. deleted_moments _ o held _ c.if-not-has_session.false c.has_session.ensures c.end.ensures.ended.any_moment;
  again = λ o held. tt;
  others = λ at len was. kept_within at len (g.F.Flash.seen c.end.new.flash) c.in-Ok.ensures.kept;
  place = record { words_are = refl; bytes_are = refl; base_is = refl; span_is = refl; limits_are = refl; extent_is = c.delete.ensures.extent };
  extent = tt;
  serves = serves_ok c.end.ensures.ended.serves;
})

pub returns-in-Ok-clause-quiet : goal.returns-in-Ok-clause-quiet
returns-in-Ok-clause-quiet g c = rw (← c.self.view_is) (λ none.
    let no : true ≡ false = sym c.if-not-has_session.false ∙ c.has_session.ensures None none in
    absurd cc)

pub returns-in-Err-clause-serves : goal.returns-in-Err-clause-serves
returns-in-Err-clause-serves g c = rw (← c.self.view_is) (record {
  stands = λ o held. tt;
  counted = λ o held counts. tt;
  acknowledged = λ o held. tt;
  any_moment = λ o held. deleted_moments _ o held _ c.if-not-has_session.false c.has_session.ensures c.end.ensures.ended.any_moment;
  again = λ o held. given_too (OldOrNew _ o None) (same_old_new _ o None)
      (deleted_moments _ o held _ c.if-not-has_session.false c.has_session.ensures c.end.ensures.ended.any_moment) c.in-Err.ensures.ended.serves.torn;
  others = λ at len was. tt;
  place = tt;
  extent = c.end-in-Err.ensures;
  serves = serves_failed _ c.in-Err.ensures.ended.serves;
})

pub returns-in-Err-clause-quiet : goal.returns-in-Err-clause-quiet
returns-in-Err-clause-quiet g c = rw (← c.self.view_is) (λ none.
    let no : true ≡ false = sym c.if-not-has_session.false ∙ c.has_session.ensures None none in
    absurd cc)
