use Rattle.std.proofs.Common.{inl, inr, refl, ap, ◌∙◌, arith, rules}
use Rattle.frag_session.specs.declared.answers.Heard.TheVariants as answer
use Rattle.frag_session.specs.Session.{after_fragment}
use Rattle.flash_session.proofs.Hearing.{told_as, fed_dropped, new_old, slot_answer, has_room, counts_new, counts_old, counts_dropped, stands_new, stands_old, stands_full, stands_dropped, new_moments, new_kept, old_moments, old_kept, full_kept, dropped_kept, no_call, After}
use Rattle.flash_session.specs.HeldCalls.{OldOrNew}
use Rattle.flash_session.proofs.Headers.{kept_within}
use Rattle.flash_session.proofs.Runs.{outside_stays}
use Rattle.flash_session.proofs.Serves.{serves_none, serves_ok, serves_failed}
use Rattle.flash_session.proofs.StillHeld.{given_too, same_old_new}
use Rattle.flash_session.proofs.held.Held.hear.Goals as goal

pub keep-requires-clause-small : goal.keep-requires-clause-small
keep-requires-clause-small g c = (has_room c.args.via c.args.n c.args.part.now c.args.mark _ c.self.invariant.session c.self.invariant.stands (told_as c.args.via c.args.n c.args.part.now c.args.mark _ _ _ (c.in-Fed-New.is ∙ ap answer.Fed (rw c.in-Fed-New.is at c.in-Fed-New.field-0-is)) c.fragment-heard.ensures.answer)).small

pub keep-requires-clause-gate : goal.keep-requires-clause-gate
keep-requires-clause-gate g c = (has_room c.args.via c.args.n c.args.part.now c.args.mark _ c.self.invariant.session c.self.invariant.stands (told_as c.args.via c.args.n c.args.part.now c.args.mark _ _ _ (c.in-Fed-New.is ∙ ap answer.Fed (rw c.in-Fed-New.is at c.in-Fed-New.field-0-is)) c.fragment-heard.ensures.answer)).gate

pub keep-requires-clause-room : goal.keep-requires-clause-room
keep-requires-clause-room g c = (has_room c.args.via c.args.n c.args.part.now c.args.mark _ c.self.invariant.session c.self.invariant.stands (told_as c.args.via c.args.n c.args.part.now c.args.mark _ _ _ (c.in-Fed-New.is ∙ ap answer.Fed (rw c.in-Fed-New.is at c.in-Fed-New.field-0-is)) c.fragment-heard.ensures.answer)).room

pub overflow_add-result : goal.overflow_add-result
overflow_add-result g c =
    let room = has_room c.args.via c.args.n c.args.part.now c.args.mark _ c.self.invariant.session c.self.invariant.stands (told_as c.args.via c.args.n c.args.part.now c.args.mark _ _ _ (c.in-Fed-New.is ∙ ap answer.Fed (rw c.in-Fed-New.is at c.in-Fed-New.field-0-is)) c.fragment-heard.ensures.answer) in
    omega (arith, room.gate)

pub returns-then-records-tallies-clause-answer : goal.returns-then-records-tallies-clause-answer
returns-then-records-tallies-clause-answer g c = rw (← c.self.view_is) (λ o held. slot_answer c.args.via c.args.n c.args.part.now c.args.mark _ o c.fragment-heard.result held c.fragment-heard.ensures.answer)

pub returns-in-Dropped-clause-answer : goal.returns-in-Dropped-clause-answer
returns-in-Dropped-clause-answer g c = rw (← c.self.view_is) (λ o held. slot_answer c.args.via c.args.n c.args.part.now c.args.mark _ o c.fragment-heard.result held c.fragment-heard.ensures.answer)

pub returns-in-Ok-clause-answer : goal.returns-in-Ok-clause-answer
returns-in-Ok-clause-answer g c = rw (← c.self.view_is) (λ o held. slot_answer c.args.via c.args.n c.args.part.now c.args.mark _ o c.fragment-heard.result held c.fragment-heard.ensures.answer)

pub returns-in-Ok-count_gate-clause-answer : goal.returns-in-Ok-count_gate-clause-answer
returns-in-Ok-count_gate-clause-answer g c = rw (← c.self.view_is) (λ o held. slot_answer c.args.via c.args.n c.args.part.now c.args.mark _ o c.fragment-heard.result held c.fragment-heard.ensures.answer)

pub invariant_of-result-in-Ok : goal.invariant_of-result-in-Ok
invariant_of-result-in-Ok g c = record {
  long = c.self.invariant.long;
  session = after_fragment c.self.invariant.session c.args.via c.args.n c.args.part.now c.args.mark;
  stands = stands_new c.args.via c.args.n c.args.part.now c.args.mark _ _ c.fragment-heard.ensures.extent c.fragment-heard.ensures.stands (search rules) (search rules) c.self.invariant.session c.self.invariant.stands (told_as c.args.via c.args.n c.args.part.now c.args.mark _ _ _ (c.in-Fed-New.is ∙ ap answer.Fed (rw c.in-Fed-New.is at c.in-Fed-New.field-0-is)) c.fragment-heard.ensures.answer);
}

pub invariant_of-result-in-Ok-count_gate : goal.invariant_of-result-in-Ok-count_gate
invariant_of-result-in-Ok-count_gate g c = record {
  long = c.self.invariant.long;
  session = after_fragment c.self.invariant.session c.args.via c.args.n c.args.part.now c.args.mark;
  stands = stands_old c.args.via c.args.n c.args.part.now c.args.mark _ _ c.fragment-heard.ensures.extent c.fragment-heard.ensures.stands (omega arith) c.self.invariant.session c.self.invariant.stands (told_as c.args.via c.args.n c.args.part.now c.args.mark _ _ _ (c.in-Fed-Old.is ∙ ap answer.Fed (rw c.in-Fed-Old.is at c.in-Fed-Old.field-0-is)) c.fragment-heard.ensures.answer);
}

pub invariant_of-result-then-records-tallies : goal.invariant_of-result-then-records-tallies
invariant_of-result-then-records-tallies g c = record {
  long = c.self.invariant.long;
  session = after_fragment c.self.invariant.session c.args.via c.args.n c.args.part.now c.args.mark;
  stands = stands_full c.args.via c.args.n c.args.part.now c.args.mark _ _ c.fragment-heard.ensures.extent c.fragment-heard.ensures.stands (omega arith) c.self.invariant.session c.self.invariant.stands (told_as c.args.via c.args.n c.args.part.now c.args.mark _ _ _ (c.in-Fed-Old.is ∙ ap answer.Fed (rw c.in-Fed-Old.is at c.in-Fed-Old.field-0-is)) c.fragment-heard.ensures.answer);
}

-- it is new, and stored
pub returns-in-Ok-clause-serves : goal.returns-in-Ok-clause-serves
returns-in-Ok-clause-serves g c = rw (← c.self.view_is) (let fed = (told_as c.args.via c.args.n c.args.part.now c.args.mark _ _ _ (c.in-Fed-New.is ∙ ap answer.Fed (rw c.in-Fed-New.is at c.in-Fed-New.field-0-is)) c.fragment-heard.ensures.answer) in record {
  stands = λ o held. stands_new c.args.via c.args.n c.args.part.now c.args.mark _ _ c.fragment-heard.ensures.extent c.fragment-heard.ensures.stands (search rules) (search rules) o held fed;
  counted = λ o held counts. counts_new c.args.via c.args.n c.args.part.now c.args.mark _ c.fragment-heard.new.self o held counts fed;
  acknowledged = λ o held. new_kept c.args.via c.args.n c.args.part.now c.args.mark (search rules) (search rules) _ _ o held fed c.fragment-heard.ensures.extent c.fragment-heard.ensures.stands c.in-Ok.ensures.stored.acknowledged;
  any_moment = λ o held. new_moments c.args.via c.args.n c.args.part.now c.args.mark (search rules) (search rules) _ o held fed c.keep.ensures.stored.any_moment;
  again = λ o held. tt;
  others = λ at len was. kept_within at len (g.F.Flash.seen c.keep.new.flash) c.in-Ok.ensures.kept;
  place = record { words_are = refl; bytes_are = refl; base_is = refl; span_is = refl; limits_are = refl; extent_is = c.fragment-heard.ensures.extent };
  extent = tt;
  serves = serves_ok c.keep.ensures.stored.serves;
})

pub returns-in-Err-clause-serves : goal.returns-in-Err-clause-serves
returns-in-Err-clause-serves g c = rw (← c.self.view_is) (let fed = (told_as c.args.via c.args.n c.args.part.now c.args.mark _ _ _ (c.in-Fed-New.is ∙ ap answer.Fed (rw c.in-Fed-New.is at c.in-Fed-New.field-0-is)) c.fragment-heard.ensures.answer) in record {
  stands = λ o held. tt;
  counted = λ o held counts. tt;
  acknowledged = λ o held. tt;
  any_moment = λ o held. new_moments c.args.via c.args.n c.args.part.now c.args.mark (search rules) (search rules) _ o held fed c.keep.ensures.stored.any_moment;
  again = λ o held. given_too (OldOrNew _ o (After c.args.via c.args.n c.args.part.now c.args.mark o)) (same_old_new _ o (After c.args.via c.args.n c.args.part.now c.args.mark o))
      (new_moments c.args.via c.args.n c.args.part.now c.args.mark (search rules) (search rules) _ o held fed c.keep.ensures.stored.any_moment) c.in-Err.ensures.stored.serves.torn;
  others = λ at len was. tt;
  place = tt;
  extent = c.end.ensures ∙ c.fragment-heard.ensures.extent;
  serves = serves_failed _ c.in-Err.ensures.stored.serves;
})

-- or it is counted
pub returns-in-Ok-count_gate-clause-serves : goal.returns-in-Ok-count_gate-clause-serves
returns-in-Ok-count_gate-clause-serves g c = rw (← c.self.view_is) (let fed = (told_as c.args.via c.args.n c.args.part.now c.args.mark _ _ _ (c.in-Fed-Old.is ∙ ap answer.Fed (rw c.in-Fed-Old.is at c.in-Fed-Old.field-0-is)) c.fragment-heard.ensures.answer) in record {
  stands = λ o held. stands_old c.args.via c.args.n c.args.part.now c.args.mark _ _ c.fragment-heard.ensures.extent c.fragment-heard.ensures.stands (omega arith) o held fed;
  counted = λ o held counts. counts_old c.args.via c.args.n c.args.part.now c.args.mark _ c.fragment-heard.new.self _ o held counts fed (inl refl);
  acknowledged = λ o held. old_kept c.args.via c.args.n c.args.part.now c.args.mark _ _ o held fed (omega arith) c.fragment-heard.ensures.extent c.fragment-heard.ensures.stands c.in-Ok-count_gate.ensures.stored.acknowledged;
  any_moment = λ o held. old_moments c.args.via c.args.n c.args.part.now c.args.mark _ o held fed c.count_gate.ensures.stored.any_moment;
  again = λ o held. tt;
  others = λ at len was. kept_within at len (g.F.Flash.seen c.count_gate.new.flash) c.in-Ok-count_gate.ensures.kept;
  place = record { words_are = refl; bytes_are = refl; base_is = refl; span_is = refl; limits_are = refl; extent_is = c.fragment-heard.ensures.extent };
  extent = tt;
  serves = serves_ok c.count_gate.ensures.stored.serves;
})

pub returns-in-Err-count_gate-clause-serves : goal.returns-in-Err-count_gate-clause-serves
returns-in-Err-count_gate-clause-serves g c = rw (← c.self.view_is) (let fed = (told_as c.args.via c.args.n c.args.part.now c.args.mark _ _ _ (c.in-Fed-Old.is ∙ ap answer.Fed (rw c.in-Fed-Old.is at c.in-Fed-Old.field-0-is)) c.fragment-heard.ensures.answer) in record {
  stands = λ o held. tt;
  counted = λ o held counts. tt;
  acknowledged = λ o held. tt;
  any_moment = λ o held. old_moments c.args.via c.args.n c.args.part.now c.args.mark _ o held fed c.count_gate.ensures.stored.any_moment;
  again = λ o held. given_too (OldOrNew _ o (After c.args.via c.args.n c.args.part.now c.args.mark o)) (same_old_new _ o (After c.args.via c.args.n c.args.part.now c.args.mark o))
      (old_moments c.args.via c.args.n c.args.part.now c.args.mark _ o held fed c.count_gate.ensures.stored.any_moment) c.in-Err-count_gate.ensures.stored.serves.torn;
  others = λ at len was. tt;
  place = tt;
  extent = c.end-in-Err-count_gate.ensures ∙ c.fragment-heard.ensures.extent;
  serves = serves_failed _ c.in-Err-count_gate.ensures.stored.serves;
})

-- or the count is full
pub returns-then-records-tallies-clause-serves : goal.returns-then-records-tallies-clause-serves
returns-then-records-tallies-clause-serves g c = rw (← c.self.view_is) (let fed = (told_as c.args.via c.args.n c.args.part.now c.args.mark _ _ _ (c.in-Fed-Old.is ∙ ap answer.Fed (rw c.in-Fed-Old.is at c.in-Fed-Old.field-0-is)) c.fragment-heard.ensures.answer) in record {
  stands = λ o held. stands_full c.args.via c.args.n c.args.part.now c.args.mark _ _ c.fragment-heard.ensures.extent c.fragment-heard.ensures.stands (omega arith) o held fed;
  counted = λ o held counts. counts_old c.args.via c.args.n c.args.part.now c.args.mark _ c.fragment-heard.new.self _ o held counts fed (inr (refl, omega arith));
  acknowledged = λ o held. full_kept c.args.via c.args.n c.args.part.now c.args.mark _ _ o held fed (omega arith) c.fragment-heard.ensures.extent c.fragment-heard.ensures.stands;
  any_moment = λ o held. no_call c.args.via c.args.n c.args.part.now c.args.mark _ o (omega (arith, c.self.invariant.long)) held;
  again = λ o held. tt;
  others = λ at len was. was;
  place = record { words_are = refl; bytes_are = refl; base_is = refl; span_is = refl; limits_are = refl; extent_is = c.fragment-heard.ensures.extent };
  extent = tt;
  serves = serves_none (outside_stays _ _);
})

-- or it is dropped
pub returns-in-Dropped-clause-serves : goal.returns-in-Dropped-clause-serves
returns-in-Dropped-clause-serves g c = rw (← c.self.view_is) (let dropped = (told_as c.args.via c.args.n c.args.part.now c.args.mark _ _ _ c.in-Dropped.is c.fragment-heard.ensures.answer) in record {
  stands = λ o held. stands_dropped c.args.via c.args.n c.args.part.now c.args.mark _ _ o _ (c.fragment-heard.ensures.dropped _ c.in-Dropped.is) held dropped;
  counted = λ o held counts. counts_dropped c.args.via c.args.n c.args.part.now c.args.mark _ c.fragment-heard.new.self o _ held counts dropped;
  acknowledged = λ o held. dropped_kept c.args.via c.args.n c.args.part.now c.args.mark _ _ o _ held (c.fragment-heard.ensures.dropped _ c.in-Dropped.is) dropped;
  any_moment = λ o held. no_call c.args.via c.args.n c.args.part.now c.args.mark _ o (omega (arith, c.self.invariant.long)) held;
  again = λ o held. tt;
  others = λ at len was. was;
  place = record { words_are = refl; bytes_are = refl; base_is = refl; span_is = refl; limits_are = refl; extent_is = c.fragment-heard.ensures.extent };
  extent = tt;
  serves = serves_none (outside_stays _ _);
})

-- what was fed was not dropped
pub returns-in-Ok-clause-dropped : goal.returns-in-Ok-clause-dropped
returns-in-Ok-clause-dropped g c = λ d is. fed_dropped _ _ _ d c.in-Fed-New.is is

pub returns-in-Ok-clause-same : goal.returns-in-Ok-clause-same
returns-in-Ok-clause-same g c = λ d is. fed_dropped _ _ _ d c.in-Fed-New.is is

pub returns-in-Ok-clause-full : goal.returns-in-Ok-clause-full
returns-in-Ok-clause-full g c = λ over is. new_old _ _ (c.in-Fed-New.is ∙ ap answer.Fed (rw c.in-Fed-New.is at c.in-Fed-New.field-0-is)) is

pub returns-in-Ok-count_gate-clause-dropped : goal.returns-in-Ok-count_gate-clause-dropped
returns-in-Ok-count_gate-clause-dropped g c = λ d is. fed_dropped _ _ _ d c.in-Fed-Old.is is

pub returns-in-Ok-count_gate-clause-same : goal.returns-in-Ok-count_gate-clause-same
returns-in-Ok-count_gate-clause-same g c = λ d is. fed_dropped _ _ _ d c.in-Fed-Old.is is

pub returns-then-records-tallies-clause-dropped : goal.returns-then-records-tallies-clause-dropped
returns-then-records-tallies-clause-dropped g c = λ d is. refl

pub returns-then-records-tallies-clause-same : goal.returns-then-records-tallies-clause-same
returns-then-records-tallies-clause-same g c = λ d is. fed_dropped _ _ _ d c.in-Fed-Old.is is

pub returns-then-records-tallies-clause-full : goal.returns-then-records-tallies-clause-full
returns-then-records-tallies-clause-full g c = λ over is. refl

pub returns-in-Dropped-clause-dropped : goal.returns-in-Dropped-clause-dropped
returns-in-Dropped-clause-dropped g c = λ d is. refl

pub returns-in-Dropped-clause-full : goal.returns-in-Dropped-clause-full
returns-in-Dropped-clause-full g c = λ over is. refl
