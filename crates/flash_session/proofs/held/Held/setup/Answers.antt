use Rattle.std.proofs.Common.{◌≡◌, true, false, Option, refl, sym, subst, ◌∙◌}
use Rattle.frag_session.specs.Session.{Session}
use Rattle.flash_session.specs.HeldCalls.{OldNoneOrNew}
use Rattle.flash_session.proofs.Renewing.{refused_setup, kept_setup, new_setup, stands_equal, counts_equal, held_equal, bits_of, keeps_of, moments_new, unmoved_setup}
use Rattle.flash_session.proofs.Runs.{outside_stays}
use Rattle.flash_session.proofs.Serves.{serves_none}
use Rattle.flash_session.proofs.Still.{on_ok, on_err_to}
use Rattle.flash_session.proofs.held.Held.setup.Goals as goal

pub returns-then-bits-ne0-clause-serves : goal.returns-then-bits-ne0-clause-serves
returns-then-bits-ne0-clause-serves g c = record {
  stands = λ o held. stands_equal _ o _ (refused_setup _ _ o c.args.req (λ e. c.if-bits-ne0.true (bits_of _ _ c.args.req _ c.self.view_is c.refusal-bits.ensures ∙ e))) held;
  counted = λ o held counts. counts_equal c.args.self _ _ (refused_setup _ _ o c.args.req (λ e. c.if-bits-ne0.true (bits_of _ _ c.args.req _ c.self.view_is c.refusal-bits.ensures ∙ e))) counts;
  acknowledged = λ o held. held_equal _ o _ _ (refused_setup _ _ o c.args.req (λ e. c.if-bits-ne0.true (bits_of _ _ c.args.req _ c.self.view_is c.refusal-bits.ensures ∙ e))) held;
  any_moment = λ o held. unmoved_setup _ _ o _ c.self.view_is c.self.invariant.long held;
  again = λ o held. tt;
  others = λ at len was. was;
  place = rw (← c.self.view_is) (record { words_are = refl; bytes_are = refl; base_is = refl; span_is = refl; limits_are = refl; extent_is = refl });
  extent = tt;
  serves = serves_none (outside_stays _ _);
}

pub returns-then-keeps-clause-serves : goal.returns-then-keeps-clause-serves
returns-then-keeps-clause-serves g c = record {
  stands = λ o held. stands_equal _ o _ (kept_setup _ _ o c.args.req (sym (bits_of _ _ c.args.req _ c.self.view_is c.refusal-bits.ensures) ∙ c.if-bits-ne0.false) (sym (keeps_of _ _ c.args.req _ c.self.view_is c.keeps.ensures o held) ∙ c.if-keeps.true)) held;
  counted = λ o held counts. counts_equal c.args.self _ _ (kept_setup _ _ o c.args.req (sym (bits_of _ _ c.args.req _ c.self.view_is c.refusal-bits.ensures) ∙ c.if-bits-ne0.false) (sym (keeps_of _ _ c.args.req _ c.self.view_is c.keeps.ensures o held) ∙ c.if-keeps.true)) counts;
  acknowledged = λ o held. held_equal _ o _ _ (kept_setup _ _ o c.args.req (sym (bits_of _ _ c.args.req _ c.self.view_is c.refusal-bits.ensures) ∙ c.if-bits-ne0.false) (sym (keeps_of _ _ c.args.req _ c.self.view_is c.keeps.ensures o held.stands) ∙ c.if-keeps.true)) held;
  any_moment = λ o held. unmoved_setup _ _ o _ c.self.view_is c.self.invariant.long held;
  again = λ o held. tt;
  others = λ at len was. was;
  place = rw (← c.self.view_is) (record { words_are = refl; bytes_are = refl; base_is = refl; span_is = refl; limits_are = refl; extent_is = refl });
  extent = tt;
  serves = serves_none (outside_stays _ _);
}

pub returns-clause-serves : goal.returns-clause-serves
returns-clause-serves g c = record {
  stands = λ o held. on_ok (λ r stands. stands_equal _ _ _ (new_setup _ _ o c.args.req (sym (bits_of _ _ c.args.req _ c.self.view_is c.refusal-bits.ensures) ∙ c.if-bits-ne0.false) (sym (keeps_of _ _ c.args.req _ c.self.view_is c.keeps.ensures o held) ∙ c.if-keeps.false)) stands) c.renew.result (c.renew.ensures.serves.stands o held);
  counted = λ o held counts. on_ok (λ r counted. counts_equal r.0 _ _ (new_setup _ _ o c.args.req (sym (bits_of _ _ c.args.req _ c.self.view_is c.refusal-bits.ensures) ∙ c.if-bits-ne0.false) (sym (keeps_of _ _ c.args.req _ c.self.view_is c.keeps.ensures o held) ∙ c.if-keeps.false)) counted) c.renew.result (c.renew.ensures.serves.counted o held counts);
  acknowledged = λ o held. on_ok (λ r is. held_equal _ _ _ _ (new_setup _ _ o c.args.req (sym (bits_of _ _ c.args.req _ c.self.view_is c.refusal-bits.ensures) ∙ c.if-bits-ne0.false) (sym (keeps_of _ _ c.args.req _ c.self.view_is c.keeps.ensures o held.stands) ∙ c.if-keeps.false)) is) c.renew.result (c.renew.ensures.serves.acknowledged o held);
  any_moment = λ o held. moments_new _ o _ _ (new_setup _ _ o c.args.req (sym (bits_of _ _ c.args.req _ c.self.view_is c.refusal-bits.ensures) ∙ c.if-bits-ne0.false) (sym (keeps_of _ _ c.args.req _ c.self.view_is c.keeps.ensures o held.stands) ∙ c.if-keeps.false)) (c.renew.ensures.serves.any_moment o held);
  again = λ o held. on_err_to (λ lies b now. subst (λ (x : Option Session). OldNoneOrNew c.args.self o x b) (sym (new_setup _ _ o c.args.req (sym (bits_of _ _ c.args.req _ c.self.view_is c.refusal-bits.ensures) ∙ c.if-bits-ne0.false) (sym (keeps_of _ _ c.args.req _ c.self.view_is c.keeps.ensures o held.stands) ∙ c.if-keeps.false))) (lies b now)) c.renew.result (c.renew.ensures.serves.again o held);
  others = c.renew.ensures.serves.others;
  place = c.renew.ensures.serves.place;
  extent = c.renew.ensures.serves.extent;
  serves = c.renew.ensures.serves.serves;
}

pub returns-clause-bits : goal.returns-clause-bits
returns-clause-bits g c = on_ok (λ r none. none ∙ sym (sym (bits_of _ _ c.args.req _ c.self.view_is c.refusal-bits.ensures) ∙ c.if-bits-ne0.false)) c.renew.result c.renew.ensures.bits

pub returns-clause-refused : goal.returns-clause-refused
returns-clause-refused g c = λ some. absurd (some (sym (bits_of _ _ c.args.req _ c.self.view_is c.refusal-bits.ensures) ∙ c.if-bits-ne0.false))

pub returns-clause-equal : goal.returns-clause-equal
returns-clause-equal g c = λ o held equal. let no : true ≡ false = sym equal ∙ (sym (keeps_of _ _ c.args.req _ c.self.view_is c.keeps.ensures o held) ∙ c.if-keeps.false) in absurd cc
