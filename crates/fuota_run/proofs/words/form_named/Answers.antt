use Rattle.std.proofs.Common.{refl, sym, ◌∙◌}
use Rattle.fuota_run.specs.Words.{form_named}
use Rattle.fuota_run.proofs.words.form_named.Goals as goal

pub returns-then-eq : goal.returns-then-eq
unfolding form_named
returns-then-eq c = rw (sym c.eq.ensures ∙ c.if-eq.true) (c.named.ensures _ c.campaign_form.ensures)

pub returns-then-eq-2 : goal.returns-then-eq-2
unfolding form_named
returns-then-eq-2 c = rw (sym c.eq.ensures ∙ c.if-eq.false, sym c.eq-2.ensures ∙ c.if-eq-2.true) (c.named-then-eq-2.ensures _ c.recover_form.ensures)

pub returns-then-eq-3 : goal.returns-then-eq-3
unfolding form_named
returns-then-eq-3 c = rw (sym c.eq.ensures ∙ c.if-eq.false, sym c.eq-2.ensures ∙ c.if-eq-2.false, sym c.eq-3.ensures ∙ c.if-eq-3.true) (c.named-then-eq-3.ensures _ c.replay_form.ensures)

pub returns-then-eq-4 : goal.returns-then-eq-4
unfolding form_named
returns-then-eq-4 c = rw (sym c.eq.ensures ∙ c.if-eq.false, sym c.eq-2.ensures ∙ c.if-eq-2.false, sym c.eq-3.ensures ∙ c.if-eq-3.false, sym c.eq-4.ensures ∙ c.if-eq-4.true) (c.named-then-eq-4.ensures _ c.decode_form.ensures)

pub returns-then-eq-5 : goal.returns-then-eq-5
unfolding form_named
returns-then-eq-5 c = rw (sym c.eq.ensures ∙ c.if-eq.false, sym c.eq-2.ensures ∙ c.if-eq-2.false, sym c.eq-3.ensures ∙ c.if-eq-3.false, sym c.eq-4.ensures ∙ c.if-eq-4.false, sym c.eq-5.ensures ∙ c.if-eq-5.true) (c.named-then-eq-5.ensures _ c.generate_form.ensures)

pub returns-then-eq-6 : goal.returns-then-eq-6
unfolding form_named
returns-then-eq-6 c = rw (sym c.eq.ensures ∙ c.if-eq.false, sym c.eq-2.ensures ∙ c.if-eq-2.false, sym c.eq-3.ensures ∙ c.if-eq-3.false, sym c.eq-4.ensures ∙ c.if-eq-4.false, sym c.eq-5.ensures ∙ c.if-eq-5.false, sym c.eq-6.ensures ∙ c.if-eq-6.true) (c.named-then-eq-6.ensures _ c.capture_form.ensures)

pub returns-then-eq-7 : goal.returns-then-eq-7
unfolding form_named
returns-then-eq-7 c = rw (sym c.eq.ensures ∙ c.if-eq.false, sym c.eq-2.ensures ∙ c.if-eq-2.false, sym c.eq-3.ensures ∙ c.if-eq-3.false, sym c.eq-4.ensures ∙ c.if-eq-4.false, sym c.eq-5.ensures ∙ c.if-eq-5.false, sym c.eq-6.ensures ∙ c.if-eq-6.false, sym c.eq-7.ensures ∙ c.if-eq-7.true) (c.named-then-eq-7.ensures _ c.campaigns_form.ensures)

pub returns : goal.returns
unfolding form_named
returns c = rw (sym c.eq.ensures ∙ c.if-eq.false, sym c.eq-2.ensures ∙ c.if-eq-2.false, sym c.eq-3.ensures ∙ c.if-eq-3.false, sym c.eq-4.ensures ∙ c.if-eq-4.false, sym c.eq-5.ensures ∙ c.if-eq-5.false, sym c.eq-6.ensures ∙ c.if-eq-6.false, sym c.eq-7.ensures ∙ c.if-eq-7.false) refl
