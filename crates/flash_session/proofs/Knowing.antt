-- What is held of the records is what is known of all that was heard.
use Rattle.std.proofs.Common.{◌≡◌, ℕ, suc, ◌-◌, ◌<◌, List, Some, refl, sym, ap, ap₂, ◌∙◌, subst}
use Rattle.frag_model.specs.Fragments.{Fragment, Shape}
use Rattle.frag_model.specs.Gain.{is_sum, gain, direct, excess}
use Rattle.frag_model.specs.News.{lines_heard, KnowTheSame, MeanTheSame}
use Rattle.frag_model.specs.Verdict.{receiving, verdict, FittingBlock}
use Rattle.frag_session.specs.Held.{HeldSlot}
use Rattle.frag_session.specs.Session.{shape_of}
use Rattle.frag_session.specs.HeldHistory.{Stands, Holds}
use Rattle.row_elimination.specs.HeldSolver.{Held as Solved}
use Rattle.row_elimination.specs.HeldHistory.{StandsFor}
use Rattle.flash_session.specs.FixedMemory.{FixedMemory}
use Rattle.flash_session.specs.Sessions.{hearing}

-- over plain variables: the solver stands for one list, and another means the same
knows_all : (held : Solved) (shape : Shape) (fed heard : List Fragment) → held.shape ≡ shape → StandsFor held fed → MeanTheSame shape fed heard
    → (verdict shape heard ≡ receiving) × KnowTheSame shape fed heard
knows_all held shape fed heard same stands means =
    let undecided : verdict shape fed ≡ receiving = subst (λ (x : Shape). verdict x fed ≡ receiving) same stands.undecided in
    (sym means.judged ∙ undecided, means.knows undecided)

pub fixed_memory : FixedMemory
unfolding shape_of hearing Stands excess
fixed_memory h s k is held =
    let but = held.slot in
    let holds : Holds k (hearing s but.fed) = subst (λ (x : HeldSlot). Stands x (Some (hearing s but.fed))) is but.stands in
    let both = knows_all k.solver (shape_of s) but.fed s.heard holds.shape holds.stands but.means in
    let same : KnowTheSame (shape_of s) but.fed s.heard = both.1 in
    let on : StandsFor k.solver but.fed = holds.stands in
    let shape : k.solver.shape ≡ shape_of s = holds.shape in
    record {
      undecided = both.0;
      fits = λ block. (
        (λ fit. (on.fits block).0 (subst (λ (x : Shape). FittingBlock x but.fed block) (sym shape) ((same.fits block).1 fit))),
        (λ fit. (same.fits block).0 (subst (λ (x : Shape). FittingBlock x but.fed block) shape ((on.fits block).1 fit))),
      );
      sums = λ x. sym (same.sums x) ∙ subst (λ (y : Shape). is_sum x (lines_heard y but.fed) ≡ is_sum x (lines_heard k.solver.shape but.fed)) shape refl ∙ on.sums x;
      rows = on.rows ∙ ap (λ (x : Shape). excess x but.fed) shape ∙ ap₂ (λ (a b : ℕ). a - b) same.gained same.pieces;
      direct_is = on.direct ∙ ap (λ (x : Shape). direct x but.fed) shape ∙ same.pieces;
      gain_is = on.gained ∙ ap (λ (x : Shape). gain x but.fed) shape ∙ same.gained;
      marked = λ c lt. (
        (λ mark. (same.marked (suc c) lt).0 ((on.marked c (subst (λ (x : Shape). c < x.nb_frag) (sym shape) lt)).0 mark)),
        (λ there. (on.marked c (subst (λ (x : Shape). c < x.nb_frag) (sym shape) lt)).1 ((same.marked (suc c) lt).1 there)),
      );
    }
