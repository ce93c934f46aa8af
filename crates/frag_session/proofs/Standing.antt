-- What one fragment more makes of what is kept stands for what it makes of each history.
use Rattle.std.proofs.Common.{◌≡◌, ℕ, zero, suc, suc-mul, ◌*◌, ◌<◌, ◌≤◌, List, ◌∷◌, length, Option, Some, None, refl, sym, ap, ◌∙◌, option_map, arith}
use Rattle.frag_model.specs.Fragments.{Fragment, Shape}
use Rattle.frag_model.specs.Verdict.{Verdict, complete, no_rows, conflict, verdict, verdict_now, first_verdict, missing, missing_now, missing_next, lacking}
use Rattle.frag_model.proofs.Files.{length-block}
use Rattle.row_elimination.specs.HeldSolver.{Held as Solved, missing_of, Receives, Completes, Contradicts, Overflows}
use Rattle.row_elimination.proofs.Standing.{feed_stands}
use Rattle.frag_session.specs.Session.{Session, shape_of, followed, received_count}
use Rattle.frag_session.specs.Held as kept
use Rattle.frag_session.specs.Held.{HeldSlot, Held, Done, Failed, one_more}
use Rattle.frag_session.specs.HeldSteps.{session_setup}
use Rattle.frag_session.specs.HeldHistory.{Holds, IsWhole, IsFailed, IsOverflowed, Stands}

count_more : (received : ℕ) (heard : List Fragment) (f : Fragment) → received ≡ received_count (length heard) → one_more received ≡ received_count (length (f ∷ heard))
unfolding one_more
count_more received heard f e = omega arith

abbrev pub fragment : ℕ → List ℕ → ℕ → Fragment
fragment n part mark = record { number = n; part = part; mark = mark }

-- ---- a session that hears, and one fragment more of it

-- nothing is decided
pub receives_holds : (h : Held) (s : Session) (new : Solved) (n : ℕ) (part : List ℕ) (mark : ℕ) → Holds h s → 1 ≤ n → Receives h.solver new n part
    → Holds (record { setup = h.setup; received = one_more h.received; solver = new }) (followed s n part mark)
unfolding followed shape_of
receives_holds h s new n part mark k first r = record {
  setup = k.setup;
  fine = k.fine;
  shape = r.takes.shape ∙ k.shape;
  received = count_more h.received s.heard (fragment n part mark) k.received;
  stands = feed_stands.receives h.solver new (fragment n part mark) s.heard first k.stands r;
}

-- the bytes of a block that is left over
pub complete_sized : (old new : Solved) (n : ℕ) (part : List ℕ) → Completes old new n part → length new.content ≡ old.shape.nb_frag * old.shape.frag_size
complete_sized old new n part r = ap length r.one.3 ∙ length-block old.shape r.one.0 r.one.1.fits.shaped

-- the file is whole
pub completes_whole : (h : Held) (s : Session) (new : Solved) (n : ℕ) (part : List ℕ) (mark : ℕ) → Holds h s → 1 ≤ n → Completes h.solver new n part
    → (block : List (List ℕ)) × IsWhole (record { setup = h.setup; received = one_more h.received; mark = mark; solver = new }) (followed s n part mark) block
unfolding followed shape_of
completes_whole h s new n part mark k first r =
    let f : Fragment = fragment n part mark in
    let told = feed_stands.completes h.solver new f s.heard first k.stands r in (
      told.0,
      record {
        setup = k.setup;
        fine = k.fine;
        received = count_more h.received s.heard f k.received;
        decided = ap (λ (x : Shape). verdict x (f ∷ s.heard)) (sym k.shape) ∙ told.1;
        content = sym told.2;
        sized = complete_sized h.solver new n part r ∙ ap (λ (x : Shape). x.nb_frag * x.frag_size) k.shape;
        nothing = ap (λ (x : Shape). missing x (f ∷ s.heard)) (sym k.shape) ∙ told.3;
      },
    )

-- no file fits
pub contradicts_failed : (h : Held) (s : Session) (new : Solved) (n : ℕ) (part : List ℕ) (mark : ℕ) → Holds h s → 1 ≤ n → Contradicts h.solver new n part
    → IsFailed (record { setup = h.setup; received = one_more h.received; missing = missing_of new; mark = mark; solver = new }) (followed s n part mark)
unfolding followed shape_of
contradicts_failed h s new n part mark k first r =
    let f : Fragment = fragment n part mark in
    let told = feed_stands.contradicts h.solver new f s.heard first k.stands r in
    record {
      setup = k.setup;
      fine = k.fine;
      received = count_more h.received s.heard f k.received;
      decided = ap (λ (x : Shape). verdict x (f ∷ s.heard)) (sym k.shape) ∙ told.0;
      kept = ap (λ (x : Shape). missing x (f ∷ s.heard)) (sym k.shape) ∙ told.1;
    }

-- the rows do not suffice
pub overflows_failed : (h : Held) (s : Session) (new : Solved) (n : ℕ) (part : List ℕ) (mark : ℕ) → Holds h s → 1 ≤ n → Overflows h.solver new n part
    → IsOverflowed (record { setup = h.setup; received = one_more h.received; missing = missing_of new; mark = mark; solver = new }) (followed s n part mark)
unfolding followed shape_of
overflows_failed h s new n part mark k first r =
    let f : Fragment = fragment n part mark in
    let told = feed_stands.overflows h.solver new f s.heard first k.stands r in
    record {
      setup = k.setup;
      fine = k.fine;
      received = count_more h.received s.heard f k.received;
      decided = ap (λ (x : Shape). verdict x (f ∷ s.heard)) (sym k.shape) ∙ told.0;
      kept = ap (λ (x : Shape). missing x (f ∷ s.heard)) (sym k.shape) ∙ told.1;
    }

-- ---- a decided one

-- a verdict that came stays, and so does what is missing
abbrev stays : Shape → Fragment → List Fragment → Verdict → Type 0
stays shape f older v = (verdict shape (f ∷ older) ≡ v) × (missing shape (f ∷ older) ≡ missing shape older)

missing_after : (shape : Shape) (f : Fragment) (older : List Fragment) → ℕ
missing_after shape f older = missing_now (verdict shape (f ∷ older)) (lacking shape (f ∷ older)) (lacking shape older)

complete_stays : (shape : Shape) (f : Fragment) (older : List Fragment) (mark : ℕ) (block : List (List ℕ)) → verdict shape older ≡ complete mark block → stays shape f older (complete mark block)
unfolding verdict first_verdict missing missing_next missing_after
complete_stays shape f older mark block e = (
  ap (λ v. first_verdict v (verdict_now shape (f ∷ older) f.mark)) e,
  ap (λ v. missing_next v (missing shape older) (missing_after shape f older)) e,
)

no_rows_stays : (shape : Shape) (f : Fragment) (older : List Fragment) (mark : ℕ) → verdict shape older ≡ no_rows mark → stays shape f older (no_rows mark)
unfolding verdict first_verdict missing missing_next missing_after
no_rows_stays shape f older mark e = (
  ap (λ v. first_verdict v (verdict_now shape (f ∷ older) f.mark)) e,
  ap (λ v. missing_next v (missing shape older) (missing_after shape f older)) e,
)

conflict_stays : (shape : Shape) (f : Fragment) (older : List Fragment) (mark : ℕ) → verdict shape older ≡ conflict mark → stays shape f older (conflict mark)
unfolding verdict first_verdict missing missing_next missing_after
conflict_stays shape f older mark e = (
  ap (λ v. first_verdict v (verdict_now shape (f ∷ older) f.mark)) e,
  ap (λ v. missing_next v (missing shape older) (missing_after shape f older)) e,
)

whole_stays : (d : Done) (s : Session) (block : List (List ℕ)) (n : ℕ) (part : List ℕ) (mark : ℕ) → IsWhole d s block → IsWhole (record d { received = one_more d.received }) (followed s n part mark) block
unfolding followed shape_of
whole_stays d s block n part mark k =
    let f : Fragment = fragment n part mark in
    let still = complete_stays (shape_of s) f s.heard d.mark block k.decided in
    record {
      setup = k.setup;
      fine = k.fine;
      received = count_more d.received s.heard f k.received;
      decided = still.0;
      content = k.content;
      sized = k.sized;
      nothing = still.1 ∙ k.nothing;
    }

failed_stays : (x : Failed) (s : Session) (n : ℕ) (part : List ℕ) (mark : ℕ) → IsFailed x s → IsFailed (record x { received = one_more x.received }) (followed s n part mark)
unfolding followed shape_of
failed_stays x s n part mark k =
    let f : Fragment = fragment n part mark in
    let still = conflict_stays (shape_of s) f s.heard x.mark k.decided in
    record {
      setup = k.setup;
      fine = k.fine;
      received = count_more x.received s.heard f k.received;
      decided = still.0;
      kept = still.1 ∙ k.kept;
    }

overflowed_stays : (x : Failed) (s : Session) (n : ℕ) (part : List ℕ) (mark : ℕ) → IsOverflowed x s → IsOverflowed (record x { received = one_more x.received }) (followed s n part mark)
unfolding followed shape_of
overflowed_stays x s n part mark k =
    let f : Fragment = fragment n part mark in
    let still = no_rows_stays (shape_of s) f s.heard x.mark k.decided in
    record {
      setup = k.setup;
      fine = k.fine;
      received = count_more x.received s.heard f k.received;
      decided = still.0;
      kept = still.1 ∙ k.kept;
    }

pub complete_counts : (d : Done) (s : Session) (n : ℕ) (part : List ℕ) (mark : ℕ) → Stands (kept.complete d) (Some s) → Stands (kept.complete (record d { received = one_more d.received })) (Some (followed s n part mark))
unfolding Stands
complete_counts d s n part mark k = (k.0, whole_stays d s k.0 n part mark k.1)

pub overflowed_counts : (x : Failed) (s : Session) (n : ℕ) (part : List ℕ) (mark : ℕ) → Stands (kept.overflowed x) (Some s) → Stands (kept.overflowed (record x { received = one_more x.received })) (Some (followed s n part mark))
unfolding Stands
overflowed_counts x s n part mark k = overflowed_stays x s n part mark k

pub conflicted_counts : (x : Failed) (s : Session) (n : ℕ) (part : List ℕ) (mark : ℕ) → Stands (kept.conflicted x) (Some s) → Stands (kept.conflicted (record x { received = one_more x.received })) (Some (followed s n part mark))
unfolding Stands
conflicted_counts x s n part mark k = failed_stays x s n part mark k

-- ---- a slot

-- what the slot keeps as setup is the session's
pub setup_kept : (x : HeldSlot) (s : Session) → Stands x (Some s) → session_setup x ≡ Some s.setup
unfolding Stands session_setup
setup_kept (kept.idle extent) s k = absurd k
setup_kept (kept.receiving h) s k = ap Some (sym k.setup)
setup_kept (kept.complete d) s k = ap Some (sym k.1.setup)
setup_kept (kept.overflowed f) s k = ap Some (sym k.setup)
setup_kept (kept.conflicted f) s k = ap Some (sym k.setup)

pub no_setup_kept : (x : HeldSlot) → Stands x None → session_setup x ≡ None
unfolding Stands session_setup
no_setup_kept (kept.idle extent) k = refl
no_setup_kept (kept.receiving h) k = absurd k
no_setup_kept (kept.complete d) k = absurd k
no_setup_kept (kept.overflowed f) k = absurd k
no_setup_kept (kept.conflicted f) k = absurd k

-- the padding is in the last piece
pub room_for_padding : (nb_frag frag_size padding len : ℕ) → 1 ≤ nb_frag → padding < frag_size → len ≡ nb_frag * frag_size → padding ≤ len
room_for_padding zero frag_size padding len some short is = absurd (omega arith)
room_for_padding (suc k) frag_size padding len some short is = omega (arith, suc-mul k frag_size)

pub request_kept : (x : HeldSlot) (s : Option Session) → Stands x s → session_setup x ≡ option_map (λ (y : Session). y.setup) s
request_kept x None k = no_setup_kept x k
request_kept x (Some s) k = setup_kept x s k
