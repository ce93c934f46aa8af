-- What is known changes exactly at a fragment that is new.
use Rattle.std.proofs.Common.{◌≡◌, ℕ, ◌+◌, ◌-◌, ◌≤◌, Bool, true, false, ◌&&◌, ◌||◌, not, ◌==◌, List, ◌∷◌, Option, Some, None, refl, sym, ap, ap₂, ◌∙◌, subst, inl, inr, arith, eq-eqb, ne_eqb}
use Rattle.std.specs.Prelude.{if◌then◌else◌}
use Rattle.std.proofs.lemmas.Bool.{cases_eq}
use Rattle.frag_model.specs.Fragments.{Fragment, Shape}
use Rattle.frag_model.specs.Gain.{gain, direct}
use Rattle.frag_model.specs.Verdict.{Verdict, verdict}
use Rattle.frag_model.proofs.Enough.{gain-most}
use Rattle.row_elimination.specs.HeldPlaces.{pieces_held, gained_held}
use Rattle.row_elimination.specs.HeldSolver.{missing_of}
use Rattle.row_elimination.specs.HeldHistory.{StandsFor}
use Rattle.frag_model.specs.News.{is_receiving}
use Rattle.frag_model.proofs.News.{is_new_open, is_new_decided}
use Rattle.frag_session.specs.declared.answers.News.TheVariants as news
use Rattle.frag_session.specs.Session.{Session, shape_of, followed, fragment, news_in}
use Rattle.frag_session.specs.Held as kept
use Rattle.frag_session.specs.Held.{HeldSlot, Held}
use Rattle.frag_session.specs.HeldSteps.{told_of, news_between}
use Rattle.frag_session.specs.HeldHistory.{Stands}

same_tests : (a b c d : ℕ) → (a ≡ b → c ≡ d) → (c ≡ d → a ≡ b) → (a == b) ≡ (c == d)
same_tests a b c d to from = elim (cases_eq a b) [
  | inl is ↦ eq-eqb a b is ∙ sym (eq-eqb c d (to is))
  | inr not_is ↦ ne_eqb a b not_is ∙ sym (ne_eqb c d (λ e. not_is (from e)))
]

-- the verdict of a session that is kept decided
decided : (shape : Shape) (heard : List Fragment) (v : Verdict) → verdict shape heard ≡ v → is_receiving v ≡ false → is_receiving (verdict shape heard) ≡ false
decided shape heard v is e = ap is_receiving is ∙ e

old_told : (x : HeldSlot) (s : Session) → told_of x ≡ None → Stands x (Some s) → is_receiving (verdict (shape_of s) s.heard) ≡ false
unfolding told_of Stands is_receiving
old_told (kept.idle extent) s e k = absurd k
old_told (kept.receiving h) s e k = let no : ⊥ = cc in absurd no
old_told (kept.complete d) s e k = decided (shape_of s) s.heard _ k.1.decided refl
old_told (kept.overflowed f) s e k = decided (shape_of s) s.heard _ k.decided refl
old_told (kept.conflicted f) s e k = decided (shape_of s) s.heard _ k.decided refl

-- what is known of a session that hears
pub record Knows (s : Session) (told : ℕ × ℕ) : Type 0 where
  pub open_still : is_receiving (verdict (shape_of s) s.heard) ≡ true
  pub lacks : told.0 + gain (shape_of s) s.heard ≡ s.setup.nb_frag
  pub pieces : told.1 ≡ direct (shape_of s) s.heard

knows : (x : HeldSlot) (s : Session) (told : ℕ × ℕ) → told_of x ≡ Some told → Stands x (Some s) → Knows s told
unfolding told_of Stands is_receiving missing_of shape_of
knows (kept.idle extent) s told e k = absurd k
knows (kept.receiving h) s told e k =
    let shape : Shape = shape_of s in
    let is : StandsFor (record h.solver { shape = shape }) s.heard = subst (λ (z : Shape). StandsFor (record h.solver { shape = z }) s.heard) k.shape k.stands in
    let most : gain shape s.heard ≤ shape.nb_frag = gain-most shape s.heard is.numbered in
    let columns : h.solver.shape.nb_frag ≡ s.setup.nb_frag = ap (λ (z : Shape). z.nb_frag) k.shape in
    let same : ◌≡◌ {A = Option (ℕ × ℕ)} (Some (h.solver.shape.nb_frag - gained_held h.solver.places, pieces_held h.solver.places)) (Some told) = e in
    let pair : ◌≡◌ {A = ℕ × ℕ} (h.solver.shape.nb_frag - gained_held h.solver.places, pieces_held h.solver.places) told = cc in
    record {
      open_still = ap is_receiving is.undecided;
      lacks = omega (arith, most, columns, is.gained, ap (λ (p : ℕ × ℕ). p.0) pair);
      pieces = sym (ap (λ (p : ℕ × ℕ). p.1) pair) ∙ is.direct;
    }
knows (kept.complete d) s told e k = let no : ⊥ = cc in absurd no
knows (kept.overflowed f) s told e k = let no : ⊥ = cc in absurd no
knows (kept.conflicted f) s told e k = let no : ⊥ = cc in absurd no

-- ---- one fragment

both_tests : (a b c d : Bool) → a ≡ c → b ≡ d → (if a && b then news.Old else news.New) ≡ (if not c || not d || not true then news.New else news.Old)
both_tests true true c d e f = ap₂ (λ (p q : Bool). if not p || not q || not true then news.New else news.Old) e f
both_tests true false c d e f = ap₂ (λ (p q : Bool). if not p || not q || not true then news.New else news.Old) e f
both_tests false b c d e f = sym (ap (λ (p : Bool). if not p || not d || not true then news.New else news.Old) (sym e))

third_test : (a b : Bool) → (not a || not b || not false) ≡ true
third_test true true = refl
third_test true false = refl
third_test false b = refl

told_cases : (x new : HeldSlot) (s : Session) (n : ℕ) (part : List ℕ) (mark : ℕ) (before after : Option (ℕ × ℕ)) → told_of x ≡ before → told_of new ≡ after
    → Stands x (Some s) → Stands new (Some (followed s n part mark)) → news_between before after ≡ news_in (Some s) n part mark
unfolding news_between news_in shape_of followed
told_cases x new s n part mark None after e f k l =
    sym (ap (λ (t : Bool). if t then news.New else news.Old) (is_new_decided (shape_of s) (fragment n part mark) s.heard (old_told x s e k)))
told_cases x new s n part mark (Some before) None e f k l =
    let shape : Shape = shape_of s in
    let g : Fragment = fragment n part mark in
    let open_before : is_receiving (verdict shape s.heard) ≡ true = (knows x s before e k).open_still in
    let decided_now : is_receiving (verdict shape (g ∷ s.heard)) ≡ false = old_told new (followed s n part mark) f l in
    sym (ap (λ (t : Bool). if t then news.New else news.Old)
    (is_new_open shape g s.heard open_before
    ∙ ap (λ (t : Bool). not (gain shape (g ∷ s.heard) == gain shape s.heard) || not (direct shape (g ∷ s.heard) == direct shape s.heard) || not t) decided_now
    ∙ third_test (gain shape (g ∷ s.heard) == gain shape s.heard) (direct shape (g ∷ s.heard) == direct shape s.heard)))
told_cases x new s n part mark (Some before) (Some after) e f k l =
    let shape : Shape = shape_of s in
    let g : Fragment = fragment n part mark in
    let was = knows x s before e k in
    let is = knows new (followed s n part mark) after f l in
    let gains : (before.0 == after.0) ≡ (gain shape (g ∷ s.heard) == gain shape s.heard) =
    same_tests before.0 after.0 (gain shape (g ∷ s.heard)) (gain shape s.heard) (λ same. omega (arith, same, was.lacks, is.lacks)) (λ same. omega (arith, same, was.lacks, is.lacks)) in
    let directs : (before.1 == after.1) ≡ (direct shape (g ∷ s.heard) == direct shape s.heard) =
    same_tests before.1 after.1 (direct shape (g ∷ s.heard)) (direct shape s.heard) (λ same. sym is.pieces ∙ sym same ∙ was.pieces) (λ same. was.pieces ∙ sym same ∙ sym is.pieces) in
    both_tests (before.0 == after.0) (before.1 == after.1) (gain shape (g ∷ s.heard) == gain shape s.heard) (direct shape (g ∷ s.heard) == direct shape s.heard) gains directs
    ∙ sym (ap (λ (t : Bool). if t then news.New else news.Old)
    (is_new_open shape g s.heard was.open_still
    ∙ ap (λ (t : Bool). not (gain shape (g ∷ s.heard) == gain shape s.heard) || not (direct shape (g ∷ s.heard) == direct shape s.heard) || not t) is.open_still))

pub told_news : (x new : HeldSlot) (s : Session) (n : ℕ) (part : List ℕ) (mark : ℕ) → Stands x (Some s) → Stands new (Some (followed s n part mark))
    → news_between (told_of x) (told_of new) ≡ news_in (Some s) n part mark
told_news x new s n part mark k l = told_cases x new s n part mark (told_of x) (told_of new) refl refl k l
