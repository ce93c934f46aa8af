-- How many fragments are missing, by the verdicts that were reached one after another.
use Rattle.std.proofs.Common.{◌≡◌, ◌≢◌, ℕ, ◌-◌, List, [], ◌∷◌, refl, sym, ◌∙◌, arith}
use Rattle.frag_model.specs.Fragments.{Fragment, Shape}
use Rattle.frag_model.specs.Gain.{gain, gain_of, gain_of_lines, numbers_of}
use Rattle.frag_model.specs.Verdict.{Verdict, receiving, complete, no_rows, conflict, verdict, verdict_now, first_verdict, lacking, missing, missing_now, missing_next}
use Rattle.frag_session.specs.declared.answers.Verdict.TheVariants as shown
use Rattle.frag_session.specs.Session.{shape_of, seen_of, shown_verdict}
use Rattle.frag_session.specs.Missing.{MissingPieces}

-- ---- what is shown of a verdict

shown_open : (v : Verdict) → shown_verdict v ≡ shown.Receiving → v ≡ receiving
unfolding shown_verdict
shown_open receiving is = refl
shown_open (complete mark block) is = absurd cc
shown_open (no_rows mark) is = absurd cc
shown_open (conflict mark) is = absurd cc

shown_of : {v : Verdict} → v ≡ receiving → shown_verdict v ≡ shown.Receiving
unfolding shown_verdict
shown_of is = rw is refl

-- ---- before a verdict

first_open : (v next : Verdict) → first_verdict v next ≡ receiving → v ≡ receiving
unfolding first_verdict
first_open receiving next is = refl
first_open (complete mark block) next is = absurd cc
first_open (no_rows mark) next is = absurd cc
first_open (conflict mark) next is = absurd cc

older_open : (shape : Shape) (f : Fragment) (older : List Fragment) → verdict shape (f ∷ older) ≡ receiving → verdict shape older ≡ receiving
unfolding verdict
older_open shape f older is = first_open (verdict shape older) (verdict_now shape (f ∷ older) f.mark) is

still_lacking : (shape : Shape) (heard : List Fragment) → verdict shape heard ≡ receiving → missing shape heard ≡ lacking shape heard
unfolding missing missing_now missing_next lacking gain gain_of gain_of_lines numbers_of
still_lacking shape [] is = let none : shape.nb_frag ≡ shape.nb_frag - 0 = omega arith in none
still_lacking shape (f ∷ older) is = rw (older_open shape f older is, is) refl

-- ---- after one

kept : (v : Verdict) (kept next : ℕ) → v ≢ receiving → missing_next v kept next ≡ kept
unfolding missing_next
kept receiving old next decided = absurd (decided refl)
kept (complete mark block) old next decided = refl
kept (no_rows mark) old next decided = refl
kept (conflict mark) old next decided = refl

before : (v : Verdict) (now old : ℕ) → v ≢ receiving → ((mark : ℕ) → shown_verdict v ≢ shown.Complete mark) → missing_now v now old ≡ old
unfolding missing_now shown_verdict
before receiving now old decided none = absurd (decided refl)
before (complete mark block) now old decided none = absurd (none mark refl)
before (no_rows mark) now old decided none = refl
before (conflict mark) now old decided none = refl

stays : (shape : Shape) (f : Fragment) (older : List Fragment) → verdict shape older ≢ receiving → missing shape (f ∷ older) ≡ missing shape older
unfolding missing
stays shape f older decided = kept (verdict shape older) (missing shape older) _ decided

ends : (shape : Shape) (f : Fragment) (older : List Fragment) → verdict shape older ≡ receiving → verdict shape (f ∷ older) ≢ receiving
    → ((mark : ℕ) → shown_verdict (verdict shape (f ∷ older)) ≢ shown.Complete mark) → missing shape (f ∷ older) ≡ missing shape older
unfolding missing missing_next
ends shape f older is decided none = rw is (before (verdict shape (f ∷ older)) (lacking shape (f ∷ older)) (lacking shape older) decided none ∙ sym (still_lacking shape older is))

complete_now : (v w : Verdict) (now old left mark : ℕ) → shown_verdict (first_verdict v w) ≡ shown.Complete mark → (shown_verdict v ≡ shown.Complete mark → left ≡ 0)
    → missing_next v left (missing_now (first_verdict v w) now old) ≡ 0
unfolding missing_next missing_now first_verdict shown_verdict
complete_now receiving receiving now old left mark is before = absurd cc
complete_now receiving (complete at block) now old left mark is before = refl
complete_now receiving (no_rows at) now old left mark is before = absurd cc
complete_now receiving (conflict at) now old left mark is before = absurd cc
complete_now (complete at block) w now old left mark is before = before is
complete_now (no_rows at) w now old left mark is before = absurd cc
complete_now (conflict at) w now old left mark is before = absurd cc

nothing : (shape : Shape) (heard : List Fragment) (mark : ℕ) → shown_verdict (verdict shape heard) ≡ shown.Complete mark → missing shape heard ≡ 0
unfolding missing verdict shown_verdict
nothing shape [] mark is = absurd cc
nothing shape (f ∷ older) mark is = complete_now (verdict shape older) (verdict_now shape (f ∷ older) f.mark) (lacking shape (f ∷ older)) (lacking shape older) (missing shape older) mark is (nothing shape older mark)

pub missing_pieces : MissingPieces
unfolding seen_of shape_of lacking
missing_pieces = record {
  receiving = λ s is. still_lacking (shape_of s) s.heard (shown_open _ is);
  complete = λ s mark is. nothing (shape_of s) s.heard mark is;
  without_file = λ s f is decided none. ends (shape_of s) f s.heard (shown_open _ is) (λ no_more. decided (shown_of no_more)) none;
  later = λ s f decided. stays (shape_of s) f s.heard (λ is. decided (shown_of is));
}
