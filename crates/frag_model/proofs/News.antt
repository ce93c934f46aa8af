-- Old fragments add nothing.
use Rattle.std.proofs.Common.{◌≡◌, ℕ, ◌+◌, ◌-◌, ◌*◌, ◌≤◌, Bool, true, false, ◌&&◌, ◌||◌, not, ◌==◌, List, [], ◌∷◌, length, refl, sym, ap, ap₂, ◌∙◌, subst, inl, inr, arith}
use Rattle.std.specs.Prelude.{if◌then◌else◌}
use Rattle.std.proofs.lemmas.Bool.{cases_Bool, false≢true, and_parts, or_cases, not-true, eqb-true, eqb-false, and_left}
use Rattle.frag_model.specs.Fragments.{Fragment, Shape}
use Rattle.frag_model.specs.Gain.{gain, direct, numbers_of}
use Rattle.frag_model.specs.Verdict.{Verdict, receiving, complete, no_rows, conflict, verdict, verdict_now, first_verdict, lacking, missing, missing_now, missing_next, IsVerdictNow}
use Rattle.frag_model.specs.Laws.{AreNumbered}
use Rattle.frag_model.proofs.Uncoded.{gain-none, heard_or_new}
use Rattle.frag_model.proofs.Enough.{gain-most, gain-least}
use Rattle.frag_model.proofs.Verdicts.{verdict_now-right}
use Rattle.std.proofs.lemmas.Bool.{cases_lt}
use Rattle.frag_model.specs.News.{is_receiving, is_new, news, AllNew, KnowTheSame, MeanTheSame}
use Rattle.frag_model.specs.NewsLaw.{OldFragmentsAddNothing}
use Rattle.frag_model.proofs.Knowing.{knows_more, knows_old, same_verdict_now, some_fits, gain_more, direct_heard, direct_new, direct_coded}

-- ---- verdicts

receives : (v : Verdict) → is_receiving v ≡ true → v ≡ receiving
unfolding is_receiving
receives receiving e = refl
receives (complete mark block) e = absurd (false≢true e)
receives (no_rows mark) e = absurd (false≢true e)
receives (conflict mark) e = absurd (false≢true e)

is_one : (v : Verdict) → v ≡ receiving → is_receiving v ≡ true
unfolding is_receiving
is_one v e = ap is_receiving e

-- one that was reached stays
stays : (v next : Verdict) → is_receiving v ≡ false → first_verdict v next ≡ v
unfolding is_receiving first_verdict
stays receiving next e = absurd (false≢true (sym e))
stays (complete mark block) next e = refl
stays (no_rows mark) next e = refl
stays (conflict mark) next e = refl

counts : (next : Verdict) → first_verdict receiving next ≡ next
unfolding first_verdict
counts next = refl

keeps : (v : Verdict) (kept next : ℕ) → is_receiving v ≡ false → missing_next v kept next ≡ kept
unfolding is_receiving missing_next
keeps receiving kept next e = absurd (false≢true (sym e))
keeps (complete mark block) kept next e = refl
keeps (no_rows mark) kept next e = refl
keeps (conflict mark) kept next e = refl

goes : (kept next : ℕ) → missing_next receiving kept next ≡ next
unfolding missing_next
goes kept next = refl

lacks_now : (now before : ℕ) → missing_now receiving now before ≡ now
unfolding missing_now
lacks_now now before = refl

verdict_more : (shape : Shape) (f : Fragment) (older : List Fragment) → verdict shape (f ∷ older) ≡ first_verdict (verdict shape older) (verdict_now shape (f ∷ older) f.mark)
unfolding verdict
verdict_more shape f older = refl

missing_more : (shape : Shape) (f : Fragment) (older : List Fragment) → missing shape (f ∷ older)
    ≡ missing_next (verdict shape older) (missing shape older) (missing_now (verdict shape (f ∷ older)) (lacking shape (f ∷ older)) (lacking shape older))
unfolding missing
missing_more shape f older = refl

same_lacking : (shape : Shape) (xs ys : List Fragment) → gain shape xs ≡ gain shape ys → lacking shape xs ≡ lacking shape ys
unfolding lacking
same_lacking shape xs ys e = ap (λ (g : ℕ). shape.nb_frag - g) e

-- after a verdict
decided_verdict : (shape : Shape) (f : Fragment) (older : List Fragment) → is_receiving (verdict shape older) ≡ false → verdict shape (f ∷ older) ≡ verdict shape older
decided_verdict shape f older e = verdict_more shape f older ∙ stays (verdict shape older) (verdict_now shape (f ∷ older) f.mark) e

decided_missing : (shape : Shape) (f : Fragment) (older : List Fragment) → is_receiving (verdict shape older) ≡ false → missing shape (f ∷ older) ≡ missing shape older
decided_missing shape f older e = missing_more shape f older ∙ keeps (verdict shape older) (missing shape older) (missing_now (verdict shape (f ∷ older)) (lacking shape (f ∷ older)) (lacking shape older)) e

-- and before it
open_verdict : (shape : Shape) (f : Fragment) (older : List Fragment) → verdict shape older ≡ receiving → verdict shape (f ∷ older) ≡ verdict_now shape (f ∷ older) f.mark
open_verdict shape f older e =
    verdict_more shape f older ∙ ap (λ (v : Verdict). first_verdict v (verdict_now shape (f ∷ older) f.mark)) e ∙ counts (verdict_now shape (f ∷ older) f.mark)

open_missing : (shape : Shape) (f : Fragment) (older : List Fragment) → verdict shape older ≡ receiving → missing shape (f ∷ older) ≡ missing_now (verdict shape (f ∷ older)) (lacking shape (f ∷ older)) (lacking shape older)
open_missing shape f older e =
    let next : ℕ = missing_now (verdict shape (f ∷ older)) (lacking shape (f ∷ older)) (lacking shape older) in
    missing_more shape f older ∙ ap (λ (v : Verdict). missing_next v (missing shape older) next) e ∙ goes (missing shape older) next

-- what was receiving before stays so only where it was
open_before : (shape : Shape) (f : Fragment) (older : List Fragment) → verdict shape (f ∷ older) ≡ receiving → verdict shape older ≡ receiving
open_before shape f older e = elim (cases_Bool (is_receiving (verdict shape older))) [
  | inl is ↦ receives (verdict shape older) is
  | inr decided ↦ absurd (false≢true (sym decided ∙ is_one (verdict shape older) (sym (decided_verdict shape f older decided) ∙ e)))
]

missing_receiving : (shape : Shape) (heard : List Fragment) → verdict shape heard ≡ receiving → missing shape heard ≡ lacking shape heard
unfolding missing lacking
missing_receiving shape [] e = omega (arith, gain-none shape)
missing_receiving shape (f ∷ older) e =
    open_missing shape f older (open_before shape f older e)
    ∙ ap (λ (v : Verdict). missing_now v (lacking shape (f ∷ older)) (lacking shape older)) e
    ∙ lacks_now (lacking shape (f ∷ older)) (lacking shape older)

-- ---- lists that mean the same

pub means_more : (shape : Shape) (f : Fragment) (xs ys : List Fragment) → MeanTheSame shape xs ys → MeanTheSame shape (f ∷ xs) (f ∷ ys)
means_more shape f xs ys m = elim (cases_Bool (is_receiving (verdict shape xs))) [
  | inr decided ↦
      let decided_ys : is_receiving (verdict shape ys) ≡ false = ap is_receiving (sym m.judged) ∙ decided in
      record {
        judged = decided_verdict shape f xs decided ∙ m.judged ∙ sym (decided_verdict shape f ys decided_ys);
        lacks = decided_missing shape f xs decided ∙ m.lacks ∙ sym (decided_missing shape f ys decided_ys);
        knows = λ e. absurd (false≢true (sym decided ∙ is_one (verdict shape xs) (open_before shape f xs e)));
      }
  | inl is ↦
      let here : verdict shape xs ≡ receiving = receives (verdict shape xs) is in
      let there : verdict shape ys ≡ receiving = sym m.judged ∙ here in
      let k : KnowTheSame shape xs ys = m.knows here in
      let more : KnowTheSame shape (f ∷ xs) (f ∷ ys) = knows_more shape f xs ys k in
      let judged : verdict shape (f ∷ xs) ≡ verdict shape (f ∷ ys) =
      open_verdict shape f xs here ∙ same_verdict_now shape (f ∷ xs) (f ∷ ys) f.mark more ∙ sym (open_verdict shape f ys there) in
      record {
        judged = judged;
        lacks = open_missing shape f xs here
            ∙ ap (λ (v : Verdict). missing_now v (lacking shape (f ∷ xs)) (lacking shape xs)) judged
            ∙ ap₂ (λ (now before : ℕ). missing_now (verdict shape (f ∷ ys)) now before) (same_lacking shape (f ∷ xs) (f ∷ ys) more.gained) (same_lacking shape xs ys k.gained)
            ∙ sym (open_missing shape f ys there);
        knows = λ e. more;
      }
]

-- what is not new changes nothing
old_changes : (shape : Shape) (f : Fragment) (older : List Fragment) → is_new shape f older ≡ false → is_receiving (verdict shape older) ≡ true
    → (gain shape (f ∷ older) ≡ gain shape older) × (direct shape (f ∷ older) ≡ direct shape older) × (is_receiving (verdict shape (f ∷ older)) ≡ true)
unfolding is_new
old_changes shape f older old is =
    let gains : Bool = gain shape (f ∷ older) == gain shape older in
    let directs : Bool = direct shape (f ∷ older) == direct shape older in
    let open_still : Bool = is_receiving (verdict shape (f ∷ older)) in
    let none : (not gains || not directs || not open_still) ≡ false = ap (λ (b : Bool). b && (not gains || not directs || not open_still)) (sym is) ∙ old in
    let parts = three_kept gains directs open_still none in
    (eqb-true (gain shape (f ∷ older)) (gain shape older) parts.0, eqb-true (direct shape (f ∷ older)) (direct shape older) parts.1, parts.2)
  where
    three_kept : (a b c : Bool) → (not a || not b || not c) ≡ false → (a ≡ true) × (b ≡ true) × (c ≡ true)
    three_kept true true true e = (refl, refl, refl)
    three_kept true true false e = absurd (false≢true (sym e))
    three_kept true false c e = absurd (false≢true (sym e))
    three_kept false b c e = absurd (false≢true (sym e))

old_means : (shape : Shape) (f : Fragment) (older : List Fragment) → is_new shape f older ≡ false → MeanTheSame shape (f ∷ older) older
old_means shape f older old = elim (cases_Bool (is_receiving (verdict shape older))) [
  | inr decided ↦ record {
    judged = decided_verdict shape f older decided;
    lacks = decided_missing shape f older decided;
    knows = λ e. absurd (false≢true (sym decided ∙ is_one (verdict shape older) (open_before shape f older e)));
  }
  | inl is ↦
      let here : verdict shape older ≡ receiving = receives (verdict shape older) is in
      let kept = old_changes shape f older old is in
      let still : verdict shape (f ∷ older) ≡ receiving = receives (verdict shape (f ∷ older)) kept.2 in
      let now : verdict_now shape (f ∷ older) f.mark ≡ receiving = sym (open_verdict shape f older here) ∙ still in
      let some = some_fits shape (f ∷ older) f.mark (subst (IsVerdictNow shape (f ∷ older) f.mark) now (verdict_now-right shape (f ∷ older) f.mark)) in
      record {
        judged = still ∙ sym here;
        lacks = missing_receiving shape (f ∷ older) still ∙ same_lacking shape (f ∷ older) older kept.0 ∙ sym (missing_receiving shape older here);
        knows = λ e. knows_old shape f older some.0 some.1 kept.0 kept.1;
      }
]

pub means_trans : (shape : Shape) (xs ys zs : List Fragment) → MeanTheSame shape xs ys → MeanTheSame shape ys zs → MeanTheSame shape xs zs
means_trans shape xs ys zs m n = record {
  judged = m.judged ∙ n.judged;
  lacks = m.lacks ∙ n.lacks;
  knows = λ e.
      let k = m.knows e in
      let l = n.knows (sym m.judged ∙ e) in
      record {
        fits = λ b. (λ h. (l.fits b).0 ((k.fits b).0 h), λ h. (k.fits b).1 ((l.fits b).1 h));
        sums = λ x. k.sums x ∙ l.sums x;
        gained = k.gained ∙ l.gained;
        pieces = k.pieces ∙ l.pieces;
        marked = λ j le. (λ h. (l.marked j le).0 ((k.marked j le).0 h), λ h. (k.marked j le).1 ((l.marked j le).1 h));
      };
}

pub means_itself : (shape : Shape) (xs : List Fragment) → MeanTheSame shape xs xs
means_itself shape xs = record {
  judged = refl;
  lacks = refl;
  knows = λ e. record { fits = λ b. (λ h. h, λ h. h); sums = λ x. refl; gained = refl; pieces = refl; marked = λ n le. (λ h. h, λ h. h) };
}

pub same : (shape : Shape) (heard : List Fragment) → MeanTheSame shape heard (news shape heard)
unfolding news
same shape [] = means_itself shape []
same shape (f ∷ older) = step (is_new shape f older) refl (same shape older)
  where
    step : (b : Bool) → is_new shape f older ≡ b → MeanTheSame shape older (news shape older) → MeanTheSame shape (f ∷ older) (if b then f ∷ news shape older else news shape older)
    step true e rest = means_more shape f older (news shape older) rest
    step false e rest = means_trans shape (f ∷ older) older (news shape older) (old_means shape f older e) rest

-- ---- what is new stays new

pub is_new_open : (shape : Shape) (f : Fragment) (older : List Fragment) → is_receiving (verdict shape older) ≡ true
    → is_new shape f older ≡ (not (gain shape (f ∷ older) == gain shape older) || not (direct shape (f ∷ older) == direct shape older) || not (is_receiving (verdict shape (f ∷ older))))
unfolding is_new
is_new_open shape f older is =
    ap (λ (b : Bool). b && (not (gain shape (f ∷ older) == gain shape older) || not (direct shape (f ∷ older) == direct shape older) || not (is_receiving (verdict shape (f ∷ older))))) is

pub is_new_decided : (shape : Shape) (f : Fragment) (older : List Fragment) → is_receiving (verdict shape older) ≡ false → is_new shape f older ≡ false
unfolding is_new
is_new_decided shape f older e = and_left (is_receiving (verdict shape older)) (not (gain shape (f ∷ older) == gain shape older) || not (direct shape (f ∷ older) == direct shape older) || not (is_receiving (verdict shape (f ∷ older)))) e

pub same_news : (shape : Shape) (f : Fragment) (xs ys : List Fragment) → MeanTheSame shape xs ys → is_new shape f xs ≡ is_new shape f ys
same_news shape f xs ys m = elim (cases_Bool (is_receiving (verdict shape xs))) [
  | inr decided ↦ is_new_decided shape f xs decided ∙ sym (is_new_decided shape f ys (ap is_receiving (sym m.judged) ∙ decided))
  | inl is ↦
      let k : KnowTheSame shape xs ys = m.knows (receives (verdict shape xs) is) in
      let more : KnowTheSame shape (f ∷ xs) (f ∷ ys) = knows_more shape f xs ys k in
      let judged = (means_more shape f xs ys m).judged in
      is_new_open shape f xs is
      ∙ ap₂ (λ (g h : ℕ). not (g == h) || not (direct shape (f ∷ xs) == direct shape xs) || not (is_receiving (verdict shape (f ∷ xs)))) more.gained k.gained
      ∙ ap₂ (λ (g h : ℕ). not (gain shape (f ∷ ys) == gain shape ys) || not (g == h) || not (is_receiving (verdict shape (f ∷ xs)))) more.pieces k.pieces
      ∙ ap (λ (v : Verdict). not (gain shape (f ∷ ys) == gain shape ys) || not (direct shape (f ∷ ys) == direct shape ys) || not (is_receiving v)) judged
      ∙ sym (is_new_open shape f ys (ap is_receiving (sym m.judged) ∙ is))
]

pub again : (shape : Shape) (f : Fragment) (older : List Fragment) → is_new shape f (news shape older) ≡ is_new shape f older
again shape f older = sym (same_news shape f older (news shape older) (same shape older))

pub all_new : (shape : Shape) (heard : List Fragment) → AllNew shape (news shape heard)
unfolding news AllNew
all_new shape [] = tt
all_new shape (f ∷ older) = step (is_new shape f older) refl (all_new shape older)
  where
    step : (b : Bool) → is_new shape f older ≡ b → AllNew shape (news shape older) → AllNew shape (if b then f ∷ news shape older else news shape older)
    step true e rest = (again shape f older ∙ e, rest)
    step false e rest = rest

-- ---- and few

gain_grows : (shape : Shape) (f : Fragment) (older : List Fragment) → gain shape older ≤ gain shape (f ∷ older)
gain_grows shape f older = omega (arith, gain_more shape f older)

direct_grows : (shape : Shape) (f : Fragment) (older : List Fragment) → direct shape older ≤ direct shape (f ∷ older)
direct_grows shape f older = elim (cases_lt shape.nb_frag f.number) [
  | inl coded ↦ omega (arith, direct_coded shape f older coded)
  | inr le ↦ elim (heard_or_new f.number (numbers_of older)) [
    | inl heard ↦ omega (arith, direct_heard shape f older heard)
    | inr new ↦ omega (arith, direct_new shape f older le new)
  ]
]

-- a verdict counts as one
one_if_decided : Verdict → ℕ
one_if_decided v = if is_receiving v then 0 else 1

not_yet : (v : Verdict) → is_receiving v ≡ true → one_if_decided v ≡ 0
unfolding one_if_decided
not_yet v e = rw e refl

already : (v : Verdict) → is_receiving v ≡ false → one_if_decided v ≡ 1
unfolding one_if_decided
already v e = rw e refl

new_counts : (shape : Shape) (f : Fragment) (older : List Fragment) → is_new shape f older ≡ true
    → gain shape older + direct shape older + one_if_decided (verdict shape older) + 1 ≤ gain shape (f ∷ older) + direct shape (f ∷ older) + one_if_decided (verdict shape (f ∷ older))
unfolding is_new
new_counts shape f older new =
    let parts = and_parts (is_receiving (verdict shape older)) (not (gain shape (f ∷ older) == gain shape older) || not (direct shape (f ∷ older) == direct shape older) || not (is_receiving (verdict shape (f ∷ older)))) new in
    let before : one_if_decided (verdict shape older) ≡ 0 = not_yet (verdict shape older) parts.0 in
    let gains = gain_grows shape f older in
    let directs = direct_grows shape f older in
    elim (or_cases (not (gain shape (f ∷ older) == gain shape older) || not (direct shape (f ∷ older) == direct shape older)) (not (is_receiving (verdict shape (f ∷ older)))) parts.1) [
      | inl told ↦ elim (or_cases (not (gain shape (f ∷ older) == gain shape older)) (not (direct shape (f ∷ older) == direct shape older)) told) [
        | inl gained ↦
            let other = eqb-false (gain shape (f ∷ older)) (gain shape older) (not-true (gain shape (f ∷ older) == gain shape older) gained) in
            omega (arith, before, gains, directs, other)
        | inr marked ↦
            let other = eqb-false (direct shape (f ∷ older)) (direct shape older) (not-true (direct shape (f ∷ older) == direct shape older) marked) in
            omega (arith, before, gains, directs, other)
      ]
      | inr decided ↦
          let after : one_if_decided (verdict shape (f ∷ older)) ≡ 1 = already (verdict shape (f ∷ older)) (not-true (is_receiving (verdict shape (f ∷ older))) decided) in
          omega (arith, before, after, gains, directs)
    ]

length_new : (shape : Shape) (heard : List Fragment) → AllNew shape heard → length heard ≤ gain shape heard + direct shape heard + one_if_decided (verdict shape heard)
unfolding AllNew
length_new shape [] h = omega arith
length_new shape (f ∷ older) h = let rest = length_new shape older h.1 in let more = new_counts shape f older h.0 in omega (arith, rest, more)

at_most_one : (v : Verdict) → one_if_decided v ≤ 1
unfolding one_if_decided is_receiving
at_most_one receiving = omega arith
at_most_one (complete mark block) = omega arith
at_most_one (no_rows mark) = omega arith
at_most_one (conflict mark) = omega arith

news_numbered : (shape : Shape) (heard : List Fragment) → AreNumbered heard → AreNumbered (news shape heard)
unfolding news
news_numbered shape [] h = tt
news_numbered shape (f ∷ older) h = step (is_new shape f older) (news_numbered shape older h.1)
  where
    step : (b : Bool) → AreNumbered (news shape older) → AreNumbered (if b then f ∷ news shape older else news shape older)
    step true rest = (h.0, rest)
    step false rest = rest

pub few : (shape : Shape) (heard : List Fragment) → AreNumbered heard → length (news shape heard) ≤ 2 * shape.nb_frag + 1
few shape heard numbered =
    let kept : List Fragment = news shape heard in
    let h = news_numbered shape heard numbered in
    omega (arith, length_new shape kept (all_new shape heard), gain-most shape kept h, gain-least shape kept h, at_most_one (verdict shape kept))

pub old_add_nothing : OldFragmentsAddNothing
old_add_nothing = record { same = same; again = again; all_new = all_new; few = few }
