-- Fragments that come in their order, of which some are skipped and some come twice.
use Rattle.std.proofs.Common.{◌≡◌, ◌⊎◌, inl, inr, ⊎_elim, ℕ, ◌+◌, ◌-◌, ◌<◌, ◌≤◌, ◌&&◌, not, nat_le, ◌==◌, Bool, true, false, cond, List, [], ◌∷◌, ◌++◌, refl, sym, ap, ◌∙◌, subst, arith}
use Rattle.std.specs.List.{AllByRecursion, list_any}
use Rattle.frag_model.specs.Fragments.{Fragment}
use Rattle.frag_model.specs.Gain.{direct_of, numbers_of}
use Rattle.frag_model.proofs.Uncoded.{each-In, direct_of-new}

-- the different pieces among them
abbrev pub pieces_in : (pieces : ℕ) → List Fragment → ℕ
pieces_in pieces heard = direct_of pieces (numbers_of heard)

-- of the heard fragments, newest first, the older ones are pieces, and all are below number m; those skipped and those heard
-- make up all before m, or all pieces
pub record IsInOrder (pieces m skipped : ℕ) (newer older heard : List Fragment) : Type 0 where
  pub parted : heard ≡ newer ++ older
  pub low : AllByRecursion (λ (f : Fragment). f.number < m) heard
  pub uncoded : AllByRecursion (λ (f : Fragment). f.number ≤ pieces) older
  pub enough : (m - 1 ≤ pieces_in pieces older + skipped) ⊎ (pieces ≤ pieces_in pieces older + skipped)
  pub early : m ≤ pieces + 1 → newer ≡ []
  pub few : skipped ≤ 60

abbrev pub OrderOf : (pieces m skipped : ℕ) → List Fragment → Type 0
OrderOf pieces m skipped heard = (newer : List Fragment) × (older : List Fragment) × IsInOrder pieces m skipped newer older heard

pub nothing_heard : (pieces : ℕ) → OrderOf pieces 1 0 []
nothing_heard pieces = ([], [], record { parted = refl; low = tt; uncoded = tt; enough = inl (omega arith); early = λ h. refl; few = omega arith })

lower : (m : ℕ) (heard : List Fragment) → AllByRecursion (λ (f : Fragment). f.number < m) heard → AllByRecursion (λ (f : Fragment). f.number < m + 1) heard
lower m [] all = tt
lower m (f ∷ heard) all = (omega (arith, all.0), lower m heard all.1)

past_enough : (pieces m known skipped : ℕ) → pieces < m → (m - 1 ≤ known + skipped) ⊎ (pieces ≤ known + skipped) → pieces ≤ known + skipped
past_enough pieces m known skipped past (inl e) = omega (arith, past, e)
past_enough pieces m known skipped past (inr e) = e

-- a fragment is skipped
pub order_skipped : (pieces m skipped : ℕ) (heard : List Fragment) → 1 ≤ m → OrderOf pieces m skipped heard → (pieces < m) ⊎ (skipped < 60)
    → OrderOf pieces (m + 1) (cond (nat_le m pieces) (skipped + 1) skipped) heard
order_skipped pieces m skipped heard from (newer, older, k) may = (newer, older, by (nat_le m pieces) refl)
  where
    by : (b : Bool) → nat_le m pieces ≡ b → IsInOrder pieces (m + 1) (cond b (skipped + 1) skipped) newer older heard
    by true is = record {
      parted = k.parted;
      low = lower m heard k.low;
      uncoded = k.uncoded;
      enough = ⊎_elim (λ e. inl (omega (arith, e, from))) (λ e. inr (omega (arith, e))) k.enough;
      early = λ h. k.early (omega (arith, h));
      few = ⊎_elim (λ past. absurd (grind (arith, is, past))) (λ small. omega (arith, small)) may;
    }
    by false is = record {
      parted = k.parted;
      low = lower m heard k.low;
      uncoded = k.uncoded;
      enough = inr (past_enough pieces m (pieces_in pieces older) skipped (grind (arith, is)) k.enough);
      early = λ h. k.early (omega (arith, h));
      few = k.few;
    }

numbers_low : (m : ℕ) (heard : List Fragment) → AllByRecursion (λ (f : Fragment). f.number < m) heard → AllByRecursion (λ n. n < m) (numbers_of heard)
unfolding numbers_of
numbers_low m [] all = tt
numbers_low m (f ∷ heard) all = (all.0, numbers_low m heard all.1)

one_piece_more : (pieces : ℕ) (f : Fragment) (older : List Fragment) → f.number ≤ pieces → AllByRecursion (λ (g : Fragment). g.number < f.number) older
    → pieces_in pieces (f ∷ older) ≡ pieces_in pieces older + 1
unfolding numbers_of
one_piece_more pieces f older low all =
    direct_of-new pieces f.number (numbers_of older) low
    (λ there. let less = each-In (λ (n : ℕ). n < f.number) f.number (numbers_of older) (numbers_low f.number older all) there in omega (arith, less))

-- the next fragment
pub order_heard : (pieces m skipped : ℕ) (heard : List Fragment) (f : Fragment) → f.number ≡ m → 1 ≤ m → OrderOf pieces m skipped heard → OrderOf pieces (m + 1) skipped (f ∷ heard)
order_heard pieces m skipped heard f is from (newer, older, k) = by (nat_le m pieces) refl
  where
    by : (b : Bool) → nat_le m pieces ≡ b → OrderOf pieces (m + 1) skipped (f ∷ heard)
    by true within =
        let within_pieces : m ≤ pieces = grind (arith, within) in
        let first : newer ≡ [] = k.early (omega (arith, within_pieces)) in
        let here : heard ≡ older = k.parted ∙ ap (λ (fs : List Fragment). fs ++ older) first in
        let below : AllByRecursion (λ (g : Fragment). g.number < f.number) older =
        subst (λ (n : ℕ). AllByRecursion (λ (g : Fragment). g.number < n) older) (sym is) (subst (AllByRecursion (λ (g : Fragment). g.number < m)) here k.low) in
        let more = one_piece_more pieces f older (omega (arith, is, within_pieces)) below in (
          [],
          f ∷ older,
          record {
            parted = ap (λ (fs : List Fragment). f ∷ fs) here;
            low = (omega (arith, is), lower m heard k.low);
            uncoded = (omega (arith, is, within_pieces), k.uncoded);
            enough = ⊎_elim (λ e. inl (omega (arith, e, more))) (λ e. inr (omega (arith, e, more))) k.enough;
            early = λ h. refl;
            few = k.few;
          },
        )
    by false past =
        let high : pieces < m = grind (arith, past) in (
          f ∷ newer,
          older,
          record {
            parted = ap (λ (fs : List Fragment). f ∷ fs) k.parted;
            low = (omega (arith, is), lower m heard k.low);
            uncoded = k.uncoded;
            enough = inr (past_enough pieces m (pieces_in pieces older) skipped high k.enough);
            early = λ h. absurd (omega (arith, h, high));
            few = k.few;
          },
        )

some_more : (n : ℕ) (b : Bool) → n ≤ n + cond b 1 0
some_more n true = omega arith
some_more n false = omega arith

no_fewer : (pieces : ℕ) (f : Fragment) (older : List Fragment) → pieces_in pieces older ≤ pieces_in pieces (f ∷ older)
unfolding numbers_of direct_of
no_fewer pieces f older = some_more (direct_of pieces (numbers_of older)) (nat_le f.number pieces && not (list_any (λ m. m == f.number) (numbers_of older)))

-- the one before it again
pub order_again : (pieces m skipped : ℕ) (heard : List Fragment) (f : Fragment) → f.number + 1 ≡ m → OrderOf pieces m skipped heard → OrderOf pieces m skipped (f ∷ heard)
order_again pieces m skipped heard f is (newer, older, k) = by (nat_le m (pieces + 1)) refl
  where
    by : (b : Bool) → nat_le m (pieces + 1) ≡ b → OrderOf pieces m skipped (f ∷ heard)
    by true within =
        let within_pieces : m ≤ pieces + 1 = grind (arith, within) in
        let here : heard ≡ older = k.parted ∙ ap (λ (fs : List Fragment). fs ++ older) (k.early within_pieces) in
        let more = no_fewer pieces f older in (
          [],
          f ∷ older,
          record {
            parted = ap (λ (fs : List Fragment). f ∷ fs) here;
            low = (omega (arith, is), k.low);
            uncoded = (omega (arith, is, within_pieces), k.uncoded);
            enough = ⊎_elim (λ e. inl (omega (arith, e, more))) (λ e. inr (omega (arith, e, more))) k.enough;
            early = λ h. refl;
            few = k.few;
          },
        )
    by false past =
        let high : pieces + 1 < m = grind (arith, past) in (
          f ∷ newer,
          older,
          record {
            parted = ap (λ (fs : List Fragment). f ∷ fs) k.parted;
            low = (omega (arith, is), k.low);
            uncoded = k.uncoded;
            enough = k.enough;
            early = λ h. absurd (omega (arith, h, high));
            few = k.few;
          },
        )
