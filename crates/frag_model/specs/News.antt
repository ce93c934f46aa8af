-- Fragments that tell something new, and lists that mean the same. Lists are newest first.
use Rattle.std.specs.Prelude.{◌≡◌, ◌↔◌, ℕ, ◌≤◌, Bool, true, false, ◌&&◌, ◌||◌, not, ◌==◌, List, [], ◌∷◌, map, if◌then◌else◌}
use Rattle.frag_model.specs.Fragments.{Fragment, Shape, line_of}
use Rattle.frag_model.specs.Gain.{is_sum, numbers_of, gain, direct}
use Rattle.frag_model.specs.Verdict.{Verdict, receiving, complete, no_rows, conflict, verdict, missing, FittingBlock}
use Rattle.frag_model.specs.Members.{In}

-- nothing is decided
unfoldable pub is_receiving : Verdict → Bool
is_receiving receiving = true
is_receiving (complete mark block) = false
is_receiving (no_rows mark) = false
is_receiving (conflict mark) = false

-- the fragment is new after these: nothing is decided yet, and it changes gain, direct or the verdict
unfoldable pub is_new : Shape → Fragment → List Fragment → Bool
is_new shape f older =
    is_receiving (verdict shape older)
    && (not (gain shape (f ∷ older) == gain shape older)
    || not (direct shape (f ∷ older) == direct shape older)
    || not (is_receiving (verdict shape (f ∷ older))))

-- those that were new when they came
unfoldable pub news : Shape → List Fragment → List Fragment
news shape [] = []
news shape (f ∷ older) = if is_new shape f older then f ∷ news shape older else news shape older

-- each is new after those before it
unfoldable pub AllNew : Shape → List Fragment → Type 0
AllNew shape [] = Unit {0}
AllNew shape (f ∷ older) = (is_new shape f older ≡ true) × AllNew shape older

-- the lines that were heard
abbrev pub lines_heard : Shape → List Fragment → List ℕ
lines_heard shape heard = map (λ n. line_of shape.nb_frag n) (numbers_of heard)

-- two lists know the same of the pieces
pub record KnowTheSame (shape : Shape) (xs ys : List Fragment) : Type 0 where
  pub fits : (block : List (List ℕ)) → FittingBlock shape xs block ↔ FittingBlock shape ys block
  pub sums : (x : ℕ) → is_sum x (lines_heard shape xs) ≡ is_sum x (lines_heard shape ys)
  pub gained : gain shape xs ≡ gain shape ys
  pub pieces : direct shape xs ≡ direct shape ys
  pub marked : (n : ℕ) → n ≤ shape.nb_frag → In n (numbers_of xs) ↔ In n (numbers_of ys)

-- two lists have one verdict, with its mark, and as much is missing; and while nothing is decided they know the same
pub record MeanTheSame (shape : Shape) (xs ys : List Fragment) : Type 0 where
  pub judged : verdict shape xs ≡ verdict shape ys
  pub lacks : missing shape xs ≡ missing shape ys
  pub knows : verdict shape xs ≡ receiving → KnowTheSame shape xs ys
