-- How much is gained and how much of it is direct, as fragments go on coming.
use Rattle.std.proofs.Common.{ℕ, ◌+◌, ◌≤◌, List, [], ◌∷◌, ◌++◌, map, arith, inl, inr}
use Rattle.std.specs.List.{AllByRecursion}
use Rattle.std.proofs.lemmas.Bool.{cases_lt}
use Rattle.frag_model.specs.Fragments.{Fragment, Shape, IsUncoded, line_of}
use Rattle.frag_model.specs.Gain.{gain_of, direct_of, numbers_of, gain, direct, excess}
use Rattle.frag_model.specs.Laws.{AreNumbered}
use Rattle.frag_model.proofs.Uncoded.{heard_or_new, direct_of-heard, direct_of-new}
use Rattle.frag_model.proofs.Dimension.{gain-le, lines_within, direct-le-gain, direct_of-coded}
use Rattle.frag_model.proofs.Uniqueness.{numbers_from_one}

pub gain-most : (shape : Shape) (heard : List Fragment) → AreNumbered heard → gain shape heard ≤ shape.nb_frag
unfolding gain gain_of numbers_of
gain-most shape heard h = gain-le shape.nb_frag (map (λ n. line_of shape.nb_frag n) (numbers_of heard)) (lines_within shape.nb_frag (numbers_of heard) (numbers_from_one heard h))

pub gain-least : (shape : Shape) (heard : List Fragment) → AreNumbered heard → direct shape heard ≤ gain shape heard
unfolding gain direct numbers_of
gain-least shape heard h = direct-le-gain shape.nb_frag (numbers_of heard) (numbers_from_one heard h)

-- what came uncoded stays
direct_of-more : (nb_frag n : ℕ) (older : List ℕ) → direct_of nb_frag older ≤ direct_of nb_frag (n ∷ older)
direct_of-more nb_frag n older = elim (cases_lt nb_frag n) [
  | inl lt ↦ omega (arith, direct_of-coded nb_frag n older lt)
  | inr le ↦ elim (heard_or_new n older) [
    | inl m ↦ omega (arith, direct_of-heard nb_frag n older m)
    | inr new ↦ omega (arith, direct_of-new nb_frag n older le new)
  ]
]

direct-more : (shape : Shape) (newer older : List Fragment) → direct shape older ≤ direct shape (newer ++ older)
unfolding direct numbers_of
direct-more shape [] older = omega arith
direct-more shape (f ∷ newer) older =
    let rest = direct-more shape newer older in
    let one = direct_of-more shape.nb_frag f.number (map (λ (x : Fragment). x.number) (newer ++ older)) in
    omega (arith, rest, one)

numbered_both : (shape : Shape) (newer older : List Fragment) → AreNumbered newer → AllByRecursion (IsUncoded shape) older → AreNumbered (newer ++ older)
numbered_both shape [] older h k = numbered older k
  where
    numbered : (older : List Fragment) → AllByRecursion (IsUncoded shape) older → AreNumbered older
    numbered [] k = tt
    numbered (f ∷ older) k = (k.0.first, numbered older k.1)
numbered_both shape (f ∷ newer) older h k = (h.0, numbered_both shape newer older h.1 k)

pub enough_after : (shape : Shape) (newer older : List Fragment) → AllByRecursion (IsUncoded shape) older → shape.nb_frag ≤ direct shape older + shape.rows → AreNumbered newer
    → excess shape (newer ++ older) ≤ shape.rows
unfolding excess
enough_after shape newer older k room h =
    let most = gain-most shape (newer ++ older) (numbered_both shape newer older h k) in
    let more = direct-more shape newer older in
    omega (arith, most, more)
