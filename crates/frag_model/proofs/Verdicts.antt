-- There is exactly one verdict, and the function gives it.
use Rattle.std.proofs.Common.{◌≡◌, ℕ, ◌<◌, ◌≤◌, ◌^◌, Bool, true, false, cond, List, [], ◌∷◌, nat_lt, bytes_eq, refl, sym, ap, ap₂, ◌∙◌, inl, inr, arith, ltb-true, ltb-false, Decides}
use Rattle.std.proofs.lemmas.Bool.{false≢true}
use Rattle.std.proofs.lemmas.List.Elements.{All-from_recursion, recursion_from_All, All-weaker}
use Rattle.std.proofs.lemmas.List.Sums.{AllPass-from_list_all, list_all-from_AllPass}
use Rattle.std.proofs.lemmas.Slice.Eq.{bytes_eq-Decides, slice_eq-Decides}
use Rattle.std.specs.List.{list_all, range_with_len, AllByRecursion}
use lib.Pointwise.{pointwise}
use Rattle.frag_model.specs.Fragments.{Fragment, Shape, IsPiece, IsBlock, Meets, Fits, fits, equation_of, xor_all, pieces_at}
use Rattle.frag_model.specs.Gain.{excess}
use Rattle.frag_model.specs.Verdict.{Verdict, receiving, complete, no_rows, conflict, all_lists, all_blocks, fitting_blocks, verdict_from, verdict_now, first_verdict, verdict, FittingBlock, IsVerdictNow, IsVerdict}
use Rattle.frag_model.proofs.Members.{In, In-filter, In-filter_from, list_all-In, list_all-fails, In-all_lists, In-all_lists_from, In-range, In-range_from}

-- the test of fitting means fitting
pub Fits-from_fits : (shape : Shape) (heard : List Fragment) (block : List (List ℕ)) → fits shape heard block ≡ true → Fits shape heard block
unfolding fits Meets equation_of
Fits-from_fits shape heard block h =
    let p : Fragment → Bool = λ f. bytes_eq (xor_all shape.frag_size (pieces_at (equation_of shape f).line block)) f.part in
    All-weaker (λ f. p f ≡ true) (λ f. Meets shape.frag_size block (equation_of shape f))
    (λ f e. (bytes_eq-Decides (xor_all shape.frag_size (pieces_at (equation_of shape f).line block)) f.part).0 e)
    heard (AllPass-from_list_all p heard h)

pub fits-from_Fits : (shape : Shape) (heard : List Fragment) (block : List (List ℕ)) → Fits shape heard block → fits shape heard block ≡ true
unfolding fits Meets equation_of
fits-from_Fits shape heard block h =
    let p : Fragment → Bool = λ f. bytes_eq (xor_all shape.frag_size (pieces_at (equation_of shape f).line block)) f.part in
    list_all-from_AllPass p heard
    (All-weaker (λ f. Meets shape.frag_size block (equation_of shape f)) (λ f. p f ≡ true)
    (λ f e. (bytes_eq-Decides (xor_all shape.frag_size (pieces_at (equation_of shape f).line block)) f.part).1 e)
    heard h)

each_weaker : {A : Type 0} (P Q : A → Type 0) → ((x : A) → P x → Q x) → (xs : List A) → AllByRecursion P xs → AllByRecursion Q xs
each_weaker P Q f [] h = h
each_weaker P Q f (x ∷ xs) h = (f x h.0, each_weaker P Q f xs h.1)

-- the list of all bytes, and of all pieces
abbrev bytes : List ℕ
bytes = range_with_len 0 256

In-pieces : (size : ℕ) (piece : List ℕ) → IsPiece size piece → In piece (all_lists bytes size)
In-pieces size piece h =
    In-all_lists bytes piece size h.sized
    (each_weaker (λ b. b < 2 ^ 8) (λ b. In b bytes) (λ b lt. In-range b 0 256 (omega arith) (omega arith)) piece
    (recursion_from_All (λ b. b < 2 ^ 8) piece h.bytes))

In-pieces_from : (size : ℕ) (piece : List ℕ) → In piece (all_lists bytes size) → IsPiece size piece
In-pieces_from size piece m =
    let r = In-all_lists_from bytes piece size m in
    record {
      sized = r.0;
      bytes = All-from_recursion (λ b. b < 2 ^ 8) piece
          (each_weaker (λ b. In b bytes) (λ b. b < 2 ^ 8) (λ b h. (In-range_from b 0 256 h).1) piece r.1);
    }

pub In-all_blocks : (shape : Shape) (block : List (List ℕ)) → IsBlock shape block → In block (all_blocks shape)
unfolding all_blocks
In-all_blocks shape block h =
    In-all_lists (all_lists bytes shape.frag_size) block shape.nb_frag h.counted
    (each_weaker (IsPiece shape.frag_size) (λ p. In p (all_lists bytes shape.frag_size)) (In-pieces shape.frag_size) block
    (recursion_from_All (IsPiece shape.frag_size) block h.pieces))

pub In-all_blocks_from : (shape : Shape) (block : List (List ℕ)) → In block (all_blocks shape) → IsBlock shape block
unfolding all_blocks
In-all_blocks_from shape block m =
    let r = In-all_lists_from (all_lists bytes shape.frag_size) block shape.nb_frag m in
    record {
      counted = r.0;
      pieces = All-from_recursion (IsPiece shape.frag_size) block
          (each_weaker (λ p. In p (all_lists bytes shape.frag_size)) (IsPiece shape.frag_size) (In-pieces_from shape.frag_size) block r.1);
    }

-- the fitting blocks are the blocks that fit
pub In-fitting_blocks : (shape : Shape) (heard : List Fragment) (block : List (List ℕ)) → FittingBlock shape heard block → In block (fitting_blocks shape heard)
unfolding fitting_blocks
In-fitting_blocks shape heard block h =
    In-filter (fits shape heard) block (all_blocks shape) (In-all_blocks shape block h.shaped) (fits-from_Fits shape heard block h.fitting)

pub In-fitting_blocks_from : (shape : Shape) (heard : List Fragment) (block : List (List ℕ)) → In block (fitting_blocks shape heard) → FittingBlock shape heard block
unfolding fitting_blocks
In-fitting_blocks_from shape heard block m =
    let r = In-filter_from (fits shape heard) block (all_blocks shape) m in
    record { shaped = In-all_blocks_from shape block r.0; fitting = Fits-from_fits shape heard block r.1 }

-- equal blocks
same_blocks : (a b : List (List ℕ)) → Decides (pointwise bytes_eq a b) (a ≡ b)
same_blocks a b = slice_eq-Decides bytes_eq-Decides a b (pointwise bytes_eq a b) refl

-- the verdict by cases on the fitting blocks is right
from_right_alone : (shape : Shape) (heard : List Fragment) (mark : ℕ) (b : List (List ℕ)) (others : List (List (List ℕ)))
    → excess shape heard ≤ shape.rows
    → ((c : List (List ℕ)) → FittingBlock shape heard c → In c (b ∷ others))
    → ((c : List (List ℕ)) → In c (b ∷ others) → FittingBlock shape heard c)
    → (same : Bool) → list_all (pointwise bytes_eq b) others ≡ same
    → IsVerdictNow shape heard mark (cond same (complete mark b) receiving)
unfolding IsVerdictNow
from_right_alone shape heard mark b others room to from true is = (
  refl,
  room,
  record {
    fits = from b (inl refl);
    alone = λ other f. elim (to other f) [
      | inl e ↦ e
      | inr m ↦ sym ((same_blocks b other).0 (list_all-In (pointwise bytes_eq b) other others is m))
    ];
  },
)
from_right_alone shape heard mark b others room to from false is =
    let r = list_all-fails (pointwise bytes_eq b) others is in (
      room,
      (
        b,
        r.0,
        record {
          one = from b (inl refl);
          other = from r.0 (inr r.1);
          differ = λ e. false≢true (sym r.2 ∙ (same_blocks b r.0).1 e);
        },
      ),
    )

from_right : (shape : Shape) (heard : List Fragment) (mark : ℕ) (over : Bool) → nat_lt shape.rows (excess shape heard) ≡ over
    → (blocks : List (List (List ℕ)))
    → ((c : List (List ℕ)) → FittingBlock shape heard c → In c blocks)
    → ((c : List (List ℕ)) → In c blocks → FittingBlock shape heard c)
    → IsVerdictNow shape heard mark (verdict_from mark over blocks)
unfolding IsVerdictNow verdict_from
from_right shape heard mark over is [] to from = (refl, λ c f. to c f)
from_right shape heard mark true is (b ∷ others) to from = (refl, ltb-true _ _ is, (b, from b (inl refl)))
from_right shape heard mark false is (b ∷ others) to from =
    from_right_alone shape heard mark b others (ltb-false _ _ is) to from (list_all (pointwise bytes_eq b) others) refl

pub verdict_now-right : (shape : Shape) (heard : List Fragment) (mark : ℕ) → IsVerdictNow shape heard mark (verdict_now shape heard mark)
unfolding verdict_now
verdict_now-right shape heard mark =
    from_right shape heard mark (nat_lt shape.rows (excess shape heard)) refl (fitting_blocks shape heard)
    (In-fitting_blocks shape heard) (In-fitting_blocks_from shape heard)

-- two verdicts that are right now are one
pub IsVerdictNow-same : (shape : Shape) (heard : List Fragment) (mark : ℕ) (v w : Verdict) → IsVerdictNow shape heard mark v → IsVerdictNow shape heard mark w → v ≡ w
unfolding IsVerdictNow
IsVerdictNow-same shape heard mark (conflict at) (conflict at') h k = ap conflict (h.0 ∙ sym k.0)
IsVerdictNow-same shape heard mark (conflict at) (no_rows at') h k = absurd (h.1 k.2.0 k.2.1)
IsVerdictNow-same shape heard mark (conflict at) (complete at' c) h k = absurd (h.1 c k.2.fits)
IsVerdictNow-same shape heard mark (conflict at) receiving h k = absurd (h.1 k.1.0 k.1.2.one)
IsVerdictNow-same shape heard mark (no_rows at) (conflict at') h k = absurd (k.1 h.2.0 h.2.1)
IsVerdictNow-same shape heard mark (no_rows at) (no_rows at') h k = ap no_rows (h.0 ∙ sym k.0)
IsVerdictNow-same shape heard mark (no_rows at) (complete at' c) h k = absurd (omega arith)
IsVerdictNow-same shape heard mark (no_rows at) receiving h k = absurd (omega arith)
IsVerdictNow-same shape heard mark (complete at b) (conflict at') h k = absurd (k.1 b h.2.fits)
IsVerdictNow-same shape heard mark (complete at b) (no_rows at') h k = absurd (omega arith)
IsVerdictNow-same shape heard mark (complete at b) (complete at' c) h k = ap₂ complete (h.0 ∙ sym k.0) (k.2.alone b h.2.fits)
IsVerdictNow-same shape heard mark (complete at b) receiving h k =
    absurd (k.1.2.differ (h.2.alone k.1.0 k.1.2.one ∙ sym (h.2.alone k.1.1 k.1.2.other)))
IsVerdictNow-same shape heard mark receiving (conflict at') h k = absurd (k.1 h.1.0 h.1.2.one)
IsVerdictNow-same shape heard mark receiving (no_rows at') h k = absurd (omega arith)
IsVerdictNow-same shape heard mark receiving (complete at' c) h k =
    absurd (h.1.2.differ (k.2.alone h.1.0 h.1.2.one ∙ sym (k.2.alone h.1.1 h.1.2.other)))
IsVerdictNow-same shape heard mark receiving receiving h k = refl

first_right : (shape : Shape) (f : Fragment) (older : List Fragment) (v next : Verdict) → IsVerdict shape older v → IsVerdictNow shape (f ∷ older) f.mark next → IsVerdict shape (f ∷ older) (first_verdict v next)
unfolding IsVerdict first_verdict
first_right shape f older receiving next h now = inr (h, now)
first_right shape f older (complete at b) next h now = inl (h, λ e. cc)
first_right shape f older (no_rows at) next h now = inl (h, λ e. cc)
first_right shape f older (conflict at) next h now = inl (h, λ e. cc)

pub verdict-right : (shape : Shape) (heard : List Fragment) → IsVerdict shape heard (verdict shape heard)
unfolding IsVerdict verdict
verdict-right shape [] = refl
verdict-right shape (f ∷ older) =
    first_right shape f older (verdict shape older) (verdict_now shape (f ∷ older) f.mark)
    (verdict-right shape older) (verdict_now-right shape (f ∷ older) f.mark)

pub IsVerdict-same : (shape : Shape) (heard : List Fragment) (v w : Verdict) → IsVerdict shape heard v → IsVerdict shape heard w → v ≡ w
unfolding IsVerdict
IsVerdict-same shape [] v w h k = h ∙ sym k
IsVerdict-same shape (f ∷ older) v w (inl h) (inl k) = IsVerdict-same shape older v w h.0 k.0
IsVerdict-same shape (f ∷ older) v w (inl h) (inr k) = absurd (h.1 (IsVerdict-same shape older v receiving h.0 k.0))
IsVerdict-same shape (f ∷ older) v w (inr h) (inl k) = absurd (k.1 (IsVerdict-same shape older w receiving k.0 h.0))
IsVerdict-same shape (f ∷ older) v w (inr h) (inr k) = IsVerdictNow-same shape (f ∷ older) f.mark v w h.1 k.1
