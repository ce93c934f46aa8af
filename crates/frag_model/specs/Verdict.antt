-- The verdict over a list of heard fragments, newest first. (TS004-1.0.0 leaves recovery to the device; when it ends, and how, is
-- this project's profile.)
use Rattle.std.specs.Prelude.{◌≡◌, ◌≢◌, ◌⊎◌, ℕ, zero, suc, ◌-◌, ◌<◌, ◌≤◌, Bool, nat_lt, List, [], ◌∷◌, map, filter, flat_map, bytes_eq, if◌then◌else◌}
use Rattle.std.specs.List.{list_all, range_with_len}
use lib.Pointwise.{pointwise}
use Rattle.frag_model.specs.Fragments.{Fragment, Shape, IsBlock, Fits, fits}
use Rattle.frag_model.specs.Gain.{gain, excess}

-- what is known of the file
pub data Verdict : Type 0 where
  -- none of the others yet
  receiving : Verdict
  -- from the fragment with this mark on, only this block fits
  complete : ℕ → List (List ℕ) → Verdict
  -- the fragment with this mark made one independent coded fragment more than there are rows
  no_rows : ℕ → Verdict
  -- from the fragment with this mark on, no block fits
  conflict : ℕ → Verdict

-- all lists of so many members of xs
unfoldable pub all_lists : {A : Type 0} → List A → ℕ → List (List A)
all_lists xs zero = [] ∷ []
all_lists xs (suc n) = flat_map (λ rest. map (λ x. x ∷ rest) xs) (all_lists xs n)

-- all blocks of the shape: all lists of its pieces, and a piece is any list of its bytes. Nothing computes it
unfoldable pub all_blocks : Shape → List (List (List ℕ))
all_blocks shape = all_lists (all_lists (range_with_len 0 256) shape.frag_size) shape.nb_frag

-- those that fit what was heard
unfoldable pub fitting_blocks : Shape → List Fragment → List (List (List ℕ))
fitting_blocks shape heard = filter (fits shape heard) (all_blocks shape)

-- the verdict that the fitting blocks and too many independent coded fragments give, tried in this order
unfoldable pub verdict_from : ℕ → Bool → List (List (List ℕ)) → Verdict
verdict_from mark overflows [] = conflict mark
verdict_from mark overflows (block ∷ others) =
    if overflows then no_rows mark else if list_all (pointwise bytes_eq block) others then complete mark block else receiving

-- the verdict on this list taken for itself, at a mark
unfoldable pub verdict_now : Shape → List Fragment → ℕ → Verdict
verdict_now shape heard mark = verdict_from mark (nat_lt shape.rows (excess shape heard)) (fitting_blocks shape heard)

-- a verdict that was reached stays, else the next one counts
unfoldable pub first_verdict : Verdict → Verdict → Verdict
first_verdict receiving next = next
first_verdict (complete mark block) next = complete mark block
first_verdict (no_rows mark) next = no_rows mark
first_verdict (conflict mark) next = conflict mark

-- the verdict: that of the first fragment at which there is one, and it stays
unfoldable pub verdict : Shape → List Fragment → Verdict
verdict shape [] = receiving
verdict shape (f ∷ older) = first_verdict (verdict shape older) (verdict_now shape (f ∷ older) f.mark)

-- how many pieces are still to be gained
unfoldable pub lacking : Shape → List Fragment → ℕ
lacking shape heard = shape.nb_frag - gain shape heard

-- what is missing where this verdict comes now: nothing at a whole file; at one against it, what was missing before
unfoldable pub missing_now : Verdict → ℕ → ℕ → ℕ
missing_now receiving now before = now
missing_now (complete mark block) now before = 0
missing_now (no_rows mark) now before = before
missing_now (conflict mark) now before = before

-- what is missing after one more fragment: nothing changes once there is a verdict
unfoldable pub missing_next : Verdict → ℕ → ℕ → ℕ
missing_next receiving kept next = next
missing_next (complete mark block) kept next = kept
missing_next (no_rows mark) kept next = kept
missing_next (conflict mark) kept next = kept

-- the missing pieces
unfoldable pub missing : Shape → List Fragment → ℕ
missing shape [] = shape.nb_frag
missing shape (f ∷ older) =
    missing_next (verdict shape older) (missing shape older)
    (missing_now (verdict shape (f ∷ older)) (lacking shape (f ∷ older)) (lacking shape older))

-- ---- the same in the field's words: which blocks fit

-- a block of the shape that fits what was heard
pub record FittingBlock (shape : Shape) (heard : List Fragment) (block : List (List ℕ)) : Type 0 where
  pub shaped : IsBlock shape block
  pub fitting : Fits shape heard block

-- no block fits
abbrev pub NoBlockFits : Shape → List Fragment → Type 0
NoBlockFits shape heard = (block : List (List ℕ)) → FittingBlock shape heard block → ⊥

-- this block fits, and each that fits is it
pub record OneBlockFits (shape : Shape) (heard : List Fragment) (block : List (List ℕ)) : Type 0 where
  pub fits : FittingBlock shape heard block
  pub alone : (other : List (List ℕ)) → FittingBlock shape heard other → other ≡ block

-- two different blocks fit
pub record TwoBlocksFit (shape : Shape) (heard : List Fragment) (first second : List (List ℕ)) : Type 0 where
  pub one : FittingBlock shape heard first
  pub other : FittingBlock shape heard second
  pub differ : first ≢ second

-- this verdict is right on this list taken for itself, at this mark
unfoldable pub IsVerdictNow : Shape → List Fragment → ℕ → Verdict → Type 0
IsVerdictNow shape heard mark (conflict at) = (at ≡ mark) × NoBlockFits shape heard
IsVerdictNow shape heard mark (no_rows at) =
    (at ≡ mark) × (shape.rows < excess shape heard) × ((block : List (List ℕ)) × FittingBlock shape heard block)
IsVerdictNow shape heard mark (complete at block) =
    (at ≡ mark) × (excess shape heard ≤ shape.rows) × OneBlockFits shape heard block
IsVerdictNow shape heard mark receiving =
    (excess shape heard ≤ shape.rows) × ((first : List (List ℕ)) × (second : List (List ℕ)) × TwoBlocksFit shape heard first second)

-- the verdict is right: before any fragment there is none, one that was right stays, and else it is right now
unfoldable pub IsVerdict : Shape → List Fragment → Verdict → Type 0
IsVerdict shape [] v = v ≡ receiving
IsVerdict shape (f ∷ older) v =
    (IsVerdict shape older v × (v ≢ receiving)) ⊎ (IsVerdict shape older receiving × IsVerdictNow shape (f ∷ older) f.mark v)
