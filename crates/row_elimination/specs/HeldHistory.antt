-- When a solver that receives stands for a list of heard fragments, newest first. Layers above need not open it: the law of the
-- solver says, for every list that it stands for, what each answer of `feed` means.
use Rattle.std.specs.Prelude.{◌≡◌, ◌↔◌, ℕ, suc, ◌+◌, ◌<◌, ◌≤◌, List, [], ◌∷◌, ◌++◌, map}
use Rattle.std.specs.List.{concat, AllByRecursion}
use Rattle.frag_model.specs.Fragments.{Fragment, IsUncoded, line_of}
use Rattle.frag_model.specs.Gain.{is_sum, numbers_of, gain, direct, excess}
use Rattle.frag_model.specs.Verdict.{receiving, complete, no_rows, conflict, verdict, missing, FittingBlock}
use Rattle.frag_model.specs.Laws.{AreNumbered}
use Rattle.frag_model.specs.Members.{In}
use Rattle.row_elimination.specs.HeldPlaces.{pieces_held, rows_held, gained_held, lines_held, FitsHeld}
use Rattle.row_elimination.specs.HeldSolver.{Held, IsMarked, missing_of, Receives, Completes, Contradicts, Overflows, IsBegun}

pub record StandsFor (held : Held) (heard : List Fragment) : Type 0 where
  pub numbered : AreNumbered heard
  -- the blocks that fit what is held are those that fit what was heard
  pub fits : (block : List (List ℕ)) → FittingBlock held.shape heard block ↔ FitsHeld held.shape held.places block
  -- the lines have the same sums
  pub sums : (x : ℕ) → is_sum x (map (λ n. line_of held.shape.nb_frag n) (numbers_of heard)) ≡ is_sum x (lines_held held.places)
  -- the rows held number the excess
  pub rows : rows_held held.places ≡ excess held.shape heard
  -- the marked numbers are those that were heard
  pub marked : (c : ℕ) → c < held.shape.nb_frag → IsMarked held c ↔ In (suc c) (numbers_of heard)
  pub direct : pieces_held held.places ≡ direct held.shape heard
  pub gained : gained_held held.places ≡ gain held.shape heard
  -- nothing is decided
  pub undecided : verdict held.shape heard ≡ receiving

-- what each answer means for every list that the solver stands for
pub record FeedStands : Type 0 where
  -- a solver that has just begun stands for the empty list
  pub begun : (held : Held) → IsBegun held → StandsFor held []
  -- what is missing is what the list lacks
  pub lacks : (held : Held) (heard : List Fragment) → StandsFor held heard → missing held.shape heard ≡ missing_of held
  -- the rows held are the excess, and no more than there are
  pub receives : (old new : Held) (f : Fragment) (older : List Fragment) → 1 ≤ f.number → StandsFor old older → Receives old new f.number f.part → StandsFor new (f ∷ older)
  -- the verdict names the block whose bytes are in the area
  pub completes : (old new : Held) (f : Fragment) (older : List Fragment) → 1 ≤ f.number → StandsFor old older → Completes old new f.number f.part
      → (block : List (List ℕ)) × (verdict old.shape (f ∷ older) ≡ complete f.mark block) × (new.content ≡ concat block) × (missing old.shape (f ∷ older) ≡ 0) × (missing_of new ≡ 0)
  pub contradicts : (old new : Held) (f : Fragment) (older : List Fragment) → 1 ≤ f.number → StandsFor old older → Contradicts old new f.number f.part
      → (verdict old.shape (f ∷ older) ≡ conflict f.mark) × (missing old.shape (f ∷ older) ≡ missing_of new)
  -- exactly at one independent coded fragment more than there are rows
  pub overflows : (old new : Held) (f : Fragment) (older : List Fragment) → 1 ≤ f.number → StandsFor old older → Overflows old new f.number f.part
      → (verdict old.shape (f ∷ older) ≡ no_rows f.mark) × (missing old.shape (f ∷ older) ≡ missing_of new) × (excess old.shape (f ∷ older) ≡ old.shape.rows + 1)
  -- which never comes where at most as many pieces as there are rows had not come uncoded before the first coded fragment
  pub enough : (old new : Held) (f : Fragment) (newer older : List Fragment) → AllByRecursion (IsUncoded old.shape) older → old.shape.nb_frag ≤ direct old.shape older + old.shape.rows
      → AreNumbered (f ∷ newer) → StandsFor old (newer ++ older) → Overflows old new f.number f.part → ⊥
