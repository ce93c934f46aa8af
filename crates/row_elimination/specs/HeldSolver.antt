-- A solver as contracts see it, and what a fragment makes of it.
use Rattle.std.specs.Prelude.{◌≡◌, ◌≢◌, ◌↔◌, ◌⊎◌, ℕ, suc, ◌+◌, ◌-◌, ◌<◌, ◌≤◌, Bool, true, false, ◌&&◌, not, nat_le, List, ◌∷◌, length, get_or, replicate, if◌then◌else◌, Result, OnOk, OnErr}
use Rattle.std.specs.List.{concat}
use Rattle.frag_model.specs.Fragments.{Shape, Equation, Meets, line_of}
use Rattle.frag_model.specs.Gain.{is_sum}
use Rattle.frag_model.specs.Limits.{max_parity_index}
use Rattle.row_elimination.specs.declared.stages.Stage.{Stage}
use Rattle.row_elimination.specs.declared.stages.Stage.TheVariants as stage
use Rattle.row_elimination.specs.declared.stages.Fed.{Fed}
use Rattle.row_elimination.specs.declared.stages.Fed.TheVariants as fed
use Rattle.row_elimination.specs.Room.{Extent}
use Rattle.row_elimination.specs.HeldPlaces.{Place, free, is_piece, pieces_held, rows_held, gained_held, lines_held, FitsHeld}

-- what a solver holds: the shape of its file, what is held of each column, and the bytes in its area
pub record Held : Type 0 where
  pub shape : Shape
  pub places : List Place
  pub stage : Stage
  -- the first bytes of the area, as many as the file's pieces have
  pub content : List ℕ
  -- what there is memory for
  pub extent : Extent

-- the piece at the column came uncoded
abbrev pub IsMarked : Held → ℕ → Type 0
IsMarked h c = is_piece (get_or h.places c free) ≡ true

-- how many pieces are still to be gained
unfoldable pub missing_of : Held → ℕ
missing_of h = h.shape.nb_frag - gained_held h.places

-- the line of a fragment
abbrev pub line_for : Held → ℕ → ℕ
line_for h n = line_of h.shape.nb_frag n

-- what a fragment says
unfoldable pub equation_for : Held → ℕ → List ℕ → Equation
equation_for h n part = record { line = line_of h.shape.nb_frag n; part = part }

-- the block is left over: it fitted what was held, and it meets the fragment
pub record IsLeft (old : Held) (n : ℕ) (part : List ℕ) (block : List (List ℕ)) : Type 0 where
  pub fits : FitsHeld old.shape old.places block
  pub meets : Meets old.shape.frag_size block (equation_for old n part)

-- the number of a piece that had not come uncoded
unfoldable pub is_new_piece : Held → ℕ → Bool
is_new_piece h n = nat_le n h.shape.nb_frag && not (is_piece (get_or h.places (n - 1) free))

-- ---- what holds afterwards

-- the fragment was taken in
pub record Takes (old new : Held) (n : ℕ) (part : List ℕ) : Type 0 where
  pub shape : new.shape ≡ old.shape
  pub extent : new.extent ≡ old.extent
  -- the blocks that fit are those that are left over
  pub fits : (block : List (List ℕ)) → FitsHeld new.shape new.places block ↔ IsLeft old n part block
  -- the sums of the lines are those of the lines before and the fragment's
  pub sums : (x : ℕ) → is_sum x (lines_held new.places) ≡ is_sum x (line_for old n ∷ lines_held old.places)
  -- the marked numbers gain n, where it is the number of a piece, and no other
  pub marked : (c : ℕ) → c < old.shape.nb_frag → IsMarked new c ↔ (IsMarked old c ⊎ (n ≡ suc c))
  pub pieces : pieces_held new.places ≡ pieces_held old.places + (if is_new_piece old n then 1 else 0)
  -- one is gained exactly where the line was no sum
  pub gained : gained_held new.places ≡ gained_held old.places + (if is_sum (line_for old n) (lines_held old.places) then 0 else 1)
  -- the rows held are no more than were reserved
  pub room : rows_held new.places ≤ new.shape.rows

-- two different blocks fit what is held
abbrev pub TwoFit : Held → Type 0
TwoFit h = (first : List (List ℕ)) × (second : List (List ℕ)) × FitsHeld h.shape h.places first × FitsHeld h.shape h.places second × (first ≢ second)

-- the solver goes on receiving: two different blocks fit
pub record Receives (old new : Held) (n : ℕ) (part : List ℕ) : Type 0 where
  pub takes : Takes old new n part
  pub stage : new.stage ≡ stage.Receiving
  pub two : TwoFit new

-- it is complete: one block is left over, and its bytes are in the area
pub record Completes (old new : Held) (n : ℕ) (part : List ℕ) : Type 0 where
  pub takes : Takes old new n part
  pub stage : new.stage ≡ stage.Complete
  pub full : gained_held new.places ≡ new.shape.nb_frag
  pub one : (block : List (List ℕ)) × IsLeft old n part block × ((other : List (List ℕ)) → IsLeft old n part other → other ≡ block) × (new.content ≡ concat block)

-- no block is left over, and what was held stays
pub record Contradicts (old new : Held) (n : ℕ) (part : List ℕ) : Type 0 where
  pub kept : new ≡ record old { stage = stage.Ended }
  pub none : (block : List (List ℕ)) → IsLeft old n part block → ⊥

-- a block is left over, but the fragment is coded, its line is no sum, and all rows are held; what was held stays
pub record Overflows (old new : Held) (n : ℕ) (part : List ℕ) : Type 0 where
  pub kept : new ≡ record old { stage = stage.Ended }
  pub coded : old.shape.nb_frag < n
  pub no_sum : is_sum (line_for old n) (lines_held old.places) ≡ false
  pub rows : rows_held old.places ≡ old.shape.rows
  pub left : (block : List (List ℕ)) × IsLeft old n part block

-- a fragment of this number and part may be fed
pub record MayFeed (h : Held) (n : ℕ) (part : List ℕ) : Type 0 where
  pub receiving : h.stage ≡ stage.Receiving
  pub first : 1 ≤ n
  pub last : n ≤ h.shape.nb_frag + max_parity_index
  pub sized : length part ≡ h.shape.frag_size

-- what each answer to it means
pub record Feeds (old new : Held) (n : ℕ) (part : List ℕ) (answer : Fed) : Type 0 where
  pub receiving : answer ≡ fed.Receiving → Receives old new n part
  pub complete : answer ≡ fed.Complete → Completes old new n part
  pub no_rows : answer ≡ fed.NoRows → Overflows old new n part
  pub conflict : answer ≡ fed.Conflict → Contradicts old new n part
  pub extent : new.extent ≡ old.extent

-- a solver that has just begun: it holds nothing
pub record IsBegun (h : Held) : Type 0 where
  pub some : 1 ≤ h.shape.nb_frag
  pub sized : 1 ≤ h.shape.frag_size
  pub stage : h.stage ≡ stage.Receiving
  pub places : h.places ≡ replicate h.shape.nb_frag free

-- what a solver becomes when it is asked to begin a file of this shape
pub record Begins {E : Type 0} (old new : Held) (file : Shape) (result : Result (Unit {0}) E) : Type 0 where
  -- at Ok nothing is held of the file, and two different blocks fit
  pub begun : OnOk result (IsBegun new)
  pub shape : OnOk result (new.shape ≡ file)
  pub two : OnOk result (TwoFit new)
  -- where there is no room it stays as it was
  pub refused : OnErr result (new ≡ old)
  pub extent : new.extent ≡ old.extent
