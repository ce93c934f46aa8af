-- What taking a fragment in asks, and what each answer means.
use Rattle.std.specs.Prelude.{◌≡◌, ℕ, ◌*◌, ◌<◌, ◌≤◌, List, get_or, take}
use Rattle.frag_model.specs.Fragments.{Equation, IsPiece, line_of}
use Rattle.row_elimination.specs.declared.stages.Stage.{Stage}
use Rattle.row_elimination.specs.declared.stages.Stage.TheVariants as stage
use Rattle.row_elimination.specs.declared.stages.Fed.{Fed}
use Rattle.row_elimination.specs.declared.stages.Fed.TheVariants as fed
use Rattle.row_elimination.specs.HeldPlaces.{rows_held, gained_held}
use Rattle.row_elimination.specs.Inside.{IsReduced}
use Rattle.row_arena.specs.Stretch.{stretch}
use Rattle.row_elimination.specs.HeldSteps.{Reduced, Tells}
use Rattle.row_elimination.specs.HeldTable.{Grid, SameRoom}
use Rattle.row_elimination.specs.HeldSolver.{Held, Receives, Completes, Contradicts, Overflows}

-- a table at a stage
abbrev pub held_of : Stage → Grid → Held
held_of at g = record {
  shape = g.shape;
  places = g.places;
  stage = at;
  content = take (g.shape.nb_frag * g.shape.frag_size) g.area;
  extent = g.room;
}

-- a table that receives, and a fragment of it that was reduced
pub record IsReady (g : Grid) (n : ℕ) (part : List ℕ) (l : ℕ) (q : List ℕ) : Type 0 where
  pub held : IsReduced g.shape.nb_frag g.shape.frag_size g.places
  pub room : rows_held g.places ≤ g.shape.rows
  pub more : gained_held g.places < g.shape.nb_frag
  pub some : 1 ≤ g.shape.frag_size
  pub first : 1 ≤ n
  pub piece : IsPiece g.shape.frag_size part
  pub left : Reduced g.shape.nb_frag g.shape.frag_size g.places (line_of g.shape.nb_frag n) part l q

-- the bytes are all zero
abbrev pub IsZero : List ℕ → Type 0
IsZero q = (i : ℕ) → get_or q i 0 ≡ 0

-- where the solver stands after an answer
unfoldable pub stage_after : Fed → Stage
stage_after fed.Receiving = stage.Receiving
stage_after fed.Complete = stage.Complete
stage_after fed.NoRows = stage.Ended
stage_after fed.Conflict = stage.Ended

-- what an answer means
unfoldable pub FedAs : Fed → Held → Held → ℕ → List ℕ → Type 0
FedAs fed.Receiving old new n part = Receives old new n part
FedAs fed.Complete old new n part = Completes old new n part
FedAs fed.NoRows old new n part = Overflows old new n part
FedAs fed.Conflict old new n part = Contradicts old new n part

-- a table that receives was given a fragment, and answered so
pub record IsFed (answer : Fed) (old new : Grid) (n : ℕ) (part : List ℕ) : Type 0 where
  -- which is what the answer means
  pub fed : FedAs answer (held_of stage.Receiving old) (held_of (stage_after answer) new) n part
  pub room : SameRoom old new
  pub held : IsReduced new.shape.nb_frag new.shape.frag_size new.places

-- what deciding makes of a table: nothing while something is free; else all parts are in the area
unfoldable pub DecidedAs : Fed → Grid → Grid → Type 0
DecidedAs fed.Receiving old new = (new ≡ old) × (gained_held old.places < old.shape.nb_frag)
DecidedAs fed.Complete old new =
    (new.places ≡ old.places) × SameRoom old new × (gained_held old.places ≡ old.shape.nb_frag)
    × ((c : ℕ) (e : Equation) → Tells old.places c e → stretch c old.shape.frag_size new.area ≡ e.part)
DecidedAs fed.NoRows old new = ⊥
DecidedAs fed.Conflict old new = ⊥
