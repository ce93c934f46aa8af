-- What the fixed memory of a session in flash knows of all that the session heard, though a part of it is only counted.
use Rattle.std.specs.Prelude.{◌≡◌, ◌↔◌, ℕ, suc, ◌<◌, List}
use Rattle.frag_model.specs.Gain.{is_sum, gain, direct, excess, numbers_of}
use Rattle.frag_model.specs.Members.{In}
use Rattle.frag_model.specs.News.{lines_heard}
use Rattle.frag_model.specs.Verdict.{receiving, verdict, FittingBlock}
use Rattle.frag_session.specs.Held as kept
use Rattle.frag_session.specs.Held.{Held}
use Rattle.frag_session.specs.Session.{Session, shape_of}
use Rattle.row_elimination.specs.HeldSolver.{IsMarked}
use Rattle.row_elimination.specs.HeldPlaces.{rows_held, pieces_held, gained_held, lines_held, FitsHeld}
use Rattle.flash_session.specs.HeldSession.{HeldSession}
use Rattle.flash_session.specs.Sessions.{HeldStands}

-- nothing is decided, and what the solver holds says what the whole list says: the same blocks fit, the lines have the same sums,
-- the rows held are its excess, and the marked numbers are those of its pieces that came uncoded
pub record KnowsAll (k : Held) (s : Session) : Type 0 where
  pub undecided : verdict (shape_of s) s.heard ≡ receiving
  pub fits : (block : List (List ℕ)) → FittingBlock (shape_of s) s.heard block ↔ FitsHeld k.solver.shape k.solver.places block
  pub sums : (x : ℕ) → is_sum x (lines_heard (shape_of s) s.heard) ≡ is_sum x (lines_held k.solver.places)
  pub rows : rows_held k.solver.places ≡ excess (shape_of s) s.heard
  pub direct_is : pieces_held k.solver.places ≡ direct (shape_of s) s.heard
  pub gain_is : gained_held k.solver.places ≡ gain (shape_of s) s.heard
  pub marked : (c : ℕ) → c < s.setup.nb_frag → IsMarked k.solver c ↔ In (suc c) (numbers_of s.heard)

-- whenever a session is held, after an opening too, and it receives
abbrev pub FixedMemory : Type 0
FixedMemory = (h : HeldSession) (s : Session) (k : Held) → h.slot ≡ kept.receiving k → HeldStands h s → KnowsAll k s
