-- When what a slot keeps stands for a history. Nothing above opens this: each call's contract is over every history that the slot
-- stands for.
use Rattle.std.specs.Prelude.{◌≡◌, ℕ, ◌*◌, ◌<◌, ◌≤◌, List, length, Option, Some, None}
use Rattle.std.specs.List.{concat}
use Rattle.frag_model.specs.Verdict.{complete, no_rows, conflict, verdict, missing}
use Rattle.row_elimination.specs.HeldSolver.{TwoFit}
use Rattle.row_elimination.specs.HeldHistory.{StandsFor}
use Rattle.frag_session.specs.declared.setups.SetupReq.{SetupReq}
use Rattle.frag_session.specs.Held as kept
use Rattle.frag_session.specs.Held.{HeldSlot, Held, Done, Failed}
use Rattle.frag_session.specs.Session.{Session, shape_of, received_count}

-- the setup makes a file
pub record IsSetUp (setup : SetupReq) : Type 0 where
  pub some : 1 ≤ setup.nb_frag
  pub sized : 1 ≤ setup.frag_size
  pub short : setup.padding < setup.frag_size

-- a session that hears: its solver stands for what was heard
pub record Holds (h : Held) (s : Session) : Type 0 where
  pub setup : s.setup ≡ h.setup
  pub fine : IsSetUp s.setup
  pub shape : h.solver.shape ≡ shape_of s
  pub received : h.received ≡ received_count (length s.heard)
  pub stands : StandsFor h.solver s.heard

-- a session with a whole file: the verdict names its block
pub record IsWhole (d : Done) (s : Session) (block : List (List ℕ)) : Type 0 where
  pub setup : s.setup ≡ d.setup
  pub fine : IsSetUp s.setup
  pub received : d.received ≡ received_count (length s.heard)
  pub decided : verdict (shape_of s) s.heard ≡ complete d.mark block
  pub content : concat block ≡ d.solver.content
  pub sized : length d.solver.content ≡ s.setup.nb_frag * s.setup.frag_size
  pub nothing : missing (shape_of s) s.heard ≡ 0

-- a session that no file fits
pub record IsFailed (f : Failed) (s : Session) : Type 0 where
  pub setup : s.setup ≡ f.setup
  pub fine : IsSetUp s.setup
  pub received : f.received ≡ received_count (length s.heard)
  pub decided : verdict (shape_of s) s.heard ≡ conflict f.mark
  pub kept : missing (shape_of s) s.heard ≡ f.missing

-- a session whose rows did not suffice
pub record IsOverflowed (f : Failed) (s : Session) : Type 0 where
  pub setup : s.setup ≡ f.setup
  pub fine : IsSetUp s.setup
  pub received : f.received ≡ received_count (length s.heard)
  pub decided : verdict (shape_of s) s.heard ≡ no_rows f.mark
  pub kept : missing (shape_of s) s.heard ≡ f.missing

-- what is kept stands for the session, or for none
unfoldable pub Stands : HeldSlot → Option Session → Type 0
Stands (kept.idle extent) None = Unit {0}
Stands (kept.idle extent) (Some s) = ⊥
Stands (kept.receiving h) None = ⊥
Stands (kept.receiving h) (Some s) = Holds h s
Stands (kept.complete d) None = ⊥
Stands (kept.complete d) (Some s) = (block : List (List ℕ)) × IsWhole d s block
Stands (kept.overflowed f) None = ⊥
Stands (kept.overflowed f) (Some s) = IsOverflowed f s
Stands (kept.conflicted f) None = ⊥
Stands (kept.conflicted f) (Some s) = IsFailed f s

-- a session hears on only while two different blocks fit what it holds
unfoldable pub IsOpen : HeldSlot → Type 0
IsOpen (kept.idle extent) = Unit {0}
IsOpen (kept.receiving h) = TwoFit h.solver
IsOpen (kept.complete d) = Unit {0}
IsOpen (kept.overflowed f) = Unit {0}
IsOpen (kept.conflicted f) = Unit {0}
