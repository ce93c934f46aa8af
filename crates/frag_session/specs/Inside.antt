-- What the fields of each state keep true.
use Rattle.std.specs.Prelude.{◌≡◌, ℕ, ◌*◌, ◌<◌, ◌≤◌, length}
use Rattle.row_elimination.specs.declared.stages.Stage.TheVariants as stage
use Rattle.row_elimination.specs.HeldSolver.{Held as Solved}
use Rattle.frag_session.specs.declared.setups.SetupReq.{SetupReq}
use Rattle.frag_session.specs.Limits.{max_received}

-- the solver has the file of the setup
pub record IsOf (solver : Solved) (setup : SetupReq) : Type 0 where
  pub some : 1 ≤ setup.nb_frag
  pub nb_frag : solver.shape.nb_frag ≡ setup.nb_frag
  pub frag_size : solver.shape.frag_size ≡ setup.frag_size
  pub short : setup.padding < setup.frag_size

-- a session of this setup that is not decided
pub record IsReceiving (solver : Solved) (setup : SetupReq) (received : ℕ) : Type 0 where
  pub its : IsOf solver setup
  pub counted : received ≤ max_received
  pub stage : solver.stage ≡ stage.Receiving

-- a session of this setup whose file is whole
pub record IsComplete (solver : Solved) (setup : SetupReq) (received : ℕ) : Type 0 where
  pub its : IsOf solver setup
  pub counted : received ≤ max_received
  pub stage : solver.stage ≡ stage.Complete
  pub sized : length solver.content ≡ setup.nb_frag * setup.frag_size
