-- What the states of a session hold, as contracts see them.
use Rattle.std.specs.Prelude.{ℕ, ◌+◌, min}
use Rattle.row_elimination.specs.HeldSolver.{Held as Solved}
use Rattle.row_elimination.specs.Room.{Extent}
use Rattle.frag_session.specs.declared.setups.SetupReq.{SetupReq}
use Rattle.frag_session.specs.Limits.{max_received}

-- a session that hears: how many fragments it heard, and what its solver holds
pub record Held : Type 0 where
  pub setup : SetupReq
  pub received : ℕ
  pub solver : Solved

-- a session with a whole file
pub record Done : Type 0 where
  pub setup : SetupReq
  pub received : ℕ
  pub mark : ℕ
  pub solver : Solved

-- a session that came to no file: none fits, or the rows did not suffice
pub record Failed : Type 0 where
  pub setup : SetupReq
  pub received : ℕ
  pub missing : ℕ
  pub mark : ℕ
  pub solver : Solved

-- one fragment more, up to the count's end
unfoldable pub one_more : ℕ → ℕ
one_more received = min (received + 1) max_received

-- one that counts one fragment more
abbrev pub after_one : Failed → Failed
after_one failed = record failed { received = one_more failed.received }

-- what a slot keeps: what there is memory for while no session lives, or a session
pub data HeldSlot : Type 0 where
  idle : Extent → HeldSlot
  receiving : Held → HeldSlot
  complete : Done → HeldSlot
  overflowed : Failed → HeldSlot
  conflicted : Failed → HeldSlot
