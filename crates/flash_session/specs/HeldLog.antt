-- How a log grows.
use Rattle.std.specs.Prelude.{◌≡◌, ℕ, ◌+◌, ◌≤◌, vec_len, vec_capacity}
use Rattle.std.specs.Global.{Global}
use Rattle.std.specs.declared.vec.Vec.{Vec}
use Rattle.flash_session.specs.declared.log.Step.{Step}

-- it took so many steps, and no room that it had is lost
pub record HasTaken (steps : ℕ) (old new : Vec Step Global) : Type 0 where
  pub len : vec_len new ≡ vec_len old + steps
  pub capacity : vec_capacity old ≤ vec_capacity new
