-- Files in memory that never fail: what they hold, and what is left of the one chosen last.
use Rattle.std.specs.Prelude.{ℕ, Bool, List}
use Rattle.fuota_run.specs.Memory.{Named}

-- files in memory, of which one may be chosen, and what is left to read of it
pub record HeldFiles : Type 0 where
  pub files : List Named
  pub chosen : Bool
  pub left : List ℕ
