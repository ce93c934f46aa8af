-- What is seen of the files of a call, and of the text as it is written.
use Rattle.std.specs.Prelude.{ℕ, Bool, List}
use Rattle.fuota_run.specs.Memory.{Named}

-- the files by name, and what each other name holds; whether one is chosen, and what is left of it
pub record SeenGiven : Type 0 where
  pub files : List Named
  pub others : List ℕ
  pub left : List ℕ
  pub chosen : Bool

-- all bytes that were written; whether the last call was a `finish` that was Ok; how many calls failed
pub record SeenText : Type 0 where
  pub bytes : List ℕ
  pub finished : Bool
  pub faults : ℕ
