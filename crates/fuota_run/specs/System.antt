-- What is seen of the system's files and of the standard output; what they hold is not known.
use Rattle.std.specs.Prelude.{ℕ, Bool}

-- of the files: whether the last `choose` was Ok, and how many calls have failed
pub record SystemFiles : Type 0 where
  pub chosen : Bool
  pub faults : ℕ

-- of the output: whether the last call was a `finish` that was Ok, and how many calls have failed
pub record SystemSink : Type 0 where
  pub finished : Bool
  pub faults : ℕ
