-- Gates as they are read.
use Rattle.std.specs.Prelude.{◌≡◌, ◌≢◌, ℕ, ◌+◌, ◌<◌, ◌≤◌, List}
use Rattle.flash_session.specs.Contents.{byte_at}
use Rattle.flash_session.specs.Layout.{open_gate}

-- those from one to another are open
pub record AreOpen (holds : List ℕ → Type 0) (at from to : ℕ) : Type 0 where
  pub opened : (b : List ℕ) → holds b → (k : ℕ) → from ≤ k → k < to → byte_at b (at + k) ≡ open_gate

-- or none of them is
pub record AreShut (holds : List ℕ → Type 0) (at from to : ℕ) : Type 0 where
  pub shut : (b : List ℕ) → holds b → (k : ℕ) → from ≤ k → k < to → byte_at b (at + k) ≢ open_gate
