-- What gates are like as they are read.
use Rattle.std.specs.Prelude.{◌≡◌, ℕ, ◌+◌, ◌<◌, ◌≤◌, List}
use Rattle.flash_session.specs.declared.reading.Front.{Front}
use Rattle.flash_session.specs.declared.reading.Front.TheVariants.{Whole, Stray}
use Rattle.flash_session.specs.Contents.{byte_at}
use Rattle.flash_session.specs.Layout.{open_gate}
use Rattle.flash_session.specs.Lies.{GatesOpen}

-- gate k is open after the first that is not, and no other gate before it is
pub record IsFirstStray (c : List ℕ) (at most n k : ℕ) : Type 0 where
  pub behind : n < k
  pub within : k < most
  pub front : GatesOpen c at n k
  pub opened : byte_at c (at + k) ≡ open_gate

-- how many gates are open from the first on, and the first open one behind a closed one
abbrev pub IsFront : (holds : List ℕ → Type 0) → (at most : ℕ) → Front → Type 0
IsFront holds at most (Whole n) = (n ≤ most) × ((b : List ℕ) → holds b → GatesOpen b at n most)
IsFront holds at most (Stray k) = (k < most) × (n : ℕ) × ((b : List ℕ) → holds b → IsFirstStray b at most n k)
