-- What a stop may leave, at the moments of a call and of a run of calls.
use Rattle.std.specs.Prelude.{◌⊎◌, ℕ, ◌≤◌, List}
use Rattle.flash_session.specs.Seen.{FlashSeen, left}

-- A call took the flash from one moment to another. A stop since some earlier moment might have left what it might have
-- left before, or that after a step; and so at the moment now.
pub record Elapses (step : List ℕ → List ℕ → Type 0) (old new : FlashSeen) : Type 0 where
  pub later : old.moment ≤ new.moment
  pub each : (t : ℕ) (c : List ℕ) → t ≤ old.moment → new.since t c → old.since t c ⊎ ((d : List ℕ) × left old d × step d c)
  pub last : (c : List ℕ) → left new c → (d : List ℕ) × left old d × step d c

-- A run of calls took it there, and a stop at any moment of the run, inside a call too, leaves what has P.
pub record LeavesOnly (P : List ℕ → Type 0) (old new : FlashSeen) : Type 0 where
  pub later : old.moment ≤ new.moment
  pub each : (c : List ℕ) → new.since old.moment c → P c
  -- for a run that began earlier
  pub earlier : (t : ℕ) (c : List ℕ) → t ≤ old.moment → new.since t c → old.since t c ⊎ P c
  -- at the moment now
  pub last : (c : List ℕ) → left new c → P c
