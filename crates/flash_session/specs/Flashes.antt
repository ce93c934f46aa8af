-- The flashes in memory, and which of their calls fail.
use Rattle.std.specs.Prelude.{◌≡◌, ℕ, ◌+◌, ◌-◌, ◌^◌, ◌<◌, ◌≤◌, min, Bool, true, ◌||◌, ◌==◌, nat_lt, List, length, if◌then◌else◌}
use Rattle.std.specs.List.{list_any}
use Rattle.flash_session.specs.declared.log.Step.{Step}
use Rattle.flash_session.specs.Seen.{FlashSeen}

-- what a flash in memory tells of its calls: how many steps it has room for and has taken, the numbers of the calls that fail,
-- and how many calls there were, up to the count's end
pub record Calls : Type 0 where
  pub room : ℕ
  pub taken : ℕ
  pub fails : List ℕ
  pub made : ℕ

-- a flash in memory: its bytes, fewer than 2^32, what was done to them, what it tells of its calls, and how many failed
pub record Memory : Type 0 where
  pub bytes : List ℕ
  pub log : List Step
  pub calls : Calls
  pub faults : ℕ
  pub small : length bytes < 2 ^ 32

-- one that passes so many calls on to the flash inside; so many failed since it passes none
pub record Stopping : Type 0 where
  pub flash : Memory
  pub left : ℕ
  pub failed : ℕ

-- cells, fewer than 2^32
pub record Cells : Type 0 where
  pub bytes : List ℕ
  pub small : length bytes < 2 ^ 32

-- they tell nothing of a stop, and no call fails
abbrev pub cells_seen : List ℕ → FlashSeen
cells_seen bytes = record {
  holds = λ c. c ≡ bytes;
  since = λ t c. ⊥;
  moment = 0;
  faults = 0;
  room = length bytes;
}

-- the number of the next call; the first is 1
abbrev pub next_call : ℕ → ℕ
next_call made = min (made + 1) (2 ^ 64 - 1)

-- the next call fails: it is listed, or there is no room for its steps
abbrev pub fails_next : Calls → (steps : ℕ) → Bool
fails_next c steps = nat_lt (c.room - c.taken) steps || list_any (λ n. n == next_call c.made) c.fails

-- what it tells after that call
abbrev pub after_call : Calls → (steps : ℕ) → Calls
after_call c steps = record c {
  taken = if fails_next c steps then c.taken else c.taken + steps;
  made = next_call c.made;
}

-- a call that takes so many steps fails exactly where it has to, and counts
pub record IsCounted (old new : Calls) (steps : ℕ) (failed : Bool) : Type 0 where
  pub exact : failed ≡ fails_next old steps
  pub counted : new ≡ after_call old steps

-- a call is passed on while any is left, and then it fails where it fails inside; with none left it fails
pub record IsPassed (old new : Stopping) (steps : ℕ) (failed : Bool) : Type 0 where
  pub spent : old.left ≡ 0 → (failed ≡ true) × (new.left ≡ 0) × (new.flash.calls ≡ old.flash.calls)
  pub passed : 1 ≤ old.left → (new.left + 1 ≡ old.left) × IsCounted old.flash.calls new.flash.calls steps failed
