-- The log of a flash in memory, oldest step first: each byte that was overwritten, and each sync. It says what a read gave at
-- each moment, and what a stop might then have left.
use Rattle.std.specs.Prelude.{◌≡◌, ℕ, ◌≤◌, Bool, false, ◌||◌, ◌==◌, List, [], ◌∷◌, length, take, drop, if◌then◌else◌}
use Rattle.flash_session.specs.declared.log.Step.{Step}
use Rattle.flash_session.specs.declared.log.Step.TheVariants.{Was, Synced}
use Rattle.flash_session.specs.Contents.{byte_at}
use Rattle.flash_session.specs.Seen.{FlashSeen}

-- what a read gave at a place before these steps, where it gives `now` after them
abbrev pub was : List Step → ℕ → ℕ → ℕ
was [] i now = now
was (Was at byte ∷ later) i now = if at == i then byte else was later i now
was (Synced ∷ later) i now = was later i now

-- whether a stop after these steps may change the byte at a place: it was written since the last sync
abbrev pub loose : List Step → ℕ → Bool → Bool
loose [] i before = before
loose (Was at byte ∷ later) i before = loose later i (before || at == i)
loose (Synced ∷ later) i before = loose later i false

-- a stop after the first k steps might have left this content: any bytes where it was loose, else what a read gave
pub record LeftAt (log : List Step) (bytes : List ℕ) (k : ℕ) (c : List ℕ) : Type 0 where
  pub sized : length c ≡ length bytes
  pub firm : (i : ℕ) → loose (take k log) i false ≡ false → byte_at c i ≡ was (drop k log) i (byte_at bytes i)

-- a stop at some moment from that one on might have left it
pub record LeftSince (log : List Step) (bytes : List ℕ) (t : ℕ) (c : List ℕ) : Type 0 where
  pub moment : ℕ
  pub since : t ≤ moment
  pub until : moment ≤ length log
  pub left : LeftAt log bytes moment c

-- what a flash of these bytes with this log tells of itself, where so many calls failed
abbrev pub seen_in : List Step → (bytes : List ℕ) → (faults : ℕ) → FlashSeen
seen_in log bytes faults = record {
  holds = λ c. c ≡ bytes;
  since = LeftSince log bytes;
  moment = length log;
  faults = faults;
  room = length bytes;
}
