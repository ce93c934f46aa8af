-- A flash in a file; nothing is said of its bytes.
use Rattle.std.specs.Prelude.{ℕ, ◌^◌, ◌<◌}
use Rattle.flash_session.specs.Seen.{FlashSeen}

-- how many bytes it has, and how many of its calls failed
pub record InFile : Type 0 where
  pub size : ℕ
  pub faults : ℕ
  pub small : size < 2 ^ 32

-- no content has it, so nothing is said of what it holds and of what a stop leaves
abbrev pub file_seen : InFile → FlashSeen
file_seen flash = record {
  holds = λ c. ⊥;
  since = λ t c. ⊥;
  moment = 0;
  faults = flash.faults;
  room = flash.size;
}
