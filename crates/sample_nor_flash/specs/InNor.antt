-- A driver over a part; nothing is said of its bytes.
use Rattle.std.specs.Prelude.{ℕ, ◌^◌, ◌<◌}
use Rattle.flash_session.specs.Seen.{FlashSeen}

-- the part, how many bytes its ranges have, and how many of its calls failed
pub record InNor (N : Type 0) : Type 0 where
  pub part : N
  pub size : ℕ
  pub faults : ℕ
  pub small : size < 2 ^ 32

-- no content has it, so nothing is said of what it holds and of what a stop leaves
abbrev pub nor_seen : {N : Type 0} → InNor N → FlashSeen
nor_seen {N} flash = record {
  holds = λ c. ⊥;
  since = λ t c. ⊥;
  moment = 0;
  faults = flash.faults;
  room = flash.size;
}
