-- How long a payload is, and what it means to put bytes at its end.
use Rattle.std.specs.Prelude.{◌≡◌, ℕ, ◌+◌, ◌≤◌, ◌↔◌, List, ◌++◌, length, Result, IsOk, OnOk, OnErr}
use Rattle.wire_base.specs.declared.payload.Full.{Full}

-- the most bytes that a payload of an application package has (this project's profile)
abbrev pub max_payload : ℕ
max_payload = 242

-- the bytes are put at the end where they have room, and nothing changes where they have none
pub record Appends (old new bytes : List ℕ) (result : Result (Unit {0}) Full) : Type 0 where
  pub room : IsOk result ↔ (length old + length bytes ≤ max_payload)
  pub appended : OnOk result (new ≡ old ++ bytes)
  pub unchanged : OnErr result (new ≡ old)
