-- What was sent or made, as the calls of a world see it: the items, and how many more there is room for.
use Rattle.std.specs.Prelude.{ℕ, ◌≤◌, ◌*◌, List}
use Rattle.wire_base.specs.Payload.{max_payload}

-- the items, oldest first; how many more there are places for, and how many more bytes
pub record HeldLog (A : Type 0) : Type 0 where
  pub items : List A
  pub places : ℕ
  pub free : ℕ

-- there is room for so many more items, however long their payloads are
pub record HasRoom {A : Type 0} (count : ℕ) (log : HeldLog A) : Type 0 where
  pub placed : count ≤ log.places
  pub fits : count * max_payload ≤ log.free
