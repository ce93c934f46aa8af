-- What a contract sees of slots: the device's hardware version, the room for a file in bytes, and the two slots.
use Rattle.std.specs.Prelude.{ℕ}
use Rattle.image_slots.specs.Slots.{Slots}

pub record HeldSlots : Type 0 where
  pub hw : ℕ
  pub area : ℕ
  pub slots : Slots
