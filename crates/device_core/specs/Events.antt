-- What happens at a device, whoever brings it about (this project's profile): it wakes, a payload or bytes of the air reach
-- it, or it learns an image format; and when what a session heard came in turn.
use Rattle.std.specs.Prelude.{ℕ, ◌≤◌, List, [], ◌∷◌}
use Rattle.frag_model.specs.Fragments.{Fragment}
use Rattle.cast_wire.specs.declared.cmd.Cmd.TheVariants.{DataFragment}
use Rattle.package_grammar.specs.declared.command.Command.{Command}
use Rattle.package_grammar.specs.declared.command.Command.TheVariants.{Cast}
use Rattle.package_grammar.specs.declared.downlink.Downlink.{Downlink}
use Rattle.device_core.specs.Device.{DeviceState}
use Rattle.device_core.specs.Deliver.{delivery, waking}
use Rattle.device_core.specs.Firmware.{after_migration}
use Rattle.device_core.specs.Radio.{radio}

-- at a time in ms it wakes, or a payload reaches it, or bytes reach its radio, with a random word and at a line of the script;
-- or it knows both image formats from now on
pub data Event : Type 0 where
  Wakes : (time : ℕ) → Event
  Receives : (time word line : ℕ) → Downlink → Event
  HearsBytes : (time word line : ℕ) → (bytes : List ℕ) → Event
  Migrates : Event

-- the device after an event, its uplinks in its outbox
abbrev pub event_step : DeviceState → Event → DeviceState
event_step device Migrates = after_migration device
event_step device (Wakes time) = (waking time device).device
event_step device (Receives time word line down) = (delivery time word line down device).device
event_step device (HearsBytes time word line bytes) = (radio time word line bytes device).device

-- after each event all its uplinks are taken
abbrev pub uplinks_taken : DeviceState → DeviceState
uplinks_taken device = record device { outbox = [] }

abbrev pub after_event : DeviceState → Event → DeviceState
after_event device event = uplinks_taken (event_step device event)

-- ---- what a session heard

-- each fragment came with the payload whose number is its mark, up to this one, and those heard before it no later
abbrev pub CameInTurn : (carries : ℕ → Command → Type 0) → (index last : ℕ) → List Fragment → Type 0
CameInTurn carries index last [] = Unit {0}
CameInTurn carries index last (f ∷ older) =
    (f.mark ≤ last) × carries f.mark (Cast (DataFragment index f.number f.part)) × CameInTurn carries index f.mark older
