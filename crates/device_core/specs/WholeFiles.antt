-- When the file of a session comes to the next slot (this project's profile).
use Rattle.std.specs.Prelude.{◌≡◌, ◌≢◌, ℕ, List, Option, Some}
use Rattle.package_grammar.specs.declared.command.Command.TheVariants.{Cast}
use Rattle.cast_wire.specs.declared.cmd.Cmd.TheVariants.{DataFragment}
use Rattle.frag_session.specs.declared.answers.Verdict.TheVariants.{Receiving, Complete}
use Rattle.frag_session.specs.Session.{Seen, view_of}
use Rattle.image_slots.specs.Slots.{after_offer}
use Rattle.device_core.specs.declared.arrival.Arrival.{Arrival}
use Rattle.device_core.specs.SessionTable.{session_at}
use Rattle.device_core.specs.Device.{DeviceState}
use Rattle.device_core.specs.Step.{command_step}

-- the device after a fragment
abbrev pub after_data_fragment : Arrival → DeviceState → (index n : ℕ) → List ℕ → DeviceState
after_data_fragment here device index n part = (command_step here device (Cast (DataFragment index n part))).device

-- what is seen of the session at an index
abbrev pub seen_at : DeviceState → (index : ℕ) → Option Seen
seen_at device index = view_of (session_at device.sessions index)

-- this was seen of a session before a fragment came, and that after it
pub record IsSeen (here : Arrival) (device : DeviceState) (index n : ℕ) (part : List ℕ) (before after : Seen) : Type 0 where
  pub first : seen_at device index ≡ Some before
  pub last : seen_at (after_data_fragment here device index n part) index ≡ Some after

pub record WholeFiles : Type 0 where
  -- the fragment that makes the file whole brings it to the next slot
  pub brought : (here : Arrival) (device : DeviceState) (index n mark : ℕ) (part : List ℕ) (before after : Seen)
      → IsSeen here device index n part before after → before.verdict ≡ Receiving → after.verdict ≡ Complete mark
      → (after_data_fragment here device index n part).slots ≡ after_offer device.config.hw after.file device.slots
  -- a session that was whole brings nothing more
  pub once : (here : Arrival) (device : DeviceState) (index n mark : ℕ) (part : List ℕ) (before after : Seen)
      → IsSeen here device index n part before after → before.verdict ≡ Complete mark
      → (after_data_fragment here device index n part).slots ≡ device.slots
  -- and one that is not whole brings nothing
  pub no_file : (here : Arrival) (device : DeviceState) (index n : ℕ) (part : List ℕ) (before after : Seen)
      → IsSeen here device index n part before after → ((mark : ℕ) → after.verdict ≢ Complete mark)
      → (after_data_fragment here device index n part).slots ≡ device.slots
