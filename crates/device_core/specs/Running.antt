-- What a device runs, whatever comes to it (this project's profile).
use Rattle.std.specs.Prelude.{◌≡◌, ℕ, List, [], ◌∷◌}
use Rattle.package_grammar.specs.declared.downlink.Downlink.{Downlink}
use Rattle.image_slots.specs.Slots.{Slots, RunsImageOr}
use Rattle.session_store.specs.declared.state.CompleteFlags.{CompleteFlags}
use Rattle.device_core.specs.Configuration.{Configuration}
use Rattle.device_core.specs.Device.{DeviceState, first_device}
use Rattle.device_core.specs.Firmware.{after_migration}
use Rattle.device_core.specs.Deliver.{delivery, waking, taking}
use Rattle.device_core.specs.Power.{after_power}
use Rattle.device_core.specs.Radio.{radio}
use Rattle.device_core.specs.SessionTable.{SessionTable}
use Rattle.device_core.specs.Events.{Event, after_event}

-- ---- calls

-- a payload comes, the radio hears bytes, the device wakes, its oldest uplink is taken, it learns both image formats, or power
-- comes and finds some sessions, where these had their file whole
pub data Call : Type 0 where
  Delivers : (t word mark : ℕ) → Downlink → Call
  Airs : (t word mark : ℕ) → List ℕ → Call
  Wakes : (t : ℕ) → Call
  Takes : Call
  Raises : Call
  Powers : (whole : CompleteFlags) → SessionTable → Call

-- the device after a call, whatever it answers
abbrev pub after_call : DeviceState → Call → DeviceState
after_call device (Delivers t word mark down) = (delivery t word mark down device).device
after_call device (Airs t word mark bytes) = (radio t word mark bytes device).device
after_call device (Wakes t) = (waking t device).device
after_call device Takes = (taking device).device
after_call device Raises = after_migration device
after_call device (Powers whole table) = after_power whole table device

-- after one call after another, and after one event after another
abbrev pub after_calls : DeviceState → List Call → DeviceState
after_calls device [] = device
after_calls device (call ∷ calls) = after_calls (after_call device call) calls

abbrev pub after_events : DeviceState → List Event → DeviceState
after_events device [] = device
after_events device (event ∷ events) = after_events (after_event device event) events

-- ---- what runs

-- an image for this hardware, or nothing yet, which is version 0
abbrev pub RunsImageOrNone : (hw : ℕ) → Slots → Type 0
RunsImageOrNone hw slots = RunsImageOr (λ version. version ≡ 0) hw slots

-- for any calls, payloads and moments that come to a new device of any configuration
pub record RunsImagesAlone : Type 0 where
  pub calls : (config : Configuration) (calls : List Call)
      → RunsImageOrNone config.hw (after_calls (first_device config) calls).slots
  pub events : (config : Configuration) (events : List Event)
      → RunsImageOrNone config.hw (after_events (first_device config) events).slots
