-- A device that is saved, ends, and is restored.
use Rattle.std.specs.Prelude.{◌≡◌, ℕ, ◌^◌, ◌<◌, true, List}
use Rattle.session_store.specs.declared.state.CompleteFlags.{CompleteFlags}
use Rattle.session_store.specs.CompleteFlags.{flags_of}
use Rattle.device_core.specs.Configuration.{Configuration}
use Rattle.device_core.specs.Device.{DeviceState, first_device, is_config}
use Rattle.device_core.specs.Power.{after_power}
use Rattle.device_core.specs.Saving.{IsOver, IsSaved}
use Rattle.device_core.specs.SessionTable.{no_sessions}

pub record LastsThroughRestart : Type 0 where
  -- no two records of one configuration and these files have the same bytes, their sessions aside
  pub apart : (config : Configuration) (saved running next : List ℕ) (a b : DeviceState) (whole_a whole_b : CompleteFlags)
      → IsSaved config saved running next a whole_a → IsSaved config saved running next b whole_b
      → (record a { sessions = no_sessions } ≡ record b { sessions = no_sessions }) × (whole_a ≡ whole_b)
  -- power gives a restored device, whose sessions are in its flash, the record that was saved: no file is offered again
  pub same : (config : Configuration) (saved running next : List ℕ) (device again : DeviceState) (whole : CompleteFlags)
      → IsSaved config saved running next device (flags_of device.sessions) → IsSaved config saved running next again whole
      → after_power whole device.sessions again ≡ device
  -- the record of a new device can be restored
  pub first : (config : Configuration) → is_config config ≡ true → config.offset < 2 ^ 32 → IsOver config (first_device config)
