-- How a payload of another campaign changes a device (this project's profile).
use Rattle.std.specs.Prelude.{◌≡◌, ℕ, true, None}
use Rattle.wire_base.specs.declared.refusal.Direction.TheVariants.{Down}
use Rattle.package_grammar.specs.declared.downlink.Downlink.{Downlink}
use Rattle.package_grammar.specs.Reading.{reading_of}
use Rattle.device_core.specs.Device.{DeviceState}
use Rattle.device_core.specs.Events.{Receives, event_step}
use Rattle.campaign_world.specs.Honest.{are_for_others}
use Rattle.campaign_laws.specs.Headline.{HasNoOther}
use Rattle.pair_run.specs.Counting.{IsAlike}

-- a fragment or a status request for another index than that of the device's one session, where no reboot is to come: whatever
-- way it comes, it changes nothing of the device but its counters
abbrev pub CrossingIsCountedAlone : Type 0
CrossingIsCountedAlone = (own t word line : ℕ) (down : Downlink) (device : DeviceState)
    → are_for_others own (reading_of down.port Down down.payload) ≡ true → HasNoOther own device.sessions → device.reboot ≡ None
    → IsAlike device (event_step device (Receives t word line down))
