-- The campaign of a seed is accepted, and each device that has the file runs it.
use Rattle.std.specs.Prelude.{◌≡◌, ℕ, length, Some, Ok}
use Rattle.frag_session.specs.Session.{view_of}
use Rattle.device_core.specs.Device.{DeviceState}
use Rattle.campaign_server.specs.declared.stage.Stage.{Stage}
use Rattle.wire_base.specs.Numbered.{numbered}
use Rattle.campaign_generator.specs.Firmware.{image_of}
use Rattle.campaign_generator.specs.Script.{script_of, sent_of}
use Rattle.campaign_world.specs.declared.summary.Totals.{Totals}
use Rattle.campaign_world.specs.World.{WorldState}
use Rattle.campaign_world.specs.Said.{said_in}
use Rattle.campaign_world.specs.Script.{campaign_of}
use Rattle.campaign_world.specs.Summary.{has_file, is_updated, totals_from, nothing_counted}

-- what its summary counts over the devices
abbrev pub totals_of : WorldState → Totals
totals_of world = totals_from nothing_counted world.server.stages world.devices

pub record IsCampaignOf (seed : ℕ) (world : WorldState) : Type 0 where
  -- no line is refused, and the script ends
  pub accepted : campaign_of (image_of seed) (said_in (script_of seed)) ≡ Ok world
  pub sent : length world.sent ≡ sent_of seed
  pub uplinks : length world.uplinks ≡ 48
  pub devices : length world.devices ≡ 8
  -- the server knows that a device runs the image exactly where the device's session 0 has its file
  pub updated : (id : ℕ) (stage : Stage) (device : DeviceState) → numbered world.server.stages id ≡ Some stage
      → numbered world.devices id ≡ Some device → is_updated stage ≡ has_file (view_of device.sessions.first)
  -- and so many are counted
  pub as_many : (totals_of world).updated ≡ (totals_of world).complete

abbrev pub AllSeedsHaveCampaigns : Type 0
AllSeedsHaveCampaigns = (seed : ℕ) → (world : WorldState) × IsCampaignOf seed world
