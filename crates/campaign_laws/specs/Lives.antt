-- That sessions live: what follows from accepted lines, whatever else they do (this project's profile).
use Rattle.std.specs.Prelude.{◌≡◌, ℕ, ◌^◌, ◌<◌, ◌≤◌, true, false, List, length, All, Some, is_some, Ok}
use Rattle.frag_session.specs.Setup.{other_descriptor}
use Rattle.image_slots.specs.Image.{is_image, firmware_of}
use Rattle.device_core.specs.Device.{DeviceState}
use Rattle.device_core.specs.SessionTable.{session_at}
use Rattle.wire_base.specs.Numbered.{numbered}
use Rattle.campaign_world.specs.World.{WorldState}
use Rattle.campaign_world.specs.Said.{Line}
use Rattle.campaign_world.specs.Script.{campaign_of}
use Rattle.campaign_world.specs.Honest.{AreHonest}
use Rattle.campaign_laws.specs.Fields.{AllFit}
use Rattle.campaign_laws.specs.Headline.{Brings, setup_command}

-- accepted lines have devices, and their server a stage for each; so the report has a line for each
abbrev pub HasItsDevices : Type 0
HasItsDevices = (image : List ℕ) (lines : List Line) (world : WorldState) → campaign_of image lines ≡ Ok world
    → (1 ≤ length world.devices) × (length world.server.stages ≡ length world.devices)

-- where the lines are honest, a device to which a line brought the server's setup, and that accepts its descriptor, has its
-- session: there is always room for the setup of an image
abbrev pub SessionsLive : Type 0
SessionsLive = (image : List ℕ) (lines : List Line) (world : WorldState) (id : ℕ) (device : DeviceState) (n : ℕ) → All (λ b. b < 2 ^ 8) image
    → is_image image ≡ true → AllFit world.server.plan.index lines → AreHonest world.server.plan.index lines → campaign_of image lines ≡ Ok world → numbered world.devices id ≡ Some device
    → other_descriptor device.config.descriptor (firmware_of image) ≡ false
    → Brings image lines world.sent id n (setup_command world.server)
    → is_some (session_at device.sessions world.server.plan.index) ≡ true
