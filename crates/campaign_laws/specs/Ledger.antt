-- The ledger is true: where the server says that a device is updated, the device runs the server's image
-- (this project's profile).
use Rattle.std.specs.Prelude.{◌≡◌, ℕ, ◌^◌, ◌<◌, true, List, All, Some, Ok}
use Rattle.image_slots.specs.Image.{is_image, firmware_of}
use Rattle.image_slots.specs.Slots.{Slots}
use Rattle.device_core.specs.Device.{DeviceState}
use Rattle.campaign_server.specs.declared.stage.Stage.TheVariants.{Updated}
use Rattle.campaign_server.specs.Server.{ledger}
use Rattle.wire_base.specs.Numbered.{numbered}
use Rattle.campaign_world.specs.World.{WorldState}
use Rattle.campaign_world.specs.Said.{Line}
use Rattle.campaign_world.specs.Script.{campaign_of}
use Rattle.campaign_world.specs.Honest.{AreHonest}
use Rattle.campaign_laws.specs.Fields.{AllFit}

-- an image file runs: its version, and exactly its bytes
pub record IsRunning (image : List ℕ) (slots : Slots) : Type 0 where
  pub version : slots.version ≡ firmware_of image
  pub bytes : slots.running ≡ image

-- there is a device with this number, and it runs the image
abbrev pub Runs : (image : List ℕ) → List DeviceState → (id : ℕ) → Type 0
Runs image devices id = (device : DeviceState) × (numbered devices id ≡ Some device) × IsRunning image device.slots

-- for any image file and any accepted honest lines
abbrev pub TheLedgerIsTrue : Type 0
TheLedgerIsTrue = (image : List ℕ) (lines : List Line) (world : WorldState) (id : ℕ) → All (λ b. b < 2 ^ 8) image
    → is_image image ≡ true → AllFit world.server.plan.index lines → AreHonest world.server.plan.index lines → campaign_of image lines ≡ Ok world → ledger world.server id ≡ Some Updated
    → Runs image world.devices id
