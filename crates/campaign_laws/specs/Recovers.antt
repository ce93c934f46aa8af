-- What a device recovered is the image, and is its own (this project's profile).
use Rattle.std.specs.Prelude.{◌≡◌, ℕ, ◌+◌, ◌^◌, ◌<◌, List, ◌∷◌, ◌++◌, length, All, Some, None, Ok, Err}
use Rattle.device_core.specs.Device.{DeviceState}
use Rattle.wire_base.specs.Numbered.{numbered}
use Rattle.campaign_world.specs.declared.recovery.NoFile.TheVariants as no_file
use Rattle.campaign_world.specs.World.{WorldState}
use Rattle.campaign_world.specs.Said.{Line}
use Rattle.campaign_world.specs.Script.{campaign_of}
use Rattle.campaign_world.specs.Honest.{AreHonest}
use Rattle.campaign_laws.specs.Fields.{AllFit}
use Rattle.campaign_world.specs.Recovery.{recovery_by, recovery}

-- for any image and any accepted honest lines of a campaign of index 0, what a device recovered is the image
abbrev pub RecoversTheImage : Type 0
RecoversTheImage = (image : List ℕ) (lines : List Line) (world : WorldState) (id : ℕ) (file : List ℕ) → All (λ b. b < 2 ^ 8) image
    → AllFit 0 lines → AreHonest 0 lines → campaign_of image lines ≡ Ok world → recovery world id ≡ Ok file → file ≡ image

-- what is recovered of a device is its own, its number being its place in the list, counted from 1; of no device it is nothing
pub record RecoversItsOwn : Type 0 where
  pub own : (world : WorldState) (before behind : List DeviceState) (device : DeviceState) → world.devices ≡ before ++ device ∷ behind
      → recovery world (length before + 1) ≡ recovery_by (Some device)
  pub nothing : (world : WorldState) (id : ℕ) → numbered world.devices id ≡ None → recovery world id ≡ Err no_file.None
