-- The image of a seed is an image file.
use Rattle.std.specs.Prelude.{◌≡◌, ℕ, true, length}
use Rattle.image_slots.specs.Image.{is_image, format_of, lowest_of, highest_of, firmware_of}
use Rattle.campaign_generator.specs.Firmware.{firmware_of_seed, size_of, image_of}

pub record IsImageFile (seed : ℕ) : Type 0 where
  pub file : is_image (image_of seed) ≡ true
  pub format : format_of (image_of seed) ≡ 1
  pub lowest : lowest_of (image_of seed) ≡ 1
  pub highest : highest_of (image_of seed) ≡ 1
  pub firmware : firmware_of (image_of seed) ≡ firmware_of_seed seed
  pub size : length (image_of seed) ≡ size_of seed

abbrev pub AreImageFiles : Type 0
AreImageFiles = (seed : ℕ) → IsImageFile seed
