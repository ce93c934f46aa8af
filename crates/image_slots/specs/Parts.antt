-- What makes bytes an image file, part by part. (This project's profile.)
use Rattle.std.specs.Prelude.{◌≡◌, ◌≢◌, ◌⊎◌, ◌≤◌, ℕ, ◌+◌, ◌-◌, List, length, take, drop}
use Rattle.sha2.specs.Sha256.{sha256}
use Rattle.wire_base.specs.Numbers.{number_at}
use Rattle.image_slots.specs.Image.{image_start, further, lowest_of, highest_of, firmware_of}

-- the bytes have the mark of a format, hardware and firmware versions, and a body of its length and digest, however long it is
pub record HasParts (file : List ℕ) : Type 0 where
  pub long : 49 + further file ≤ length file
  pub mark : (take 5 file ≡ image_start 1) ⊎ (take 5 file ≡ image_start 2)
  pub hardware : lowest_of file ≤ highest_of file
  pub firmware : firmware_of file ≢ 0
  pub body : number_at file (13 + further file) 4 ≡ length file - (49 + further file)
  pub digest : take 32 (drop (17 + further file) file) ≡ sha256 (drop (49 + further file) file)
