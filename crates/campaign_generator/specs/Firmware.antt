-- The image of a seed: its body is drawn, its hardware version is 1. (This project's profile.)
use Rattle.std.specs.Prelude.{ℕ, zero, suc, ◌+◌, ◌/◌, ◌%◌, List, [], ◌∷◌, ◌++◌}
use Rattle.sha2.specs.Sha256.{sha256}
use Rattle.wire_base.specs.Numbers.{number_bytes}
use Rattle.image_slots.specs.Image.{image_start}
use Rattle.campaign_generator.specs.Draws.{stepped, drawn, after_draws}

-- the body's length, by the first draw
unfoldable pub body_of : ℕ → ℕ
body_of seed = 4096 + drawn seed % 4096

-- the firmware version
unfoldable pub firmware_of_seed : ℕ → ℕ
firmware_of_seed seed = 1 + seed % 1000

-- so many drawn bytes
unfoldable pub bytes_from : (g left : ℕ) → List ℕ
bytes_from g zero = []
bytes_from g (suc left) = drawn g % 256 ∷ bytes_from (stepped g) left

-- an image file of its versions, the body's length and the body
unfoldable pub file_of : (hardware firmware size : ℕ) (body : List ℕ) → List ℕ
file_of hardware firmware size body =
    image_start 1 ++ (number_bytes 4 hardware ++ (number_bytes 4 firmware ++ (number_bytes 4 size ++ (sha256 body ++ body))))

-- the image file of a seed
unfoldable pub image_of : ℕ → List ℕ
image_of seed = file_of 1 (firmware_of_seed seed) (body_of seed) (bytes_from (stepped seed) (body_of seed))

-- the length of the image file: 49 bytes stand before the body
unfoldable pub size_of : ℕ → ℕ
size_of seed = 49 + body_of seed

-- the state after the draws of the image
unfoldable pub after_image : ℕ → ℕ
after_image seed = after_draws (stepped seed) (body_of seed)

-- how many fragments of 64 bytes hold a file of so many bytes
unfoldable pub fragments_of_size : ℕ → ℕ
fragments_of_size size = (size + 63) / 64

-- how many fragments hold the image of a seed
unfoldable pub fragments_of : ℕ → ℕ
fragments_of seed = fragments_of_size (size_of seed)
