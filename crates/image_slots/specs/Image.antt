-- Image files of two formats, and what one is to a device. (This project's profile.)
-- 0: FUIM; 4: the format, 1 or 2; 5: the hardware version, in format 2 the lowest and after it the highest one; then, in
-- format 2 four bytes further on: 9: firmware version, not 0; 13: the body's length; 17: the body's SHA-256; 49: the body,
-- to the end. A file is within 262,144 bytes. Numbers are of 4 bytes, little-endian.
use Rattle.std.specs.Prelude.{ℕ, ◌+◌, ◌-◌, Bool, ◌&&◌, ◌||◌, not, ◌==◌, nat_le, if◌then◌else◌, List, [], ◌∷◌, ◌++◌, length, take, drop, slice_index, codes}
use Rattle.std.specs.Str.{bytes_eq}
use Rattle.sha2.specs.Sha256.{sha256}
use Rattle.wire_base.specs.Numbers.{number_at}
use Rattle.image_slots.specs.declared.view.ImageState.{ImageState}
use Rattle.image_slots.specs.declared.view.ImageState.TheVariants.{Corrupt, Incompatible, Valid}

-- the mark at the start of an image file, and its format
unfoldable pub image_start : (format : ℕ) → List ℕ
image_start format = codes "FUIM" ++ format ∷ []

unfoldable pub format_of : List ℕ → ℕ
format_of file = slice_index file 4

-- how many bytes later the fields after the lowest hardware version are
unfoldable pub further : List ℕ → ℕ
further file = if format_of file == 2 then 4 else 0

-- the lowest hardware version that a file is for
unfoldable pub lowest_of : List ℕ → ℕ
lowest_of file = number_at file 5 4

-- the highest one: in format 1 the same field
unfoldable pub highest_of : List ℕ → ℕ
highest_of file = number_at file (5 + further file) 4

unfoldable pub firmware_of : List ℕ → ℕ
firmware_of file = number_at file (9 + further file) 4

-- the digest is that of the body
unfoldable pub has_digest : List ℕ → (more : ℕ) → Bool
has_digest file more = bytes_eq (take 32 (drop (17 + more) file)) (sha256 (drop (49 + more) file))

-- the most bytes of an image file
abbrev pub max_image : ℕ
max_image = 262144

-- the bytes are an image file of either format
unfoldable pub is_image : List ℕ → Bool
is_image file =
    nat_le (49 + further file) (length file)
    && nat_le (length file) max_image
    && (bytes_eq (take 5 file) (image_start 1) || bytes_eq (take 5 file) (image_start 2))
    && nat_le (lowest_of file) (highest_of file)
    && not (firmware_of file == 0)
    && number_at file (13 + further file) 4 == length file - (49 + further file)
    && has_digest file (further file)

-- an image file is for a hardware version
unfoldable pub is_for : List ℕ → (hw : ℕ) → Bool
is_for file hw = nat_le (lowest_of file) hw && nat_le hw (highest_of file)

-- a device that knows only format 1 does not know a file of format 2
unfoldable pub is_unknown : List ℕ → (formats : ℕ) → Bool
is_unknown file formats = format_of file == 2 && formats == 1

-- what a file is to a device of some hardware version, which knows only format 1 (formats 1) or both (formats 2)
unfoldable pub image_state : List ℕ → (hw formats : ℕ) → ImageState
image_state file hw formats =
    if is_image file && not (is_unknown file formats) then if is_for file hw then Valid (firmware_of file) else Incompatible else Corrupt
