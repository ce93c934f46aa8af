-- Image files, and what happens to them in the slots, worked out (this project's profile).
use Rattle.std.specs.Prelude.{◌≡◌, ℕ, false, List, [], ◌∷◌, ◌++◌, take, drop, slice_set}
use Rattle.image_slots.specs.declared.view.ImageState.{ImageState}
use Rattle.image_slots.specs.declared.view.ImageState.TheVariants.{None, Corrupt, Incompatible, Valid}
use Rattle.image_slots.specs.Image.{max_image, lowest_of, highest_of, firmware_of, is_image, image_state}
use Rattle.image_slots.specs.Slots.{Slots, first_slots, after_offer, after_swap, delete_bits, after_delete, after_raise}

-- an image file for hardware 1 with firmware 2, its body the text abc
abbrev pub worked_image : List ℕ
worked_image =
    0x46 ∷ 0x55 ∷ 0x49 ∷ 0x4d ∷ 0x01 ∷ 0x01 ∷ 0x00 ∷ 0x00 ∷ 0x00 ∷ 0x02 ∷ 0x00 ∷ 0x00 ∷ 0x00 ∷ 0x03 ∷ 0x00 ∷ 0x00 ∷ 0x00
    ∷ 0xba ∷ 0x78 ∷ 0x16 ∷ 0xbf ∷ 0x8f ∷ 0x01 ∷ 0xcf ∷ 0xea ∷ 0x41 ∷ 0x41 ∷ 0x40 ∷ 0xde ∷ 0x5d ∷ 0xae ∷ 0x22
    ∷ 0x23 ∷ 0xb0 ∷ 0x03 ∷ 0x61 ∷ 0xa3 ∷ 0x96 ∷ 0x17 ∷ 0x7a ∷ 0x9c ∷ 0xb4 ∷ 0x10 ∷ 0xff ∷ 0x61 ∷ 0xf2 ∷ 0x00 ∷ 0x15
    ∷ 0xad ∷ 0x61 ∷ 0x62 ∷ 0x63 ∷ []

-- one of format 2 for hardware 1 to 3 with firmware 2, and the same body
abbrev pub ranged_image : List ℕ
ranged_image =
    0x46 ∷ 0x55 ∷ 0x49 ∷ 0x4d ∷ 0x02 ∷ 0x01 ∷ 0x00 ∷ 0x00 ∷ 0x00 ∷ 0x03 ∷ 0x00 ∷ 0x00 ∷ 0x00 ∷ 0x02 ∷ 0x00 ∷ 0x00 ∷ 0x00
    ∷ drop 13 worked_image

-- one of the first kind without a body, whose digest is that of nothing
abbrev pub bodiless : List ℕ
bodiless =
    take 13 worked_image ++ 0x00 ∷ 0x00 ∷ 0x00 ∷ 0x00
    ∷ 0xe3 ∷ 0xb0 ∷ 0xc4 ∷ 0x42 ∷ 0x98 ∷ 0xfc ∷ 0x1c ∷ 0x14 ∷ 0x9a ∷ 0xfb ∷ 0xf4 ∷ 0xc8 ∷ 0x99 ∷ 0x6f ∷ 0xb9 ∷ 0x24
    ∷ 0x27 ∷ 0xae ∷ 0x41 ∷ 0xe4 ∷ 0x64 ∷ 0x9b ∷ 0x93 ∷ 0x4c ∷ 0xa4 ∷ 0x95 ∷ 0x99 ∷ 0x1b ∷ 0x78 ∷ 0x52 ∷ 0xb8 ∷ 0x55 ∷ []

-- the fields of a file of format 2, each byte of them another
abbrev pub wide_fields : List ℕ
wide_fields =
    0x46 ∷ 0x55 ∷ 0x49 ∷ 0x4d ∷ 0x02 ∷ 0x01 ∷ 0x02 ∷ 0x03 ∷ 0x04 ∷ 0x05 ∷ 0x06 ∷ 0x07 ∷ 0x08 ∷ 0x09 ∷ 0x0a ∷ 0x0b ∷ 0x0c ∷ []

-- the first with another byte at a place
abbrev pub changed : (at byte : ℕ) → List ℕ
changed at byte = slice_set worked_image at byte

abbrev pub changed_range : (at byte : ℕ) → List ℕ
changed_range at byte = slice_set ranged_image at byte

pub record WorkedImages : Type 0 where
  pub lowest : lowest_of worked_image ≡ 1
  pub highest : highest_of worked_image ≡ 1
  pub firmware : firmware_of worked_image ≡ 2
  pub valid : image_state worked_image 1 2 ≡ Valid 2
  pub other_hardware : image_state worked_image 2 2 ≡ Incompatible
  pub other_body : image_state (changed 51 0x64) 1 2 ≡ Corrupt
  pub other_mark : is_image (changed 0 0x66) ≡ false
  pub end_of_mark : is_image (changed 3 0x6d) ≡ false
  pub format_0 : is_image (changed 4 0) ≡ false
  pub other_format : is_image (changed 4 2) ≡ false
  pub no_format : is_image (changed 4 3) ≡ false
  pub no_version : is_image (changed 9 0) ≡ false
  pub other_length : is_image (changed 13 4) ≡ false
  pub last_of_length : is_image (changed 16 1) ≡ false
  pub start_of_digest : is_image (changed 17 0xbb) ≡ false
  pub end_of_digest : is_image (changed 48 0xac) ≡ false
  pub longer : is_image (worked_image ++ 0 ∷ []) ≡ false
  pub shorter : is_image (take 51 worked_image) ≡ false
  pub cut : is_image (take 48 worked_image) ≡ false
  pub empty : is_image [] ≡ false
  -- a file needs no body, and has at most 262,144 bytes
  pub bodiless_image : image_state bodiless 1 2 ≡ Valid 2
  pub most : max_image ≡ 262144
  -- format 1 is what it was to a device that knows only it
  pub known : image_state worked_image 1 1 ≡ Valid 2
  -- format 2 is for the hardware versions between its two, and corrupt to a device that does not know it
  pub lowest_in : lowest_of ranged_image ≡ 1
  pub highest_in : highest_of ranged_image ≡ 3
  pub firmware_in : firmware_of ranged_image ≡ 2
  -- numbers are of four bytes, the least significant first
  pub lowest_wide : lowest_of wide_fields ≡ 0x04030201
  pub highest_wide : highest_of wide_fields ≡ 0x08070605
  pub firmware_wide : firmware_of wide_fields ≡ 0x0c0b0a09
  pub first_in : image_state ranged_image 1 2 ≡ Valid 2
  pub last_in : image_state ranged_image 3 2 ≡ Valid 2
  pub below : image_state ranged_image 0 2 ≡ Incompatible
  pub above : image_state ranged_image 4 2 ≡ Incompatible
  pub unknown : image_state ranged_image 1 1 ≡ Corrupt
  pub turned : is_image (changed_range 9 0) ≡ false
  pub alone : image_state (changed_range 9 1) 1 2 ≡ Valid 2
  pub no_version_in : is_image (changed_range 13 0) ≡ false
  pub other_length_in : is_image (changed_range 17 4) ≡ false
  pub cut_in : is_image (take 52 ranged_image) ≡ false
  pub other_body_in : image_state (changed_range 55 0x64) 1 2 ≡ Corrupt

-- version 7 runs, and next is this
abbrev pub slots_with : ImageState → Slots
slots_with next = record { formats = 1; version = 7; running = 0x70 ∷ []; next = next; next_file = 0x71 ∷ [] }

pub record WorkedSlots : Type 0 where
  pub first : first_slots 1 ≡ record { formats = 1; version = 0; running = []; next = None; next_file = [] }
  pub first_of_both : first_slots 2 ≡ record { formats = 2; version = 0; running = []; next = None; next_file = [] }
  -- a file becomes next whatever next was, and what runs stays
  pub offered : after_offer 1 worked_image (slots_with (Valid 9))
      ≡ record { formats = 1; version = 7; running = 0x70 ∷ []; next = Valid 2; next_file = worked_image }
  pub corrupt_too : after_offer 1 (0x61 ∷ []) (slots_with (Valid 9))
      ≡ record { formats = 1; version = 7; running = 0x70 ∷ []; next = Corrupt; next_file = 0x61 ∷ [] }
  -- a valid next runs with its file, and no other does
  pub swapped : after_swap (slots_with (Valid 9)) ≡ record { formats = 1; version = 9; running = 0x71 ∷ []; next = None; next_file = [] }
  pub same_version : after_swap (slots_with (Valid 7)) ≡ record { formats = 1; version = 7; running = 0x71 ∷ []; next = None; next_file = [] }
  pub older_version : after_swap (slots_with (Valid 3)) ≡ record { formats = 1; version = 3; running = 0x71 ∷ []; next = None; next_file = [] }
  pub corrupt_stays : after_swap (slots_with Corrupt) ≡ slots_with Corrupt
  pub incompatible_stays : after_swap (slots_with Incompatible) ≡ slots_with Incompatible
  pub none_stays : after_swap (first_slots 1) ≡ first_slots 1
  -- a valid next is deleted by its own version
  pub own : delete_bits (Valid 9) 9 ≡ 0
  pub other_version : delete_bits (Valid 9) 7 ≡ 2
  pub no_valid : delete_bits Corrupt 9 ≡ 1
  pub other_hardware : delete_bits Incompatible 9 ≡ 1
  pub no_next : delete_bits None 9 ≡ 1
  pub deleted : after_delete 9 (slots_with (Valid 9)) ≡ record { formats = 1; version = 7; running = 0x70 ∷ []; next = None; next_file = [] }
  pub kept : after_delete 7 (slots_with (Valid 9)) ≡ slots_with (Valid 9)
  pub kept_corrupt : after_delete 9 (slots_with Corrupt) ≡ slots_with Corrupt
  -- a file of format 2 is corrupt to a device that knows only format 1, until it knows both; what runs stays
  pub held : after_offer 3 ranged_image (slots_with None)
      ≡ record { formats = 1; version = 7; running = 0x70 ∷ []; next = Corrupt; next_file = ranged_image }
  pub raised : after_raise 3 (after_offer 3 ranged_image (slots_with None))
      ≡ record { formats = 2; version = 7; running = 0x70 ∷ []; next = Valid 2; next_file = ranged_image }
  pub raised_none : after_raise 3 (slots_with None) ≡ record { formats = 2; version = 7; running = 0x70 ∷ []; next = None; next_file = 0x71 ∷ [] }
  pub raised_incompatible : after_raise 9 (after_offer 9 worked_image (slots_with None))
      ≡ record { formats = 2; version = 7; running = 0x70 ∷ []; next = Incompatible; next_file = worked_image }
  pub raised_valid : after_raise 1 (after_offer 1 worked_image (slots_with None))
      ≡ record { formats = 2; version = 7; running = 0x70 ∷ []; next = Valid 2; next_file = worked_image }
