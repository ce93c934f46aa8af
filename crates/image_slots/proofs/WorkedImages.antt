-- The worked images and slots, by computing.
use Rattle.wire_base.specs.Numbers.{number_at}
use Rattle.sha2.specs.Sha256.{first_words, schedule, rounds, compress, hash_after, digest_bytes, sha256}
use Rattle.image_slots.specs.Image.{image_start, format_of, further, lowest_of, highest_of, firmware_of, has_digest, is_image, is_for, is_unknown, image_state}
use Rattle.image_slots.specs.Slots.{after_offer, after_swap, after_delete, after_raise}
use Rattle.image_slots.specs.WorkedImages.{WorkedImages, WorkedSlots}

pub images : WorkedImages
unfolding number_at image_start format_of further lowest_of highest_of firmware_of has_digest is_image is_for is_unknown image_state first_words schedule rounds compress hash_after digest_bytes sha256
images = search

pub slots : WorkedSlots
unfolding number_at image_start format_of further lowest_of highest_of firmware_of has_digest is_image is_for is_unknown image_state after_offer after_swap after_delete after_raise first_words schedule rounds compress hash_after digest_bytes sha256
slots = search
