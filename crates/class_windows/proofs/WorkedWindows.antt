-- The worked windows, by computing.
use Rattle.std.proofs.Common.{◌≡◌, [], ◌∷◌, true, false, refl}
use Rattle.class_windows.specs.Windows.{rand}
use Rattle.class_windows.specs.Open.{is_after_uplink, is_running, is_in_slot, is_ping_slot}
use Rattle.aes_block.specs.Field.{xtime, sum_of_products, times, inverse, affine_bit, sub_byte}
use Rattle.aes_block.specs.Cipher.{sub_bytes, shift_rows, mixed, mix_columns, add_round_key, next_words, words_from, after_round, cipher}
use Rattle.class_windows.specs.WorkedWindows.{WorkedWindows, WorkedSlots, WorkedAnswers}

pub windows : WorkedWindows
unfolding is_after_uplink is_running is_in_slot
windows = search

-- Rand of each beacon that is worked out, by which its slots are known
rand_1024 : rand 1024 0x11223344 ≡ 0x57 ∷ 0x45 ∷ 0xc3 ∷ 0x3b ∷ 0xcf ∷ 0x8f ∷ 0xa3 ∷ 0xba ∷ 0x09 ∷ 0xc5 ∷ 0x38 ∷ 0x5b ∷ 0x25 ∷ 0x08 ∷ 0x2c ∷ 0x4d ∷ []
unfolding xtime sum_of_products times inverse affine_bit sub_byte sub_bytes shift_rows mixed mix_columns add_round_key next_words words_from after_round cipher
rand_1024 = refl

rand_1152 : rand 1152 0x11223344 ≡ 0x13 ∷ 0x2b ∷ 0x68 ∷ 0xb7 ∷ 0x70 ∷ 0x28 ∷ 0x31 ∷ 0x3d ∷ 0xb5 ∷ 0x42 ∷ 0xd1 ∷ 0x4e ∷ 0xe1 ∷ 0xeb ∷ 0x03 ∷ 0x92 ∷ []
unfolding xtime sum_of_products times inverse affine_bit sub_byte sub_bytes shift_rows mixed mix_columns add_round_key next_words words_from after_round cipher
rand_1152 = refl

rand_1280 : rand 1280 0x11223344 ≡ 0x8b ∷ 0x26 ∷ 0x21 ∷ 0x8a ∷ 0x2f ∷ 0x35 ∷ 0x73 ∷ 0xb6 ∷ 0x18 ∷ 0x2d ∷ 0x36 ∷ 0x95 ∷ 0x76 ∷ 0x27 ∷ 0x87 ∷ 0x83 ∷ []
unfolding xtime sum_of_products times inverse affine_bit sub_byte sub_bytes shift_rows mixed mix_columns add_round_key next_words words_from after_round cipher
rand_1280 = refl

rand_last : rand 4294967168 0xdeadbeef ≡ 0x2c ∷ 0xdd ∷ 0x6c ∷ 0xb0 ∷ 0xf0 ∷ 0x65 ∷ 0x63 ∷ 0x10 ∷ 0x28 ∷ 0x35 ∷ 0x79 ∷ 0x2f ∷ 0x04 ∷ 0x7a ∷ 0x53 ∷ 0x48 ∷ []
unfolding xtime sum_of_products times inverse affine_bit sub_byte sub_bytes shift_rows mixed mix_columns add_round_key next_words words_from after_round cipher
rand_last = refl

pub slots : WorkedSlots
unfolding is_running is_in_slot is_ping_slot
slots = search (rand_1024, rand_1152, rand_1280, rand_last)

pub answers : WorkedAnswers
answers = search

-- at 2,810 ms and 2,840 ms after the beacon at 1,024 s
pub ping_slot : is_ping_slot 1026810 0x11223344 0 ≡ true
unfolding is_in_slot is_ping_slot
ping_slot = rw rand_1024 refl

pub no_ping_slot : is_ping_slot 1026840 0x11223344 0 ≡ false
unfolding is_in_slot is_ping_slot
no_ping_slot = rw rand_1024 refl
