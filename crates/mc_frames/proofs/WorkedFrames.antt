-- The worked codes, frames and faults, by computing.
use Rattle.std.proofs.Common.{◌≡◌, [], ◌∷◌, ◌++◌, ◌*◌, take, map, refl}
use Rattle.std.specs.List.{range_with_len}
use Rattle.aes_block.specs.Field.{xtime, sum_of_products, times, inverse, affine_bit, sub_byte}
use Rattle.aes_block.specs.Cipher.{sub_bytes, shift_rows, mixed, mix_columns, add_round_key, next_words, words_from, after_round, cipher}
use Rattle.wire_base.specs.Numbers.{number_at}
use Rattle.mc_frames.specs.Cmac.{xor_blocks, shifted, subkey, last_block, chained, cmac}
use Rattle.mc_frames.specs.Frames.{stream_byte, ciphered, message_of, mic, frame_of}
use Rattle.mc_frames.specs.Opening.{fault_of, fault_without_group}
use Rattle.mc_frames.specs.WorkedFrames.{worked_keys, worked_frame, pending_frame, long_payload, long_ciphered, long_frame, WorkedCodes, WorkedFrames, WorkedFaults, WorkedOrder}

pub codes : WorkedCodes
unfolding xtime sum_of_products times inverse affine_bit sub_byte sub_bytes shift_rows mixed mix_columns add_round_key next_words words_from after_round cipher xor_blocks shifted subkey last_block chained cmac
codes = record {
  empty = refl;
  block = refl;
  part = refl;
  four = refl;
  carried = refl;
  not_carried = refl;
}

-- the payload encrypted, and the MIC of each message, by which the frames and their faults are known
encrypted : ciphered worked_keys.app_s 0x11223344 65537 (0xab ∷ 0xcd ∷ []) ≡ 0x06 ∷ 0x5a ∷ []
unfolding xtime sum_of_products times inverse affine_bit sub_byte sub_bytes shift_rows mixed mix_columns add_round_key next_words words_from after_round cipher ciphered
encrypted = refl

code : mic worked_keys 0x11223344 65537 (0x60 ∷ 0x44 ∷ 0x33 ∷ 0x22 ∷ 0x11 ∷ 0x00 ∷ 0x01 ∷ 0x00 ∷ 0xc9 ∷ 0x06 ∷ 0x5a ∷ []) ≡ 0xa8 ∷ 0xb9 ∷ 0x4b ∷ 0xec ∷ []
unfolding xtime sum_of_products times inverse affine_bit sub_byte sub_bytes shift_rows mixed mix_columns add_round_key next_words words_from after_round cipher xor_blocks shifted subkey last_block chained cmac mic
code = refl

pending_code : mic worked_keys 0x11223344 65537 (0x60 ∷ 0x44 ∷ 0x33 ∷ 0x22 ∷ 0x11 ∷ 0x10 ∷ 0x01 ∷ 0x00 ∷ 0xc9 ∷ 0x06 ∷ 0x5a ∷ []) ≡ 0xf8 ∷ 0xaf ∷ 0xbc ∷ 0x81 ∷ []
unfolding xtime sum_of_products times inverse affine_bit sub_byte sub_bytes shift_rows mixed mix_columns add_round_key next_words words_from after_round cipher xor_blocks shifted subkey last_block chained cmac mic
pending_code = refl

next_code : mic worked_keys 0x11223344 131073 (0x60 ∷ 0x44 ∷ 0x33 ∷ 0x22 ∷ 0x11 ∷ 0x00 ∷ 0x01 ∷ 0x00 ∷ 0xc9 ∷ 0x06 ∷ 0x5a ∷ []) ≡ 0xf5 ∷ 0xe2 ∷ 0x5f ∷ 0x52 ∷ []
unfolding xtime sum_of_products times inverse affine_bit sub_byte sub_bytes shift_rows mixed mix_columns add_round_key next_words words_from after_round cipher xor_blocks shifted subkey last_block chained cmac mic
next_code = refl

frame : frame_of worked_keys 0x11223344 0x00 65537 201 (0xab ∷ 0xcd ∷ []) ≡ worked_frame 0xec
unfolding message_of frame_of
frame = rw (encrypted, code) refl

pending : frame_of worked_keys 0x11223344 0x10 65537 201 (0xab ∷ 0xcd ∷ []) ≡ pending_frame
unfolding message_of frame_of
pending = rw (encrypted, pending_code) refl

long_encrypted : ciphered worked_keys.app_s 0x11223344 65537 long_payload ≡ long_ciphered
unfolding xtime sum_of_products times inverse affine_bit sub_byte sub_bytes shift_rows mixed mix_columns add_round_key next_words words_from after_round cipher ciphered
long_encrypted = refl

long_code : mic worked_keys 0x11223344 65537 (take 9 (worked_frame 0xec) ++ long_ciphered) ≡ 0xe0 ∷ 0xe5 ∷ 0x56 ∷ 0xd8 ∷ []
unfolding xtime sum_of_products times inverse affine_bit sub_byte sub_bytes shift_rows mixed mix_columns add_round_key next_words words_from after_round cipher xor_blocks shifted subkey last_block chained cmac mic
long_code = refl

long : frame_of worked_keys 0x11223344 0x00 65537 201 long_payload ≡ long_frame
unfolding message_of frame_of
long = rw (long_encrypted, long_code) refl

blocks : map (λ b. stream_byte worked_keys.app_s 0x11223344 65537 (16 * b)) (range_with_len 0 16) ≡ 0xad ∷ 0xe8 ∷ 0xad ∷ 0xde ∷ 0x65 ∷ 0x68 ∷ 0x35 ∷ 0x7b ∷ 0x0f ∷ 0x9f ∷ 0x37 ∷ 0x4d ∷ 0xec ∷ 0xc1 ∷ 0xc2 ∷ 0x37 ∷ []
unfolding xtime sum_of_products times inverse affine_bit sub_byte sub_bytes shift_rows mixed mix_columns add_round_key next_words words_from after_round cipher
blocks = refl

longest : mic worked_keys 0x11223344 65537 (range_with_len 0 251) ≡ 0x6e ∷ 0x8f ∷ 0x95 ∷ 0x73 ∷ []
unfolding xtime sum_of_products times inverse affine_bit sub_byte sub_bytes shift_rows mixed mix_columns add_round_key next_words words_from after_round cipher xor_blocks shifted subkey last_block chained cmac mic
longest = refl

second_block : stream_byte worked_keys.app_s 0x11223344 0x01020304 16 ≡ 0xd3
unfolding xtime sum_of_products times inverse affine_bit sub_byte sub_bytes shift_rows mixed mix_columns add_round_key next_words words_from after_round cipher
second_block = refl

pub frames : WorkedFrames
frames = search (frame, pending, long, blocks, longest, second_block)

pub faults : WorkedFaults
unfolding number_at fault_of
faults = search (code, pending_code, next_code)

pub order : WorkedOrder
unfolding number_at fault_of fault_without_group
order = search
