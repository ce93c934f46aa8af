-- The worked keys, by computing.
use Rattle.std.proofs.Common.{◌≡◌, refl}
use Rattle.aes_block.specs.Field.{xtime, sum_of_products, times, inverse, affine_bit, sub_byte}
use Rattle.aes_block.specs.Cipher.{sub_bytes, shift_rows, mixed, mix_columns, add_round_key, next_words, words_from, after_round, cipher}
use Rattle.mc_keys.specs.Keys.{mc_root_key, mc_root_key_1_1}
use Rattle.mc_keys.specs.WorkedKeys.{worked_gen_app_key, worked_root, worked_root_1_1, WorkedKeys, WorkedSessionKeys}

root : mc_root_key worked_gen_app_key ≡ worked_root
unfolding xtime sum_of_products times inverse affine_bit sub_byte sub_bytes shift_rows mixed mix_columns add_round_key next_words words_from after_round cipher
root = refl

root_1_1 : mc_root_key_1_1 worked_gen_app_key ≡ worked_root_1_1
unfolding xtime sum_of_products times inverse affine_bit sub_byte sub_bytes shift_rows mixed mix_columns add_round_key next_words words_from after_round cipher
root_1_1 = refl

pub keys : WorkedKeys
unfolding xtime sum_of_products times inverse affine_bit sub_byte sub_bytes shift_rows mixed mix_columns add_round_key next_words words_from after_round cipher
keys = record {
  root = root;
  root_1_1 = root_1_1;
  of_1_0 = root;
  of_1_1 = root_1_1;
  kek = refl;
  unwrapped = refl;
  kek_1_1 = refl;
  unwrapped_1_1 = refl;
}

pub session_keys : WorkedSessionKeys
unfolding xtime sum_of_products times inverse affine_bit sub_byte sub_bytes shift_rows mixed mix_columns add_round_key next_words words_from after_round cipher
session_keys = search
