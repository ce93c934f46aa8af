-- A group's key under a root key of LoRaWAN 1.1, by computing.
use Rattle.std.proofs.Common.{◌≡◌, ℕ, List, [], ◌∷◌, refl}
use Rattle.aes_block.specs.Field.{xtime, sum_of_products, times, inverse, affine_bit, sub_byte}
use Rattle.aes_block.specs.Cipher.{sub_bytes, shift_rows, mixed, mix_columns, add_round_key, next_words, words_from, after_round, cipher}
use Rattle.mc_keys.specs.Keys.{mc_ke_key, mc_key}
use Rattle.mc_keys.specs.WorkedKeys.{worked_gen_app_key, worked_root_1_1, worked_key}
use Rattle.mc_keys.specs.declared.root_kind.RootKind.TheVariants.{V11}
use Rattle.mc_keys.proofs.WorkedKeys.{keys}
use Rattle.mc_group.specs.Groups.{group_of}
use Rattle.device_core.specs.WorkedSteps.{worked_wrapped_1_1}

abbrev worked_kek_1_1 : List ℕ
worked_kek_1_1 = 0x0f ∷ 0xc4 ∷ 0x3a ∷ 0x2a ∷ 0x45 ∷ 0xfd ∷ 0xb7 ∷ 0x53 ∷ 0xdd ∷ 0x06 ∷ 0x52 ∷ 0x70 ∷ 0xb5 ∷ 0x0a ∷ 0xb9 ∷ 0xf2 ∷ []

kek : mc_ke_key worked_root_1_1 ≡ worked_kek_1_1
unfolding xtime sum_of_products times inverse affine_bit sub_byte sub_bytes shift_rows mixed mix_columns add_round_key next_words words_from after_round cipher
kek = refl

unwrapped : mc_key worked_kek_1_1 worked_wrapped_1_1 ≡ worked_key
unfolding xtime sum_of_products times inverse affine_bit sub_byte sub_bytes shift_rows mixed mix_columns add_round_key next_words words_from after_round cipher
unwrapped = refl

pub setup_1_1 : group_of worked_gen_app_key V11 0x11223344 worked_wrapped_1_1 3 10
    ≡ record { addr = 0x11223344; key = worked_key; min = 3; max = 10 }
setup_1_1 = rw (keys.of_1_1, kek, unwrapped) refl
