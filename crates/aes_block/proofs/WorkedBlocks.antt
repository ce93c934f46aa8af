-- The standard's examples, by computing.
use Rattle.aes_block.specs.Field.{xtime, sum_of_products, times, inverse, affine_bit, sub_byte}
use Rattle.aes_block.specs.Cipher.{sub_bytes, shift_rows, mixed, mix_columns, add_round_key, next_words, words_from, after_round, cipher}
use Rattle.aes_block.specs.WorkedBlocks.{WorkedBlocks}

pub worked : WorkedBlocks
unfolding xtime sum_of_products times inverse affine_bit sub_byte sub_bytes shift_rows mixed mix_columns add_round_key next_words words_from after_round cipher
worked = search
