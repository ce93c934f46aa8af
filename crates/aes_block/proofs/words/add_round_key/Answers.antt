use Rattle.std.proofs.Common.{refl}
use Rattle.aes_block.proofs.WordBytes.{added_words, each_of_4}
use Rattle.aes_block.specs.CipherInside.{words_at}
use Rattle.aes_block.proofs.words.add_round_key.Goals as goal

pub returns : goal.returns
returns c = added_words c.args.s (words_at c.args.keys.now c.args.round) _ (each_of_4 _ refl refl refl refl)
