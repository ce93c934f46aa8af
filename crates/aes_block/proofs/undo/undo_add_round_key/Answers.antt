use Rattle.aes_block.proofs.States.{add_round_key-twice}
use Rattle.aes_block.proofs.WordBytes.{state_of_words-block}
use Rattle.aes_block.specs.CipherInside.{words_at}
use Rattle.aes_block.proofs.undo.undo_add_round_key.Goals as goal

pub returns : goal.returns
returns c = rw c.add_round_key.ensures (add_round_key-twice _ _ (state_of_words-block c.args.s) (state_of_words-block (words_at c.args.keys.now c.args.round)))
