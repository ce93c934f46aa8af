use Rattle.std.proofs.lemmas.Nat.{and_mask}
use Rattle.aes_block.specs.CipherInside.{byte_of}
use Rattle.aes_block.proofs.words.byte.Goals as goal

pub returns : goal.returns
unfolding byte_of
returns c = and_mask _ 8
