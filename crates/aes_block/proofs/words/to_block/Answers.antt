use Rattle.std.proofs.Common.{refl, ◌∙◌}
use Rattle.aes_block.specs.CipherInside.{state_of_words}
use Rattle.aes_block.proofs.WordBytes.{be_bytes_are}
use Rattle.aes_block.proofs.words.to_block.Goals as goal

pub returns : goal.returns
unfolding state_of_words
returns c =
    rw (c.to_be_bytes.ensures ∙ be_bytes_are _, c.to_be_bytes-2.ensures ∙ be_bytes_are _, c.to_be_bytes-3.ensures ∙ be_bytes_are _, c.to_be_bytes-4.ensures ∙ be_bytes_are _) refl
