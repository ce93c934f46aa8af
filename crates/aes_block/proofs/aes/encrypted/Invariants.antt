use Rattle.std.proofs.Common.{◌≡◌, ◌-◌}
use Rattle.aes_block.specs.Cipher.{after_round}
use Rattle.aes_block.specs.CipherInside.{state_of_words}
use Rattle.aes_block.proofs.aes.encrypted.Given as goal

abbrev pub invariant-loop-round : goal.invariant-loop-round
invariant-loop-round l = state_of_words l.state ≡ after_round l.key l.block (l.round - 1)
