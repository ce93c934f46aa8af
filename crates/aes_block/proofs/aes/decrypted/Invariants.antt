use Rattle.std.proofs.Common.{◌≡◌, ◌-◌, ◌≤◌}
use Rattle.aes_block.specs.CipherInside.{state_of_words}
use Rattle.aes_block.proofs.Rounds.{finished}
use Rattle.aes_block.proofs.aes.decrypted.Given as goal

abbrev pub invariant-loop-round : goal.invariant-loop-round
invariant-loop-round l = (finished l.key (10 - l.round) (state_of_words l.state) ≡ l.block) × (1 ≤ l.round)
