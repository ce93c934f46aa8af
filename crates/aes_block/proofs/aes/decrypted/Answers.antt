use Rattle.std.proofs.Common.{◌≡◌, ℕ, ◌-◌, ◌∙◌, subst, arith}
use Rattle.aes_block.specs.CipherInside.{state_of_words}
use Rattle.aes_block.proofs.Rounds.{finished, last_undone, round_undone, all_undone}
use Rattle.aes_block.proofs.WordBytes.{state_of_words-block}
use Rattle.aes_block.proofs.aes.decrypted.Goals as goal

pub loop-round-init : goal.loop-round-init
loop-round-init c = (
  last_undone c.args.key.now c.args.round_keys.now c.args.block.now (state_of_words c.undo_add_round_key-last.result) (state_of_words c.undo_last_round-state.result)
      c.requires (c.undo_add_round_key-last.ensures ∙ c.from_block.ensures) c.undo_last_round-state.ensures,
  omega arith,
)

pub loop-round-preserved : goal.loop-round-preserved
loop-round-preserved c =
    let rounds : 10 - c.loop-round.round ≡ 9 - (c.loop-round.round - 1) = omega arith in
    let so_far = subst (λ (k : ℕ). finished c.args.key.now k (state_of_words c.loop-round.state) ≡ c.args.block.now) rounds c.loop-round.invariant.0 in (
      round_undone c.args.key.now c.args.round_keys.now c.args.block.now _ (state_of_words c.undo_add_round_key-mixed.result) (state_of_words c.undo_mix_columns.result) (state_of_words c.undo_last_round-state-in-loop-round.result)
          (c.loop-round.round - 1) c.requires (omega arith) (omega arith) so_far
          c.undo_add_round_key-mixed.ensures c.undo_mix_columns.ensures c.undo_last_round-state-in-loop-round.ensures,
      omega arith,
    )

pub returns-clause-found : goal.returns-clause-found
returns-clause-found c =
    let rounds : 10 - c.loop-round.round ≡ 9 = omega arith in
    let so_far = subst (λ (k : ℕ). finished c.args.key.now k (state_of_words c.loop-round.state) ≡ c.args.block.now) rounds c.loop-round.invariant.0 in
    rw c.to_block.ensures (all_undone c.args.key.now c.args.round_keys.now c.args.block.now _ (state_of_words c.undo_add_round_key.result) c.requires so_far c.undo_add_round_key.ensures)

pub returns-clause-block : goal.returns-clause-block
returns-clause-block c = rw c.to_block.ensures (state_of_words-block c.undo_add_round_key.result)
