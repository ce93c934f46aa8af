use Rattle.std.proofs.Common.{◌≡◌, ℕ, ◌≤◌, ◌++◌, List, replicate, take, ap₂, ◌∙◌, arith}
use Rattle.std.proofs.lemmas.List.{take-replicate, replicate-append-replicate}
use Rattle.row_arena.proofs.arena.zero_words.Goals as goal

pub loop-done-preserved : goal.loop-done-preserved
loop-done-preserved g c =
    let some : ℕ = c.min-count.result in
    let few : some ≤ 32 = omega arith in
    let more : take some (replicate {A = ℕ} 32 0) ≡ replicate some 0 = take-replicate some 32 0 few in
    record {
      within = omega arith;
      zeros = (rw c.unwrap.ensures at c.try_extend_from_slice.ensures.ok) ∙ ap₂ (λ (xs ys : List ℕ). xs ++ ys) c.loop-done.invariant.zeros more ∙ replicate-append-replicate c.loop-done.done some 0;
    }
