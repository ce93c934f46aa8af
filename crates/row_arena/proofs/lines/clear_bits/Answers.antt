use Rattle.std.proofs.Common.{◌≡◌, ℕ, length, replicate, get_or, ap, ◌∙◌, arith}
use Rattle.std.proofs.lemmas.List.{length-replicate, get_or-replicate}
use Rattle.row_arena.proofs.Bits.{none_set}
use Rattle.row_arena.proofs.lines.clear_bits.Goals as goal

pub returns : goal.returns
returns c =
    let n = length c.args.words.now in
    let all : c.fill.new.self ≡ replicate n 0 = c.fill.ensures.after (λ y e. e) in
    none_set c.fill.new.self (λ i lt. ap (λ l. get_or l i 0) all ∙ get_or-replicate n i 0 0 (omega (arith, ap length all, length-replicate {A = ℕ} n 0)))
