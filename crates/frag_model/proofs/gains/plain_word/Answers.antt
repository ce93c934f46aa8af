use Rattle.std.proofs.Common.{◌^◌, Bool, cond, take, bit_or, refl, sym, ap, ap₂, ◌∙◌, arith}
use Rattle.std.specs.Int.Bits.{or_zero_r}
use Rattle.frag_model.specs.Parity.{number_of}
use Rattle.frag_model.proofs.Sums.{number_of_more, one_shifted}
use Rattle.frag_model.proofs.gains.plain_word.Goals as goal
use Rattle.frag_model.proofs.gains.plain_word.Goals.{then-column, else-column}

pub loop-c-init : goal.loop-c-init
unfolding number_of
loop-c-init c = refl

pub loop-c-preserved : goal.loop-c-preserved
loop-c-preserved c =
    let more = number_of_more c.args.columns.now c.loop-c.c c.loop-c-test.true in
    elim c.if-column.branch [
      | then-column w ↦
          w.word-is ∙ ap₂ bit_or c.loop-c.invariant (one_shifted c.loop-c.c (omega (arith, c.requires)))
          ∙ sym (more ∙ ap (λ (t : Bool). bit_or (number_of (take c.loop-c.c c.args.columns.now)) (cond t (2 ^ c.loop-c.c) 0)) w.if-column.true)
      | else-column w ↦
          w.word-is ∙ c.loop-c.invariant
          ∙ sym (more ∙ ap (λ (t : Bool). bit_or (number_of (take c.loop-c.c c.args.columns.now)) (cond t (2 ^ c.loop-c.c) 0)) w.if-column.false ∙ or_zero_r (number_of (take c.loop-c.c c.args.columns.now)))
    ]
