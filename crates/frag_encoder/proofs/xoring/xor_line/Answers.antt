use Rattle.std.proofs.Common.{◌≤◌, ◌-◌, ◌*◌, ℕ, length, get_or, sym, ap, ◌∙◌, arith}
use Rattle.frag_model.specs.Fragments.{xor_bytes, xor_all, pieces_at}
use Rattle.frag_encoder.specs.Encoding.{pieces_of}
use Rattle.frag_encoder.proofs.Counting.{word_counted, line_counted}
use Rattle.frag_encoder.proofs.Summing.{line_begins, line_more, line_done, word_below, bytes_left}
use Rattle.frag_encoder.proofs.xoring.xor_line.Goals as goal

pub loop-k-init : goal.loop-k-init
loop-k-init g c = record {
  summed = line_begins (length c.args.sum.now) c.args.columns c.args.line.now c.args.bytes.now c.args.sum.now c.requires.line;
  counted = omega arith;
}

pub xor_word-requires-clause-word : goal.xor_word-requires-clause-word
xor_word-requires-clause-word g c = word_below _ _ _ _ _ _ _ c.loop-k-test.true c.loop-k.invariant.summed

pub xor_word-requires-clause-bytes : goal.xor_word-requires-clause-bytes
xor_word-requires-clause-bytes g c =
    let column : ℕ = 64 * c.loop-k.k in
    let inside : column ≤ c.args.columns = omega (arith, c.requires.words, c.loop-k-test.true) in
    bytes_left (length c.args.sum.now) column c.args.columns c.args.bytes.now c.pieces_from.result.now inside c.requires.bytes c.pieces_from.ensures
    ∙ ap (λ s. (c.args.columns - column) * s) (sym c.loop-k.auto.sum)

pub loop-k-preserved : goal.loop-k-preserved
loop-k-preserved g c =
    let word : ℕ = get_or c.args.line.now c.loop-k.k 0 in
    let next = c.xor_word.ensures.sum
    ∙ ap (λ s. xor_bytes c.loop-k.sum (xor_all s (pieces_at word (pieces_of (c.args.columns - 64 * c.loop-k.k) s c.pieces_from.result.now)))) c.loop-k.auto.sum in
    record {
      summed = line_more (length c.args.sum.now) c.loop-k.k c.args.columns c.args.line.now c.args.bytes.now c.loop-k.sum c.xor_word.new.sum c.pieces_from.result.now _
          c.loop-k-test.true c.requires.words (omega (arith, c.type_inv.line c.loop-k.k)) c.requires.bytes c.pieces_from.ensures next c.loop-k.invariant.summed;
      counted = omega (
        arith,
        c.loop-k.invariant.counted,
        c.xor_word.ensures.count,
        word_counted c.args.line.now c.loop-k.k c.loop-k-test.true (omega (arith, c.type_inv.line c.loop-k.k)),
      );
    }

pub returns-clause-count : goal.returns-clause-count
returns-clause-count g c =
    omega (arith, c.loop-k.invariant.counted, line_counted c.args.line.now c.loop-k.k (omega (arith, c.loop-k-test.false)))

pub returns-clause-sum : goal.returns-clause-sum
returns-clause-sum g c = line_done _ _ _ _ _ _ _ (omega (arith, c.loop-k-test.false)) c.loop-k.auto.sum c.loop-k.invariant.summed
