use Rattle.std.proofs.Common.{ℕ, take, bit_xor, ◌^◌, ap, ◌∙◌, arith, length-take-le}
use Rattle.row_arena.specs.Rows.{line_in, words_for}
use Rattle.row_elimination.proofs.Adding.{written_first}
use Rattle.row_elimination.proofs.Gridding.{width_holds}
use Rattle.row_elimination.proofs.tables.filling.mark.Goals as goal

pub flip_bit-requires : goal.flip_bit-requires
flip_bit-requires c =
    omega (arith, c.requires.inside, c.requires.words, c.words_for.ensures.value, width_holds c.args.cols, length-take-le c.words_for.result c.args.known.now (omega (arith, c.requires.words, c.words_for.ensures.value)))

pub returns : goal.returns
returns c =
    ap line_in (written_first (words_for c.args.cols) c.words_for.result c.flip_bit.new.words c.args.known.now c.words_for.ensures.value (omega (arith, c.requires.words, c.words_for.ensures.value)) c.flip_bit.auto.words)
    ∙ c.flip_bit.ensures ∙ ap (λ (n : ℕ). bit_xor (line_in (take n c.args.known.now)) (2 ^ c.args.k)) c.words_for.ensures.value
