use Rattle.std.proofs.Common.{◌^◌, bit_xor, ap, ◌∙◌}
use Rattle.std.specs.Int.Bits.{xor_zero_l}
use Rattle.row_elimination.proofs.drawing.mark_piece.Goals as goal

pub returns : goal.returns
returns c = c.flip_bit.ensures ∙ ap (λ n. bit_xor n (2 ^ c.args.c)) c.clear_bits.ensures ∙ xor_zero_l (2 ^ c.args.c)
