use Rattle.std.proofs.Common.{◌≡◌, ◌/◌, ◌%◌, ◌^◌, ◌<◌, set, get_or, bit_xor, subst, sym, arith}
use Rattle.std.proofs.lemmas.Nat.{one_shl}
use Rattle.row_arena.specs.Rows.{line_in}
use Rattle.row_arena.proofs.Flips.{line_flipped}
use Rattle.row_arena.proofs.lines.flip_bit.Goals as goal

pub returns : goal.returns
returns c =
    let words = c.args.words.now in
    let i = c.args.c / 64 in
    let t = c.args.c % 64 in
    let lt : t < 64 = omega arith in
    subst (λ b. line_in (set words i (bit_xor (get_or words i 0) b)) ≡ bit_xor (line_in words) (2 ^ c.args.c)) (sym (one_shl t 64 lt))
    (line_flipped words i t c.args.c (omega arith) lt (omega arith) (λ k. grind arith))
