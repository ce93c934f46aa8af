use Rattle.std.proofs.Common.{bit_xor, ap, ◌∙◌, inl, inr}
use Rattle.std.specs.Simd.Lanes.{zip2}
use Rattle.row_arena.specs.Rows.{line_in}
use Rattle.row_elimination.proofs.Storing.{takes_none, takes_row}
use Rattle.row_elimination.proofs.passes.take_row.Goals as goal

pub returns-in-Free-clause-taken : goal.returns-in-Free-clause-taken
returns-in-Free-clause-taken g c = takes_none c.args.arena.now c.args.column (line_in c.args.line.now) c.args.rest.now (inl c.in-Free.is)

pub returns-in-Piece-clause-taken : goal.returns-in-Piece-clause-taken
returns-in-Piece-clause-taken g c = takes_none c.args.arena.now c.args.column (line_in c.args.line.now) c.args.rest.now (inr c.in-Piece.is)

pub returns-in-Row-clause-taken : goal.returns-in-Row-clause-taken
returns-in-Row-clause-taken g c =
    takes_row c.args.arena.now c.args.column c.in-Row.slot (line_in c.args.line.now) c.args.rest.now _ _ c.in-Row.is
    (c.xor_words.ensures.line ∙ ap (bit_xor (line_in c.args.line.now)) c.words.ensures.line)
    (c.add_counted.ensures.sum ∙ ap (zip2 bit_xor c.args.rest.now) c.bytes.ensures.part)
