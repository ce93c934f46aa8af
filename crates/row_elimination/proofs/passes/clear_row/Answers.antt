use Rattle.std.proofs.Common.{sym, ◌∙◌}
use Rattle.row_arena.specs.Rows.{line_in}
use Rattle.row_elimination.proofs.Storing.{clears_row, clears_no_row}
use Rattle.row_elimination.proofs.passes.clear_row.Goals as goal

pub returns-then-bit-clause-cleared : goal.returns-then-bit-clause-cleared
returns-then-bit-clause-cleared g c =
    clears_row c.args.arena.now c.add_to_row.new.self c.args.slot c.args.p (line_in c.args.line.now) c.args.part.now c.requires.slot (sym c.bit.ensures ∙ c.if-bit.true) c.add_to_row.ensures

pub returns-else-bit-clause-cleared : goal.returns-else-bit-clause-cleared
returns-else-bit-clause-cleared g c =
    clears_no_row c.args.arena.now c.args.slot c.args.p (line_in c.args.line.now) c.args.part.now (sym c.bit.ensures ∙ c.if-bit.false)
