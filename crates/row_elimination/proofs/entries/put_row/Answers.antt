use Rattle.row_arena.specs.Rows.{line_in}
use Rattle.row_elimination.proofs.Placing.{row_put}
use Rattle.row_elimination.proofs.Storing.{with_shape}
use Rattle.row_elimination.proofs.entries.put_row.Goals as goal

pub returns-clause-places : goal.returns-clause-places
returns-clause-places g c = λ size area.
    rw c.new.ensures (row_put size area c.args.arena.now c.set_row.new.self c.args.columns.now c.args.slot c.args.p (record { line = line_in c.args.line.now; part = c.args.part.now }) c.requires.inside c.requires.slot
    c.set_row.ensures c.requires.alone)

pub returns-clause-shape : goal.returns-clause-shape
returns-clause-shape g c =
    with_shape c.args.arena.now c.set_row.new.self c.args.slot (record { line = line_in c.args.line.now; part = c.args.part.now }) c.set_row.ensures
