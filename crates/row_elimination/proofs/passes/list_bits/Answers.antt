use Rattle.std.proofs.Common.{take, ap, ◌∙◌}
use Rattle.row_arena.specs.Rows.{line_in}
use Rattle.row_arena.specs.Sums.{after_flips}
use Rattle.row_elimination.proofs.Lines.{listed}
use Rattle.row_elimination.proofs.passes.list_bits.Goals as goal

pub returns-clause-listed : goal.returns-clause-listed
returns-clause-listed c =
    listed (line_in c.args.line.now) (line_in c.pick.new.line) c.pick.result c.pick.new.picks
    (c.pick.ensures.line ∙ ap (λ l. after_flips (line_in l) (take c.pick.result c.pick.new.picks)) c.copy_from_slice.ensures.after)
    c.pick.ensures.none c.pick.ensures.known
