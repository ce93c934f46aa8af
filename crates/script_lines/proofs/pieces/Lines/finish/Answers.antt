use Rattle.std.proofs.Common.{sym}
use Rattle.script_lines.proofs.CutLines.{ends, told, stands_fresh}
use Rattle.script_lines.proofs.pieces.Lines.finish.Goals as goal

pub returns-clause-lines : goal.returns-clause-lines
returns-clause-lines c =
    ends c.args.self.now c.self.inside.held.items c.open.new.held.items c.self.inside.ended _ (sym c.self.view_is) c.open.ensures.open (told c.open.new.held.items c.is_empty.result c.is_empty.ensures)

pub returns-clause-again : goal.returns-clause-again
returns-clause-again c = stands_fresh c.open.new.held.items _ (told c.open.new.held.items c.is_empty.result c.is_empty.ensures).1
