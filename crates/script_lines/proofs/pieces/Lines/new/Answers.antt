use Rattle.std.proofs.Common.{refl}
use Rattle.script_lines.proofs.CutLines.{open_fresh}
use Rattle.script_lines.proofs.pieces.Lines.new.Goals as goal

pub returns : goal.returns
returns c = rw (open_fresh, c.new.ensures) refl
