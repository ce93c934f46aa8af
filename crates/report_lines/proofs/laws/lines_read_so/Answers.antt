use Rattle.report_lines.proofs.WorkedLines.{lines_are}
use Rattle.report_lines.proofs.laws.lines_read_so.Goals as goal

pub returns : goal.returns
returns c = lines_are
