-- Lines worked out.
use Rattle.std.specs.Fmt.{digits}
use Rattle.hex.specs.Hex.{encode_with}
use Rattle.report_lines.specs.WorkedLines.{AreLines}

pub lines_are : AreLines
unfolding digits encode_with
lines_are = search
