use Rattle.script_lines.proofs.WorkedRanges.{ranges, limits}
use Rattle.script_lines.proofs.laws.worked_ranges.Goals as goal

pub returns-clause-ranges : goal.returns-clause-ranges
returns-clause-ranges c = ranges

pub returns-clause-limits : goal.returns-clause-limits
returns-clause-limits c = limits
