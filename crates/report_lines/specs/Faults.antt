-- What is said of a refused line (this project's profile).
use Rattle.std.specs.Prelude.{ℕ, List, ◌++◌, codes}
use Rattle.std.specs.Fmt.{decimal}
use Rattle.report_lines.specs.declared.faults.LineWhy.{LineWhy}
use Rattle.report_lines.specs.declared.faults.LineWhy.TheVariants as why
use Rattle.report_lines.specs.declared.faults.LineFault.{LineFault}

abbrev pub why_word : LineWhy → List ℕ
why_word why.Limit = codes "limit"
why_word why.Syntax = codes "syntax"
why_word why.Order = codes "order"
why_word why.Range = codes "range"
why_word why.Device = codes "device"
why_word why.Unsent = codes "unsent"
why_word why.Time = codes "time"

-- line K WHY
abbrev pub fault_line : LineFault → List ℕ
fault_line fault = codes "line " ++ decimal fault.line ++ (codes " " ++ why_word fault.why ++ codes "\n")
