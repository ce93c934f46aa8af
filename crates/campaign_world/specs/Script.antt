-- A whole script: its campaign, or the first refused line with its first cause (this project's profile).
use Rattle.std.specs.Prelude.{ℕ, ◌+◌, List, [], ◌∷◌, Option, Some, None, Result, Ok, Err}
use Rattle.report_lines.specs.declared.faults.LineWhy.{LineWhy}
use Rattle.report_lines.specs.declared.faults.LineWhy.TheVariants as why
use Rattle.report_lines.specs.declared.faults.LineFault.{LineFault}
use Rattle.campaign_world.specs.declared.section.Section.{Section}
use Rattle.campaign_world.specs.declared.section.Section.TheVariants as section
use Rattle.campaign_world.specs.World.{WorldState, first_world}
use Rattle.campaign_world.specs.Causes.{cause_of}
use Rattle.campaign_world.specs.Said.{Line}
use Rattle.campaign_world.specs.Making.{after_said}

-- the campaign after a line that is not refused
abbrev pub one_line_more : WorldState → WorldState
one_line_more world = record world { lines = world.lines + 1 }

abbrev pub after_line : WorldState → Line → WorldState
after_line world (Err cause) = world
after_line world (Ok said) = one_line_more (after_said world said)

-- the campaign after the next line, or that line's fault
abbrev pub line_result : WorldState → Line → Option LineWhy → Result WorldState LineFault
line_result world line None = Ok (after_line world line)
line_result world line (Some cause) = Err (record { line = world.lines + 1; why = cause })

-- the campaign after a line, or the line's fault
unfoldable pub read_line : WorldState → Line → Result WorldState LineFault
read_line world line = line_result world line (cause_of world line)

-- the campaign after all lines, or the fault of the first that is refused
unfoldable pub read_lines : Result WorldState LineFault → List Line → Result WorldState LineFault
read_lines (Err fault) lines = Err fault
read_lines (Ok world) [] = Ok world
read_lines (Ok world) (line ∷ lines) = read_lines (read_line world line) lines

-- without `end` the line after the last is missing
abbrev pub end_result_at : Section → WorldState → Result WorldState LineFault
end_result_at section.Ended world = Ok world
end_result_at other world = Err (record { line = world.lines + 1; why = why.Syntax })

-- whether it ended, where no line was refused
abbrev pub end_result : Result WorldState LineFault → Result WorldState LineFault
end_result (Err fault) = Err fault
end_result (Ok world) = end_result_at world.section world

-- the campaign that an image and lines define
unfoldable pub campaign_of : (image : List ℕ) → List Line → Result WorldState LineFault
campaign_of image lines = end_result (read_lines (Ok (first_world image)) lines)
