-- A whole script of two campaigns: what it makes of them, or the first refused line with its first cause (this project's
-- profile).
use Rattle.std.specs.Prelude.{ℕ, ◌+◌, ◌&&◌, Bool, if◌then◌else◌, List, [], ◌∷◌, Option, Some, None, Result, Ok, Err}
use Rattle.script_lines.specs.declared.forms.PairForm.{PairForm}
use Rattle.script_lines.specs.Lines.{lines_of}
use Rattle.script_lines.specs.PairForms.{pair_form_of}
use Rattle.report_lines.specs.declared.faults.LineWhy.{LineWhy}
use Rattle.report_lines.specs.declared.faults.LineWhy.TheVariants as why
use Rattle.report_lines.specs.declared.faults.LineFault.{LineFault}
use Rattle.campaign_world.specs.Causes.{has_ended}
use Rattle.pair_run.specs.Pair.{PairState, first_pair}
use Rattle.pair_run.specs.PairCauses.{pair_cause_of, target_in}
use Rattle.pair_run.specs.PairMaking.{after_target}

abbrev pub after_pair_form : PairState → Option PairForm → PairState
after_pair_form pair None = pair
after_pair_form pair (Some pair_form) = after_target pair (target_in pair pair_form)

unfoldable pub after_pair_line : PairState → (line : List ℕ) → PairState
after_pair_line pair line = after_pair_form pair (pair_form_of line)

-- both after the next line, or that line's fault
abbrev pub pair_line_result : PairState → (line : List ℕ) → Option LineWhy → Result PairState LineFault
pair_line_result pair line None = Ok (after_pair_line pair line)
pair_line_result pair line (Some cause) = Err (record { line = pair.a.lines + 1; why = cause })

-- both after a line, or the line's fault
unfoldable pub read_pair_line : PairState → (line : List ℕ) → Result PairState LineFault
read_pair_line pair line = pair_line_result pair line (pair_cause_of pair line)

-- both after all lines, or the fault of the first that is refused
unfoldable pub read_pair_lines : Result PairState LineFault → List (List ℕ) → Result PairState LineFault
read_pair_lines (Err fault) lines = Err fault
read_pair_lines (Ok pair) [] = Ok pair
read_pair_lines (Ok pair) (line ∷ lines) = read_pair_lines (read_pair_line pair line) lines

-- without `end`, which both take, the line after the last is missing
abbrev pub pair_has_ended : PairState → Bool
pair_has_ended pair = has_ended pair.a.section && has_ended pair.b.section

-- whether both ended; the next line is the one that is missing
abbrev pub pair_end : Result PairState LineFault → Result PairState LineFault
pair_end (Err fault) = Err fault
pair_end (Ok pair) =
    if pair_has_ended pair then Ok pair else Err (record { line = pair.a.lines + 1; why = why.Syntax })

-- the two campaigns that their images and the lines define
unfoldable pub campaigns_of : (image_a image_b : List ℕ) → (lines : List (List ℕ)) → Result PairState LineFault
campaigns_of image_a image_b lines = pair_end (read_pair_lines (Ok (first_pair image_a image_b)) lines)

-- those that a script tells
abbrev pub campaigns_in : (image_a image_b script : List ℕ) → Result PairState LineFault
campaigns_in image_a image_b script = campaigns_of image_a image_b (lines_of script)
