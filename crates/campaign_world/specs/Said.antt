-- What the lines of a script say to a campaign (this project's profile).
use Rattle.std.specs.Prelude.{ℕ, if◌then◌else◌, nat_lt, List, length, map, Option, Some, None, Result, Ok, Err}
use Rattle.package_grammar.specs.declared.downlink.Downlink.{Downlink}
use Rattle.script_lines.specs.declared.forms.Form.{Form}
use Rattle.script_lines.specs.Lines.{lines_of}
use Rattle.script_lines.specs.Forms.{form_of}
use Rattle.script_lines.specs.Limits.{max_line}
use Rattle.report_lines.specs.declared.faults.LineWhy.{LineWhy}
use Rattle.report_lines.specs.declared.faults.LineWhy.TheVariants as why

-- a form of the campaign's own; what concerns only another campaign; or that a payload which another campaign's server sent to
-- all reaches a device of this one
pub data Said : Type 0 where
  Own : Form → Said
  Elsewhere : Said
  Reached : (device word : ℕ) → Downlink → Said

-- what a line says, or why it says nothing
abbrev pub Line : Type 0
Line = Result Said LineWhy

-- a line of a script of one campaign
abbrev pub own : Option Form → Line
own None = Err why.Syntax
own (Some form) = Ok (Own form)

-- a line of the script of one campaign
abbrev pub line_of : (text : List ℕ) → Line
line_of text = if nat_lt max_line (length text) then Err why.Limit else own (form_of text)

-- all lines of the script of one campaign
abbrev pub said_in : (script : List ℕ) → List Line
said_in script = map line_of (lines_of script)
