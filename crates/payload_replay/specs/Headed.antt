-- Files of lines after a header: a keyword, 1 and the coded fragments that a session holds. (This project's profile.)
use Rattle.std.specs.Prelude.{◌≡◌, ℕ, ◌&&◌, ◌==◌, nat_lt, nat_le, if◌then◌else◌, List, [], ◌∷◌, length, codes, Option, Some, None, Result, Ok, Err}
use Rattle.device_core.specs.Device.{max_rows}
use Rattle.script_lines.specs.Limits.{max_line}
use Rattle.script_lines.specs.Lines.{word, is_word}
use Rattle.script_lines.specs.Numbers.{decimal_of}
use Rattle.script_lines.specs.Forms.{count_of}
use Rattle.report_lines.specs.declared.faults.LineWhy.{LineWhy}
use Rattle.report_lines.specs.declared.faults.LineWhy.TheVariants as why
use Rattle.report_lines.specs.declared.faults.LineFault.{LineFault}
use Rattle.report_lines.specs.Lines.{LineReading, Step, TakesLines}

-- ---- the header

-- the rows of a header, at most as many as a device keeps
abbrev pub rows_by : Option ℕ → Result ℕ LineWhy
rows_by None = Err why.Syntax
rows_by (Some rows) = if nat_le rows max_rows then Ok rows else Err why.Range

-- the rows that a header with this keyword gives, or the first cause for which it is refused
unfoldable pub rows_of : (keyword line : List ℕ) → Result ℕ LineWhy
rows_of keyword line =
    if nat_lt max_line (length line) then Err why.Limit
    else if count_of line == 3 && is_word line 0 keyword && is_word line 1 (codes "1")
    then rows_by (decimal_of (word line 2))
    else Err why.Syntax

-- ---- the lines after it

-- the rows make the first state, which the lines after the header take on; or the header is refused
abbrev pub TakesBehind : {P S : Type 0} → LineReading P → Step P S → (first : ℕ → S) → Result ℕ LineWhy
    → List (List ℕ) → Result S LineFault → Type 0
TakesBehind reading Takes first (Err cause) lines outcome = outcome ≡ Err (record { line = 1; why = cause })
TakesBehind reading Takes first (Ok rows) lines outcome = TakesLines reading Takes 1 (first rows) lines outcome

-- the state after all lines, or the first refused line
unfoldable pub TakesFile : {P S : Type 0} → (keyword : List ℕ) → LineReading P → Step P S → (first : ℕ → S)
    → List (List ℕ) → Result S LineFault → Type 0
TakesFile keyword reading Takes first [] outcome = outcome ≡ Err (record { line = 1; why = why.Syntax })
TakesFile keyword reading Takes first (header ∷ lines) outcome =
    TakesBehind reading Takes first (rows_of keyword header) lines outcome
