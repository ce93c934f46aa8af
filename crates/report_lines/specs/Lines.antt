-- How the lines of a file are read and taken, one after another, and the text of the file (this project's profile).
use Rattle.std.specs.Prelude.{◌≡◌, ℕ, ◌+◌, List, [], ◌∷◌, Option, Some, Result, Ok, Err}
use Rattle.report_lines.specs.declared.faults.LineWhy.{LineWhy}
use Rattle.report_lines.specs.declared.faults.LineFault.{LineFault}
use Rattle.report_lines.specs.declared.faults.LineError.{LineError}
use Rattle.report_lines.specs.declared.faults.LineError.TheVariants as error

-- ---- line by line

-- what a line says that comes after so many, or the first cause for which it is refused
abbrev pub LineReading : Type 0 → Type 0
LineReading P = ℕ → (line : List ℕ) → Result P LineWhy

-- what the line with a number says takes one state to a next
abbrev pub Step : (P S : Type 0) → Type 1
Step P S = ℕ → P → S → S → Type 0

-- what a line says takes the state to a next, and so on; or the line is refused
abbrev pub BehindLine : {S P : Type 0} → Step P S → ℕ → S → Result P LineWhy → (S → Result S LineFault → Type 0) → Result S LineFault → Type 0
BehindLine Takes lines state (Err cause) goes_on outcome = outcome ≡ Err (record { line = lines + 1; why = cause })
BehindLine {S} Takes lines state (Ok said) goes_on outcome = (next : S) × Takes (lines + 1) said state next × goes_on next outcome

-- after so many lines the state is this one: where the others lead, the last state or the first refused line
unfoldable pub TakesLines : {P S : Type 0} → LineReading P → Step P S → ℕ → S → List (List ℕ) → Result S LineFault → Type 0
TakesLines reading Takes lines state [] outcome = outcome ≡ Ok state
TakesLines reading Takes lines state (line ∷ rest) outcome =
    BehindLine Takes lines state (reading lines line) (λ next. TakesLines reading Takes (lines + 1) next rest) outcome

-- ---- the text of a file

-- a file's text, or its first refused line
abbrev pub FileText : Type 1
FileText = (file : List ℕ) → Result (List ℕ) LineFault → Type 0

-- the text of the last state, or the first refused line
abbrev pub text_at_end : {S : Type 0} → (S → List ℕ) → Result S LineFault → Result (List ℕ) LineFault
text_at_end text (Ok state) = Ok (text state)
text_at_end text (Err fault) = Err fault

-- no file has two texts
abbrev pub HasOneText : FileText → Type 0
HasOneText Tells = (file : List ℕ) (one other : Result (List ℕ) LineFault) → Tells file one → Tells file other → one ≡ other

-- and each file has one, or its first refused line
abbrev pub HasAText : FileText → Type 0
HasAText Tells = (file : List ℕ) → (said : Result (List ℕ) LineFault) × Tells file said

-- what was computed is a file's text or its first refused line, or memory was missing
abbrev pub IsFileText : FileText → (file : List ℕ) → Result (List ℕ) LineError → Type 0
IsFileText Tells file (Ok text) = Tells file (Ok text)
IsFileText Tells file (Err (error.Line fault)) = Tells file (Err fault)
IsFileText Tells file (Err error.Memory) = Unit {0}

-- ---- as it is computed

-- a line that comes after so many is refused, or memory was missing
abbrev pub IsLineRefused : {P : Type 0} → LineReading P → ℕ → (line : List ℕ) → LineError → Type 0
IsLineRefused reading lines line (error.Line fault) = (reading lines line ≡ Err fault.why) × (fault.line ≡ lines + 1)
IsLineRefused reading lines line error.Memory = Unit {0}

-- after a fault each call answers with it
abbrev pub StaysRefused : {A : Type 0} → Option LineError → Result A LineError → Type 0
StaysRefused kept result = (e : LineError) → kept ≡ Some e → result ≡ Err e
