-- The text of `decode` for a file of payloads, one a line. (This project's profile.)
use Rattle.std.specs.Prelude.{◌≡◌, ℕ, List, [], ◌∷◌, ◌++◌, codes, Result, Ok, Err}
use Rattle.std.specs.Fmt.{decimal}
use Rattle.wire_base.specs.declared.refusal.Direction.{Direction}
use Rattle.wire_base.specs.declared.refusal.Refusal.{Refusal}
use Rattle.wire_base.specs.declared.refusal.Why.{Why}
use Rattle.wire_base.specs.declared.refusal.Why.TheVariants as stop
use Rattle.package_grammar.specs.declared.command.Command.{Command}
use Rattle.package_grammar.specs.Reading.{Reading, reading_of}
use Rattle.package_grammar.specs.Texts.{text_of}
use Rattle.report_lines.specs.declared.faults.LineFault.{LineFault}
use Rattle.script_lines.specs.Lines.{lines_of}
use Rattle.payload_replay.specs.PayloadLines.{payload_of}
use Rattle.report_lines.specs.Lines.{TakesLines, text_at_end, HasOneText, HasAText}

-- ---- the text of a payload

-- each command on a line of its own
unfoldable pub commands_text : List Command → List ℕ
commands_text [] = []
commands_text (c ∷ cs) = text_of c ++ (codes "\n" ++ commands_text cs)

abbrev pub stop_word : Why → List ℕ
stop_word stop.Port = codes "port"
stop_word stop.UnknownCommand = codes "unknown"
stop_word stop.Short = codes "short"
stop_word stop.TooLong = codes "long"

-- where and why reading stops
abbrev pub stop_text : Refusal → List ℕ
stop_text refusal = codes "refused " ++ decimal refusal.at ++ (codes " " ++ stop_word refusal.why ++ codes "\n")

-- the text of what a payload says: all its commands, or where and why reading it stops
abbrev pub payload_text : Reading → List ℕ
payload_text (Ok commands) = commands_text commands
payload_text (Err refusal) = stop_text refusal

-- ---- the text of a file

-- the number of a line, and then its payload's text
abbrev pub numbered_text : ℕ → List ℕ → List ℕ
numbered_text n shown = codes "line " ++ (decimal n ++ (codes "\n" ++ shown))

-- the line's number and its payload's text go after what is written so far
abbrev pub Writes : ℕ → Direction → ℕ → List ℕ → List ℕ → List ℕ → Type 0
Writes port direction n payload text next = next ≡ text ++ numbered_text n (payload_text (reading_of port direction payload))

-- the answer for a file: the whole text, or the first refused line
unfoldable pub Decodes : ℕ → Direction → List ℕ → Result (List ℕ) LineFault → Type 0
Decodes port direction file answer =
    (outcome : Result (List ℕ) LineFault) × TakesLines payload_of (Writes port direction) 0 [] (lines_of file) outcome
    × (answer ≡ text_at_end (λ text. text ++ codes "end\n") outcome)

-- no file is decoded in two ways
abbrev pub HasOneAnswer : Type 0
HasOneAnswer = (port : ℕ) (direction : Direction) → HasOneText (Decodes port direction)

-- and each in one
abbrev pub HasAnAnswer : Type 0
HasAnAnswer = (port : ℕ) (direction : Direction) → HasAText (Decodes port direction)
