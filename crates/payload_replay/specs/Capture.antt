-- The text of `capture` for a file of JSON lines: each payload in words, and then the sessions of a device that hears those that
-- go down on port 201. (TS004-1.0.0 on port 201; the rest is this project's profile.)
use Rattle.std.specs.Prelude.{◌≡◌, ℕ, Bool, true, false, ◌&&◌, ◌==◌, if◌then◌else◌, List, [], ◌++◌, codes, Result, Ok, Err}
use Rattle.std.specs.Fmt.{decimal}
use Rattle.wire_base.specs.declared.refusal.Direction.{Direction}
use Rattle.wire_base.specs.declared.refusal.Direction.TheVariants.{Down, Up}
use Rattle.package_grammar.specs.Reading.{reading_of}
use Rattle.device_core.specs.Device.{DeviceState}
use Rattle.capture_read.specs.declared.answers.Entry.{Entry}
use Rattle.capture_read.specs.declared.answers.EntryFault.{EntryFault}
use Rattle.capture_read.specs.declared.answers.EntryFault.TheVariants as fault
use Rattle.capture_read.specs.Entries.{entry_of}
use Rattle.report_lines.specs.declared.faults.LineWhy.{LineWhy}
use Rattle.report_lines.specs.declared.faults.LineWhy.TheVariants as why
use Rattle.report_lines.specs.declared.faults.LineFault.{LineFault}
use Rattle.script_lines.specs.Lines.{lines_of}
use Rattle.report_lines.specs.Devices.{◌⧺◌}
use Rattle.report_lines.specs.Lines.{text_at_end, HasOneText, HasAText}
use Rattle.payload_replay.specs.PayloadLines.{is_beyond}
use Rattle.payload_replay.specs.Headed.{TakesFile}
use Rattle.payload_replay.specs.Decode.{payload_text}
use Rattle.payload_replay.specs.Replay.{replay_device, after_payload, closing_text}

-- ---- the lines

abbrev pub cause_of : EntryFault → LineWhy
cause_of fault.Syntax = why.Syntax
cause_of fault.Range = why.Range
cause_of fault.Limit = why.Limit

-- a line's fault as the cause for which it is refused
abbrev pub entry_by : Result Entry EntryFault → Result Entry LineWhy
entry_by (Ok item) = Ok item
entry_by (Err cause) = Err (cause_of cause)

-- the entry of a line that comes after so many, or the first cause for which the line is refused
unfoldable pub line_entry : ℕ → List ℕ → Result Entry LineWhy
line_entry lines line = if is_beyond lines line then Err why.Limit else entry_by (entry_of line)

-- ---- what an entry does

abbrev pub direction_word : Direction → List ℕ
direction_word Down = codes "down"
direction_word Up = codes "up"

-- line K PORT DIR
abbrev pub entry_line : (number port : ℕ) → Direction → List ℕ
entry_line number port dir =
    codes "line " ⧺ decimal number ⧺ codes " " ⧺ decimal port ⧺ codes " " ⧺ direction_word dir ⧺ codes "\n"

-- that line, and what is decoded of the payload
abbrev pub entry_text : (number : ℕ) → Entry → List ℕ
entry_text number item =
    entry_line number item.port item.dir ++ payload_text (reading_of item.port item.dir item.payload)

abbrev pub is_down : Direction → Bool
is_down Down = true
is_down Up = false

-- the device hears what goes down on port 201
abbrev pub is_heard : Entry → Bool
is_heard item = item.port == 201 && is_down item.dir

-- after some lines: what is written of them, and the device
pub record Caught : Type 0 where
  pub text : List ℕ
  pub device : DeviceState

-- how the entry of the line with a number changes the device; the number is its mark
unfoldable pub after_entry : (number : ℕ) → Entry → DeviceState → DeviceState
after_entry number item device = if is_heard item then after_payload number item.payload device else device

-- an entry's text goes after what is written so far, and the device hears it or stays as it is
abbrev pub caught_next : (number : ℕ) → Entry → Caught → Caught
caught_next number item all =
    record { text = all.text ++ entry_text number item; device = after_entry number item all.device }

abbrev pub Catches : ℕ → Entry → Caught → Caught → Type 0
Catches number item all next = next ≡ caught_next number item all

-- before the first entry
abbrev pub first_caught : (rows : ℕ) → Caught
first_caught rows = record { text = []; device = replay_device rows }

-- what is caught after all lines, or the first refused line
abbrev pub CatchesAll : List (List ℕ) → Result Caught LineFault → Type 0
CatchesAll lines outcome = TakesFile (codes "capture") line_entry Catches (λ rows. first_caught rows) lines outcome

-- ---- the text

-- from the counts on it is the text of a replay
unfoldable pub capture_text : Caught → List ℕ
capture_text all = codes "fuota capture 1\n" ++ (all.text ++ closing_text all.device)

-- the answer for a file: the text, or the first refused line
unfoldable pub Captures : List ℕ → Result (List ℕ) LineFault → Type 0
Captures file answer =
    (outcome : Result Caught LineFault) × CatchesAll (lines_of file) outcome
    × (answer ≡ text_at_end (λ all. capture_text all) outcome)

-- no file has two answers
abbrev pub CapturesOnce : Type 0
CapturesOnce = HasOneText Captures

-- and each has one
abbrev pub CapturesAlways : Type 0
CapturesAlways = HasAText Captures
