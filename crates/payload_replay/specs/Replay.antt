-- The text of `replay` for a file of captured payloads: a device hears them, and then the text shows its sessions. (TS004-1.0.0
-- on port 201, down, by unicast; the rest is this project's profile.)
use Rattle.std.specs.Prelude.{false, ◌≡◌, ℕ, List, [], ◌++◌, replicate, codes, None, Result}
use Rattle.cast_wire.specs.Limits.{max_groups}
use Rattle.package_grammar.specs.declared.downlink.Downlink.{Downlink}
use Rattle.package_grammar.specs.declared.downlink.To.TheVariants.{Unicast}
use Rattle.mc_keys.specs.declared.root_kind.RootKind.TheVariants.{V10}
use Rattle.device_core.specs.declared.config.Class.TheVariants as class
use Rattle.device_core.specs.Device.{DeviceState, first_device, max_formats, max_sessions, max_area, size_for}
use Rattle.device_core.specs.Events.{Receives, after_event}
use Rattle.script_lines.specs.Lines.{lines_of}
use Rattle.report_lines.specs.declared.faults.LineWhy.{LineWhy}
use Rattle.report_lines.specs.declared.faults.LineFault.{LineFault}
use Rattle.report_lines.specs.Devices.{counts_line}
use Rattle.report_lines.specs.Sessions.{whole, session_lines}
use Rattle.payload_replay.specs.PayloadLines.{payload_of}
use Rattle.payload_replay.specs.Headed.{rows_of, TakesBehind, TakesFile}
use Rattle.report_lines.specs.Lines.{text_at_end, HasOneText, HasAText}

-- ---- the header

-- the rows that a header gives, or the first cause for which it is refused
abbrev pub header_rows : List ℕ → Result ℕ LineWhy
header_rows line = rows_of (codes "replay") line

-- ---- what the device hears

-- the device of a replay: class C, hardware version 0, a clock that is right, both image formats, 4 sessions, the largest area
abbrev pub replay_device : ℕ → DeviceState
replay_device rows = first_device (record {
  class = class.C;
  hw = 0;
  formats = max_formats;
  rows = rows;
  offset = 0;
  key = replicate 16 0;
  root = V10;
  descriptor = None;
  sessions = max_sessions;
  groups = max_groups;
  area = max_area;
  held = false;
  span = 0;
  size = size_for rows;
})

-- a payload on port 201, down, by unicast
abbrev pub captured : List ℕ → Downlink
captured payload = record { to = Unicast; port = 201; payload = payload }

-- what a payload makes of the device, at moment 0 with random word 0; its uplinks are dropped, and the mark is the line's number
unfoldable pub after_payload : ℕ → List ℕ → DeviceState → DeviceState
after_payload n payload device = after_event device (Receives 0 0 n (captured payload))

abbrev pub Hears : ℕ → List ℕ → DeviceState → DeviceState → Type 0
Hears n payload device next = next ≡ after_payload n payload device

abbrev pub ReachesBehind : Result ℕ LineWhy → List (List ℕ) → Result DeviceState LineFault → Type 0
ReachesBehind rows lines outcome = TakesBehind payload_of Hears (λ rows. replay_device rows) rows lines outcome

-- the device after all lines, or the first refused line
abbrev pub Reaches : List (List ℕ) → Result DeviceState LineFault → Type 0
Reaches lines outcome = TakesFile (codes "replay") payload_of Hears (λ rows. replay_device rows) lines outcome

-- ---- the text

-- from the counts on: the counts, the sessions and the last line
abbrev pub closing_text : DeviceState → List ℕ
closing_text device = counts_line device.counts ++ (session_lines whole device.sessions ++ codes "end\n")

-- the text over the device
unfoldable pub replay_text : DeviceState → List ℕ
replay_text device = codes "fuota replay 1\n" ++ closing_text device

-- the answer for a file: the text, or the first refused line
unfoldable pub Replays : List ℕ → Result (List ℕ) LineFault → Type 0
Replays file answer = (outcome : Result DeviceState LineFault) × Reaches (lines_of file) outcome × (answer ≡ text_at_end (λ device. replay_text device) outcome)

-- no file is replayed in two ways
abbrev pub ReplaysOnce : Type 0
ReplaysOnce = HasOneText Replays

-- and each in one
abbrev pub ReplaysAlways : Type 0
ReplaysAlways = HasAText Replays
