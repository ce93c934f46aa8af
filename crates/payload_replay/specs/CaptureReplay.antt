-- The text of a capture whose payloads all go down on port 201 is that of the replay of them, from the counts on.
use Rattle.std.specs.Prelude.{◌≡◌, ℕ, ◌+◌, List, [], ◌∷◌, ◌++◌, codes, Ok}
use Rattle.hex.specs.Hex.{decode_of}
use Rattle.wire_base.specs.declared.refusal.Direction.TheVariants.{Down}
use Rattle.capture_read.specs.declared.answers.Entry.{Entry}
use Rattle.capture_read.specs.Entries.{entry_of}
use Rattle.script_lines.specs.Lines.{lines_of}
use Rattle.device_core.specs.Device.{DeviceState}
use Rattle.payload_replay.specs.Headed.{rows_of}
use Rattle.payload_replay.specs.Replay.{closing_text, Replays}
use Rattle.payload_replay.specs.Capture.{Captures, entry_text}

-- the line is an entry that goes down on port 201, and these hex digits spell its payload
pub record IsHexOf (item : Entry) (line digits : List ℕ) : Type 0 where
  pub entry : entry_of line ≡ Ok item
  pub port : item.port ≡ 201
  pub dir : item.dir ≡ Down
  pub payload : decode_of digits ≡ Ok item.payload

-- so for each line
abbrev pub AreHexOf : List Entry → (lines digits : List (List ℕ)) → Type 0
AreHexOf [] [] [] = Unit {0}
AreHexOf (item ∷ items) (line ∷ lines) (digits ∷ more) = IsHexOf item line digits × AreHexOf items lines more
AreHexOf items lines digits = ⊥

-- a file of payloads in hex and a capture of the same ones, all of which go down on port 201
pub record IsReplayOf (capture replay : List ℕ) (items : List Entry) : Type 0 where
  pub header : List ℕ
  pub lines : List (List ℕ)
  pub capture_is : lines_of capture ≡ header ∷ lines
  pub replay_header : List ℕ
  pub hex_lines : List (List ℕ)
  pub replay_is : lines_of replay ≡ replay_header ∷ hex_lines
  pub rows : ℕ
  pub capture_rows : rows_of (codes "capture") header ≡ Ok rows
  pub replay_rows : rows_of (codes "replay") replay_header ≡ Ok rows
  pub hex : AreHexOf items lines hex_lines

-- the texts of entries, the first of which is on the line after so many
abbrev pub entries_text : (lines : ℕ) → List Entry → List ℕ
entries_text lines [] = []
entries_text lines (item ∷ items) = entry_text (lines + 1) item ++ entries_text (lines + 1) items

-- whatever text the capture has: its entries one after another, and then the text of the replay from the counts on
abbrev pub EndsAsReplay : Type 0
EndsAsReplay = (capture replay text : List ℕ) (items : List Entry) → IsReplayOf capture replay items
    → Captures capture (Ok text) → (device : DeviceState)
    × (text ≡ codes "fuota capture 1\n" ++ (entries_text 1 items ++ closing_text device))
    × Replays replay (Ok (codes "fuota replay 1\n" ++ closing_text device))
