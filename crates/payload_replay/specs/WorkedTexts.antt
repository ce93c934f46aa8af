-- Texts worked out: what is decoded of a payload, a replay of two sessions, and a capture.
use Rattle.std.specs.Prelude.{◌≡◌, ℕ, pos, true, false, [], ◌∷◌, ◌++◌, replicate, codes, None, Some, Ok, Err}
use Rattle.wire_base.specs.declared.refusal.Direction.{Direction}
use Rattle.wire_base.specs.declared.refusal.Direction.TheVariants.{Down, Up}
use Rattle.wire_base.specs.declared.refusal.Why.TheVariants as stop
use Rattle.capture_read.specs.declared.answers.Entry.{Entry}
use Rattle.capture_read.specs.WorkedEntries.{line_with, line_of_hex, line_of_port}
use Rattle.sync_wire.specs.declared.cmd.Cmd.TheVariants.{AppTimeAns, DevVersionReq}
use Rattle.cast_wire.specs.declared.cmd.Cmd.TheVariants.{DataFragment}
use Rattle.package_grammar.specs.declared.command.Command.TheVariants.{Sync, Cast}
use Rattle.frag_session.specs.Session.{Session}
use Rattle.device_core.specs.declared.config.Class.TheVariants as class
use Rattle.device_core.specs.Device.{DeviceState}
use Rattle.device_core.specs.WorkedConfig.{worked_config}
use Rattle.report_lines.specs.declared.faults.LineWhy.TheVariants as why
use Rattle.payload_replay.specs.PayloadLines.{payload_of}
use Rattle.payload_replay.specs.Decode.{payload_text, numbered_text, Decodes}
use Rattle.payload_replay.specs.Headed.{rows_of}
use Rattle.payload_replay.specs.Replay.{header_rows, replay_device, replay_text}
use Rattle.payload_replay.specs.Capture.{line_entry, entry_text, is_heard, after_entry, capture_text}

-- a session for so many pieces of a byte, that heard none yet
abbrev pub worked_session : (index nb_frag : ℕ) → Session
worked_session index nb_frag = record {
  setup = record { index = index; mask = 0; nb_frag = nb_frag; frag_size = 1; algo = 0; delay = 0; padding = 0; descriptor = 0 };
  rows = 1;
  heard = [];
}

abbrev pub worked_device : DeviceState
worked_device = record (replay_device 1) {
  sessions = record {
    first = Some (worked_session 0 2);
    second = None;
    third = Some (worked_session 2 1);
    fourth = None;
  };
  counts = record { deaf = 0; refused = 1; full = 2; dropped = 3 };
}

pub record AreTexts : Type 0 where
  -- where and why reading stops
  pub port : payload_text (Err (record { at = 0; why = stop.Port })) ≡ codes "refused 0 port\n"
  pub unknown : payload_text (Err (record { at = 1; why = stop.UnknownCommand })) ≡ codes "refused 1 unknown\n"
  pub short : payload_text (Err (record { at = 3; why = stop.Short })) ≡ codes "refused 3 short\n"
  pub long : payload_text (Err (record { at = 242; why = stop.TooLong })) ≡ codes "refused 242 long\n"
  -- commands, each on a line; and the number of the line before them
  pub none : payload_text (Ok []) ≡ []
  pub commands : payload_text (Ok (Sync (AppTimeAns (pos 5) 3) ∷ Sync DevVersionReq ∷ Cast (DataFragment 0 1 (0x5a ∷ [])) ∷ []))
      ≡ codes "AppTimeAns correction=5 token=3\nDevVersionReq\nDataFragment index=0 n=1 bytes=5a\n"
  pub numbered : numbered_text 12 (codes "DevVersionReq\n") ≡ codes "line 12\nDevVersionReq\n"
  -- a file of no lines
  pub no_lines : Decodes 202 Down [] (Ok (codes "end\n"))
  -- a line's payload, and the causes of a refused line
  pub payload : payload_of 3 (codes "08010011") ≡ Ok (0x08 ∷ 0x01 ∷ 0x00 ∷ 0x11 ∷ [])
  pub empty : payload_of 3 [] ≡ Ok []
  pub either_case : payload_of 3 (codes "aB") ≡ Ok (0xab ∷ [])
  pub odd : payload_of 3 (codes "080") ≡ Err why.Syntax
  pub no_digit : payload_of 3 (codes "0g") ≡ Err why.Syntax
  pub last_line : payload_of 19999 (codes "08") ≡ Ok (0x08 ∷ [])
  pub many_lines : payload_of 20000 (codes "0g") ≡ Err why.Limit
  -- a payload of 242 bytes is read, and a longer one is beyond the limits; of a line beyond them no digit is looked at
  pub longest : payload_of 3 (replicate 484 48) ≡ Ok (replicate 242 0)
  pub longer : payload_of 3 (replicate 486 48) ≡ Err why.Limit
  pub longest_line : payload_of 3 (replicate 600 103) ≡ Err why.Syntax
  pub long_line : payload_of 3 (replicate 601 103) ≡ Err why.Limit
  -- the rows that a header gives
  pub rows : header_rows (codes "replay 1 256") ≡ Ok 256
  pub many_rows : header_rows (codes "replay 1 257") ≡ Err why.Range
  pub other_header : header_rows (codes "replay 2 0") ≡ Err why.Syntax
  pub no_decimal : header_rows (codes "replay 1 01") ≡ Err why.Syntax
  pub short_header : header_rows (codes "replay 1") ≡ Err why.Syntax
  pub longer_header : header_rows (codes "replay 1 2 3") ≡ Err why.Syntax
  pub no_header : header_rows [] ≡ Err why.Syntax
  pub no_rows : header_rows (codes "replay 1 0") ≡ Ok 0
  pub longest_header : header_rows (replicate 600 114) ≡ Err why.Syntax
  pub long_header : header_rows (replicate 601 114) ≡ Err why.Limit
  pub header_of_capture : header_rows (codes "capture 1 2") ≡ Err why.Syntax
  -- the device that hears the payloads
  pub hearer : (replay_device 7).config ≡ record (worked_config class.C 0) { hw = 0; rows = 7; size = record { pieces = 4096; words = 1024; bytes = 3824 } }
  -- two sessions, the counts before them
  pub replay : replay_text worked_device ≡ codes
      "fuota replay 1\ncounts deaf 0 refused 1 full 2 dropped 3\nsession 0 received 0 missing 2 receiving\nsession 2 received 0 missing 1 receiving\nend\n"
  pub other_replay : replay_text (record worked_device {
    sessions = record worked_device.sessions { first = None; second = Some (worked_session 1 4); fourth = Some (worked_session 3 3) };
  }) ≡ codes
      "fuota replay 1\ncounts deaf 0 refused 1 full 2 dropped 3\nsession 1 received 0 missing 4 receiving\nsession 2 received 0 missing 1 receiving\nsession 3 received 0 missing 3 receiving\nend\n"

-- ---- captures

abbrev pub worked_entry : Entry
worked_entry = record { port = 202; dir = Down; payload = 0x01 ∷ 0x05 ∷ 0x00 ∷ 0x00 ∷ 0x00 ∷ 0xf3 ∷ [] }

-- an entry with no payload
abbrev pub empty_entry : (port : ℕ) → Direction → Entry
empty_entry port dir = record { port = port; dir = dir; payload = [] }

pub record AreCaptures : Type 0 where
  -- the rows that a header gives
  pub rows : rows_of (codes "capture") (codes "capture 1 256") ≡ Ok 256
  pub replay_header : rows_of (codes "capture") (codes "replay 1 0") ≡ Err why.Syntax
  -- the entry of a line, and the causes of a refused one
  pub entry : line_entry 19999 (line_with (codes "202") (codes "\"down\"") (codes "\"0105000000f3\"")) ≡ Ok worked_entry
  pub no_object : line_entry 1 (codes "[]") ≡ Err why.Syntax
  pub port_256 : line_entry 1 (line_of_port (codes "256")) ≡ Err why.Range
  pub long_payload : line_entry 1 (line_of_hex (codes "\"" ++ replicate 486 48 ++ codes "\"")) ≡ Err why.Limit
  pub many_lines : line_entry 20000 (codes "[]") ≡ Err why.Limit
  pub long_line : line_entry 1 (replicate 601 32) ≡ Err why.Limit
  pub longest_line : line_entry 1 (replicate 600 32) ≡ Err why.Syntax
  -- what is written of an entry
  pub shown : entry_text 12 worked_entry ≡ codes "line 12 202 down\nAppTimeAns correction=5 token=3\n"
  pub foreign : entry_text 2 (empty_entry 7 Up) ≡ codes "line 2 7 up\nrefused 0 port\n"
  -- which entries the device hears
  pub heard : is_heard (empty_entry 201 Down) ≡ true
  pub upward : is_heard (empty_entry 201 Up) ≡ false
  pub other_port : is_heard (empty_entry 200 Down) ≡ false
  pub time_port : is_heard (empty_entry 202 Down) ≡ false
  pub firmware_port : is_heard (empty_entry 203 Down) ≡ false
  pub no_package : is_heard (empty_entry 199 Down) ≡ false
  -- what it does not hear leaves it as it is
  pub passed_upward : after_entry 12 (empty_entry 201 Up) worked_device ≡ worked_device
  pub passed : after_entry 12 (empty_entry 200 Down) worked_device ≡ worked_device
  -- the text over what was caught
  pub text : capture_text (record { text = codes "line 2 7 up\nrefused 0 port\n"; device = worked_device }) ≡ codes
      "fuota capture 1\nline 2 7 up\nrefused 0 port\ncounts deaf 0 refused 1 full 2 dropped 3\nsession 0 received 0 missing 2 receiving\nsession 2 received 0 missing 1 receiving\nend\n"
