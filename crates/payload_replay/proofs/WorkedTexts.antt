-- Texts worked out.
use Rattle.std.proofs.Common.{[], codes, Ok, refl, ap}
use Rattle.wire_base.specs.declared.refusal.Direction.TheVariants.{Down}
use Rattle.std.specs.Fmt.{digits}
use Rattle.std.specs.Int.{int_wrap}
use Rattle.hex.specs.Hex.{encode_with, decode_pairs}
use Rattle.frag_model.specs.Verdict.{verdict, missing}
use Rattle.frag_session.specs.Session.{shape_of, shown_verdict, shown_file, seen_of, view_of}
use Rattle.script_lines.specs.Lines.{lines_of, words_of, word}
use Rattle.script_lines.specs.Numbers.{decimal_of}
use Rattle.payload_replay.specs.PayloadLines.{payload_of, payload_by}
use Rattle.report_lines.specs.Lines.{TakesLines}
use Rattle.payload_replay.specs.Decode.{commands_text, Decodes}
use Rattle.payload_replay.specs.Headed.{rows_of}
use Rattle.payload_replay.specs.Replay.{replay_text}
use Rattle.wire_base.specs.Numbers.{number_at}
use Rattle.sync_wire.specs.Tests as sync
use Rattle.sync_wire.specs.Reading.{clock_down}
use Rattle.package_grammar.specs.Reading.{reading_of, read_from, command_at, named_at, is_known, stop_at}
use Rattle.capture_read.proofs.WorkedEntries as entries
use Rattle.payload_replay.specs.Capture.{entry_by, line_entry, after_entry, capture_text}
use Rattle.payload_replay.specs.WorkedTexts.{AreTexts, AreCaptures}

-- the text begins as it is
no_lines : Decodes 202 Down [] (Ok (codes "end\n"))
unfolding Decodes TakesLines lines_of
no_lines = (Ok [], refl, refl)

pub texts_are : AreTexts
unfolding Decodes TakesLines lines_of digits encode_with decode_pairs verdict missing shape_of shown_verdict shown_file seen_of view_of words_of word decimal_of payload_of payload_by commands_text rows_of replay_text
texts_are = search no_lines

pub captures_are : AreCaptures
unfolding digits int_wrap encode_with verdict missing shape_of shown_verdict shown_file seen_of view_of words_of word decimal_of commands_text rows_of replay_text capture_text after_entry line_entry reading_of read_from command_at named_at is_known stop_at sync.is_known sync.samples clock_down number_at
captures_are = record {
  rows = refl;
  replay_header = refl;
  entry = ap entry_by entries.entries.down;
  no_object = ap entry_by entries.refusals.array;
  port_256 = ap entry_by entries.refusals.port_256;
  long_payload = ap entry_by entries.limit.longer;
  many_lines = refl;
  long_line = refl;
  longest_line = ap entry_by entries.refusals.blank;
  shown = refl;
  foreign = refl;
  heard = refl;
  upward = refl;
  other_port = refl;
  time_port = refl;
  firmware_port = refl;
  no_package = refl;
  passed_upward = refl;
  passed = refl;
  text = refl;
}
