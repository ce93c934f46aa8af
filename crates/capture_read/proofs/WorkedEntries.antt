-- The worked lines, by computing.
use Rattle.std.specs.Str.{is_utf8, chars}
use Rattle.std.specs.Float.{float_is_finite}
use Rattle.std.specs.Float.Numeral.{scan_numeral}
use Rattle.json.specs.Json.{items, members, value}
use Rattle.json.specs.Lex.{lex, punctuate}
use Rattle.json.specs.Text.{code_unit, short_escape, content}
use Rattle.json.specs.Word.{after_number, word}
use Rattle.hex.specs.Hex.{decode_pairs}
use Rattle.serde_json.specs.Read.{number_of}
use Rattle.capture_read.specs.Entries.{json_of, port_of, dir_of, hex_of, entry_of}
use Rattle.capture_read.specs.WorkedEntries.{WorkedEntries, WorkedRefusals, WorkedLimit, WorkedJson, WorkedPorts}

pub entries : WorkedEntries
unfolding is_utf8 chars items members value lex punctuate code_unit short_escape content after_number word number_of scan_numeral decode_pairs json_of port_of dir_of hex_of entry_of lib.Utf8.encode
entries = search

pub refusals : WorkedRefusals
unfolding is_utf8 chars items members value lex punctuate code_unit short_escape content after_number word number_of scan_numeral decode_pairs json_of port_of dir_of hex_of entry_of lib.Utf8.encode
refusals = search

pub limit : WorkedLimit
unfolding is_utf8 chars items members value lex punctuate code_unit short_escape content after_number word number_of scan_numeral decode_pairs json_of port_of dir_of hex_of entry_of lib.Utf8.encode
limit = search

pub json : WorkedJson
unfolding is_utf8 chars items members value lex punctuate code_unit short_escape content after_number word number_of scan_numeral decode_pairs json_of port_of dir_of hex_of entry_of lib.Utf8.encode
json = search

pub ports : WorkedPorts
unfolding is_utf8 chars items members value lex punctuate code_unit short_escape content after_number word number_of scan_numeral decode_pairs json_of port_of dir_of hex_of entry_of lib.Utf8.encode lib.Ieee.round float_is_finite
ports = search
