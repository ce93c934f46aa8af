-- A line of a file of captured payloads: one payload in hex. (This project's profile.)
use Rattle.std.specs.Prelude.{ℕ, Bool, ◌||◌, nat_lt, nat_le, if◌then◌else◌, List, length, Result, Ok, Err}
use Rattle.hex.specs.Hex.{decode_of}
use Rattle.hex.specs.declared.error.FromHexError.{FromHexError}
use Rattle.wire_base.specs.Payload.{max_payload}
use Rattle.report_lines.specs.declared.faults.LineWhy.{LineWhy}
use Rattle.report_lines.specs.declared.faults.LineWhy.TheVariants as why
use Rattle.script_lines.specs.Limits.{max_lines, max_line}

-- a line that comes after so many is beyond the limits, by its number or by its bytes
abbrev pub is_beyond : ℕ → List ℕ → Bool
is_beyond lines line = nat_le max_lines lines || nat_lt max_line (length line)

-- the bytes that hex digits spell, or that they spell none, or too many for a payload
unfoldable pub payload_by : Result (List ℕ) FromHexError → Result (List ℕ) LineWhy
payload_by (Err e) = Err why.Syntax
payload_by (Ok payload) = if nat_lt max_payload (length payload) then Err why.Limit else Ok payload

-- the payload of a line that comes after so many, or the first cause for which the line is refused
unfoldable pub payload_of : ℕ → List ℕ → Result (List ℕ) LineWhy
payload_of lines line = if is_beyond lines line then Err why.Limit else payload_by (decode_of line)
