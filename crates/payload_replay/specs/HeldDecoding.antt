-- What a decoding holds, and after which lines it stands.
use Rattle.std.specs.Prelude.{◌≡◌, ℕ, List, [], length, Option, Some, None, Ok, Err}
use Rattle.wire_base.specs.declared.refusal.Direction.{Direction}
use Rattle.report_lines.specs.declared.faults.LineError.{LineError}
use Rattle.report_lines.specs.declared.faults.LineError.TheVariants as error
use Rattle.report_lines.specs.After.{GoesBehind}
use Rattle.payload_replay.specs.PayloadLines.{payload_of}
use Rattle.report_lines.specs.Lines.{TakesLines}
use Rattle.payload_replay.specs.Decode.{Writes}

-- the text so far, of so many lines; and what keeps it from going on, if anything does
pub record HeldDecoding : Type 0 where
  pub port : ℕ
  pub direction : Direction
  pub lines : ℕ
  pub text : List ℕ
  pub kept : Option LineError

-- the lines made the text, or one of them is the first that is refused, or memory was missing
abbrev pub IsDecodedBy : HeldDecoding → List (List ℕ) → Option LineError → Type 0
IsDecodedBy held lines None = (held.lines ≡ length lines) × TakesLines payload_of (Writes held.port held.direction) 0 [] lines (Ok held.text)
IsDecodedBy held lines (Some (error.Line fault)) = TakesLines payload_of (Writes held.port held.direction) 0 [] lines (Err fault)
IsDecodedBy held lines (Some error.Memory) = Unit {0}

-- a decoding of payloads on a port and in a direction stands after these lines
pub record DecodingStands (port : ℕ) (direction : Direction) (held : HeldDecoding) (lines : List (List ℕ)) : Type 0 where
  pub port_is : held.port ≡ port
  pub direction_is : held.direction ≡ direction
  pub behind : IsDecodedBy held lines held.kept

-- it hears a line, whatever lines it stood after
abbrev pub HearsDecoded : HeldDecoding → List ℕ → HeldDecoding → Type 0
HearsDecoded old line new = (port : ℕ) (direction : Direction) → GoesBehind (DecodingStands port direction) old line new
