-- The lines of a capture: JSON objects with the members port, dir and hex. (RFC 8259 as `serde_json` reads it; the members
-- are this project's profile.)
use Rattle.std.specs.Prelude.{◌≡◌, ℕ, ℤ, pos, negsuc, nat_lt, if◌then◌else◌, List, length, codes, Option, Some, None, option_and_then, Result, Ok, Err, IfOk, IfErr}
use Rattle.std.specs.Str.{bytes_eq, is_utf8}
use Rattle.hex.specs.Hex.{decode_of}
use Rattle.hex.specs.declared.error.FromHexError.{FromHexError}
use Rattle.serde_json.specs.Data.{Data}
use Rattle.serde_json.specs.Read.{read}
use Rattle.serde_json.specs.Find.{get, as_number, as_integer, as_str}
use Rattle.wire_base.specs.declared.refusal.Direction.{Direction}
use Rattle.wire_base.specs.declared.refusal.Direction.TheVariants.{Down, Up}
use Rattle.wire_base.specs.Payload.{max_payload}
use Rattle.capture_read.specs.declared.answers.Entry.{Entry}
use Rattle.capture_read.specs.declared.answers.EntryFault.{EntryFault}
use Rattle.capture_read.specs.declared.answers.EntryFault.TheVariants as fault
use Rattle.capture_read.specs.declared.answers.EntryError.{EntryError}
use Rattle.capture_read.specs.declared.answers.EntryError.TheVariants as error

-- the JSON value that bytes spell: none where they are no UTF-8, spell no value, or nest deeper than 127. Of members with
-- one name the last counts; a number is a whole one where it is written without point and exponent, is not -0, and is
-- from -2^63 to 2^64 - 1
unfoldable pub json_of : List ℕ → Option Data
json_of line = if is_utf8 line then read line else None

-- the whole number in the member port of an object
unfoldable pub port_of : Data → Option ℤ
port_of value = option_and_then as_integer (option_and_then as_number (get (codes "port") value))

-- the direction that a word names
abbrev pub direction_of : List ℕ → Option Direction
direction_of word =
    if bytes_eq word (codes "down") then Some Down
    else if bytes_eq word (codes "up") then Some Up
    else None

-- the direction in the member dir
unfoldable pub dir_of : Data → Option Direction
dir_of value = option_and_then direction_of (option_and_then as_str (get (codes "dir") value))

-- the bytes, where there are some
abbrev pub bytes_by : Result (List ℕ) FromHexError → Option (List ℕ)
bytes_by (Ok bytes) = Some bytes
bytes_by (Err e) = None

-- the bytes that hex digits of either case spell; none where they are odd in number or one is no digit
abbrev pub bytes_of : List ℕ → Option (List ℕ)
bytes_of digits = bytes_by (decode_of digits)

-- the bytes whose hex digits are in the member hex
unfoldable pub hex_of : Data → Option (List ℕ)
hex_of value = option_and_then bytes_of (option_and_then as_str (get (codes "hex") value))

-- the entry, once its members are as they must be: the port is looked at first, then the payload
abbrev pub ranged : ℤ → Direction → List ℕ → Result Entry EntryFault
ranged (pos port) dir payload =
    if nat_lt port 256 then
    if nat_lt max_payload (length payload) then Err fault.Limit
    else Ok (record { port = port; dir = dir; payload = payload })
    else Err fault.Range
ranged (negsuc port) dir payload = Err fault.Range

-- the entry of three members, all of which there must be
abbrev pub entry_by : Option ℤ → Option Direction → Option (List ℕ) → Result Entry EntryFault
entry_by (Some port) (Some dir) (Some payload) = ranged port dir payload
entry_by (Some port) (Some dir) None = Err fault.Syntax
entry_by (Some port) None payload = Err fault.Syntax
entry_by None dir payload = Err fault.Syntax

-- the entry that a JSON value is, or the first cause for which it is none
abbrev pub entry_in : Option Data → Result Entry EntryFault
entry_in None = Err fault.Syntax
entry_in (Some value) = entry_by (port_of value) (dir_of value) (hex_of value)

-- the entry of a line, or the first cause for which the line is refused
unfoldable pub entry_of : List ℕ → Result Entry EntryFault
entry_of line = entry_in (json_of line)

-- a line is refused for this cause, or memory was missing
abbrev pub IsRefusedBy : Result Entry EntryFault → EntryError → Type 0
IsRefusedBy said (error.Refused cause) = said ≡ Err cause
IsRefusedBy said error.Memory = Unit {0}

-- the answer to a line of which this is said: its entry, or the cause for which it is refused, or memory was missing
pub record Answers (said : Result Entry EntryFault) (result : Result Entry EntryError) : Type 0 where
  pub entry : IfOk result (λ e. said ≡ Ok e)
  pub refused : IfErr result (IsRefusedBy said)
