-- Lines and what they are, worked out.
use Rattle.std.specs.Prelude.{◌≡◌, ℕ, List, [], ◌∷◌, ◌++◌, codes, replicate, Result, Ok, Err}
use Rattle.wire_base.specs.declared.refusal.Direction.TheVariants.{Down, Up}
use Rattle.capture_read.specs.declared.answers.Entry.{Entry}
use Rattle.capture_read.specs.declared.answers.EntryFault.{EntryFault}
use Rattle.capture_read.specs.declared.answers.EntryFault.TheVariants as fault
use Rattle.capture_read.specs.Entries.{entry_of}

-- an object with a port, a direction and hex as they are written
abbrev pub line_with : (port dir hex : List ℕ) → List ℕ
line_with port dir hex =
    codes "{\"port\":" ++ port ++ codes ",\"dir\":" ++ dir ++ codes ",\"hex\":" ++ hex ++ codes "}"

-- an object on port 1, upwards, with such hex
abbrev pub line_of_hex : List ℕ → List ℕ
line_of_hex hex = line_with (codes "1") (codes "\"up\"") hex

-- an object with such a port and a byte of hex
abbrev pub line_of_port : List ℕ → List ℕ
line_of_port port = line_with port (codes "\"up\"") (codes "\"5a\"")

abbrev pub entry_up : (port : ℕ) → List ℕ → Result Entry EntryFault
entry_up port payload = Ok (record { port = port; dir = Up; payload = payload })

-- lines that are entries
pub record WorkedEntries : Type 0 where
  pub down : entry_of (line_with (codes "202") (codes "\"down\"") (codes "\"0105000000f3\""))
      ≡ Ok (record { port = 202; dir = Down; payload = 0x01 ∷ 0x05 ∷ 0x00 ∷ 0x00 ∷ 0x00 ∷ 0xf3 ∷ [] })
  pub capitals : entry_of (line_of_hex (codes "\"5A\"")) ≡ entry_up 1 (0x5a ∷ [])
  pub no_bytes : entry_of (line_of_hex (codes "\"\"")) ≡ entry_up 1 []
  pub last_port : entry_of (line_of_port (codes "255")) ≡ entry_up 255 (0x5a ∷ [])
  pub white_space : entry_of (codes " \t{ \"hex\" : \"5a\" , \"x\" : [ 1 , null ] , \"dir\":\"up\", \"port\":0 } \r")
      ≡ entry_up 0 (0x5a ∷ [])
  pub last_counts : entry_of (codes "{\"port\":5,\"dir\":\"up\",\"hex\":\"\",\"por\\u0074\":6}") ≡ entry_up 6 []

-- lines that are refused, with the first cause
pub record WorkedRefusals : Type 0 where
  pub array : entry_of (codes "[]") ≡ Err fault.Syntax
  pub nothing : entry_of [] ≡ Err fault.Syntax
  pub blank : entry_of (replicate 600 32) ≡ Err fault.Syntax
  pub bad_text : entry_of (line_with (codes "1") (codes "\"up\",\"x\":\"" ++ 0xff ∷ codes "\"") (codes "\"\"")) ≡ Err fault.Syntax
  pub without_port : entry_of (codes "{\"dir\":\"up\",\"hex\":\"5a\"}") ≡ Err fault.Syntax
  pub without_direction : entry_of (codes "{\"port\":1,\"hex\":\"5a\"}") ≡ Err fault.Syntax
  pub without_hex : entry_of (codes "{\"port\":1,\"dir\":\"up\"}") ≡ Err fault.Syntax
  pub port_in_words : entry_of (line_of_port (codes "\"1\"")) ≡ Err fault.Syntax
  pub number_of_direction : entry_of (line_with (codes "1") (codes "1") (codes "\"5a\"")) ≡ Err fault.Syntax
  pub number_of_hex : entry_of (line_of_hex (codes "5")) ≡ Err fault.Syntax
  pub no_direction : entry_of (line_with (codes "1") (codes "\"\"") (codes "\"5a\"")) ≡ Err fault.Syntax
  pub longer_direction : entry_of (line_with (codes "1") (codes "\"upward\"") (codes "\"5a\"")) ≡ Err fault.Syntax
  pub direction_before_range : entry_of (line_with (codes "256") (codes "\"Up\"") (codes "\"5a\"")) ≡ Err fault.Syntax
  pub other_direction : entry_of (line_with (codes "1") (codes "\"Up\"") (codes "\"5a\"")) ≡ Err fault.Syntax
  pub capital_up : entry_of (line_with (codes "1") (codes "\"UP\"") (codes "\"5a\"")) ≡ Err fault.Syntax
  pub capital_down : entry_of (line_with (codes "1") (codes "\"DOWN\"") (codes "\"5a\"")) ≡ Err fault.Syntax
  pub odd : entry_of (line_of_hex (codes "\"5\"")) ≡ Err fault.Syntax
  pub no_digit : entry_of (line_with (codes "256") (codes "\"up\"") (codes "\"5g\"")) ≡ Err fault.Syntax
  pub port_256 : entry_of (line_of_port (codes "256")) ≡ Err fault.Range
  pub negative : entry_of (line_of_port (codes "-1")) ≡ Err fault.Range

-- the longest payload and one byte more
pub record WorkedLimit : Type 0 where
  pub longest : entry_of (line_of_hex (codes "\"" ++ replicate 484 48 ++ codes "\"")) ≡ entry_up 1 (replicate 242 0)
  pub longer : entry_of (line_of_hex (codes "\"" ++ replicate 486 48 ++ codes "\"")) ≡ Err fault.Limit
  pub range_first : entry_of (line_with (codes "256") (codes "\"up\"") (codes "\"" ++ replicate 486 48 ++ codes "\""))
      ≡ Err fault.Range

-- what is read of JSON: surrogates in pairs, arrays and objects nested to 127, no byte order mark
pub record WorkedJson : Type 0 where
  pub pair : entry_of (line_with (codes "1") (codes "\"up\",\"x\":\"\\ud83d\\ude00\"") (codes "\"\"")) ≡ entry_up 1 []
  pub lone : entry_of (line_with (codes "1") (codes "\"up\",\"x\":\"\\ud83d\"") (codes "\"\"")) ≡ Err fault.Syntax
  pub deep : entry_of (line_with (codes "1") (codes "\"up\",\"x\":" ++ replicate 126 91 ++ replicate 126 93) (codes "\"\"")) ≡ entry_up 1 []
  pub deeper : entry_of (line_with (codes "1") (codes "\"up\",\"x\":" ++ replicate 127 91 ++ replicate 127 93) (codes "\"\"")) ≡ Err fault.Syntax
  pub mark : entry_of (0xef ∷ 0xbb ∷ 0xbf ∷ line_of_port (codes "1")) ≡ Err fault.Syntax

-- which numbers are whole: those written without point and exponent, from -2^63 to below 2^64, except for -0
pub record WorkedPorts : Type 0 where
  pub most : entry_of (line_of_port (codes "18446744073709551615")) ≡ Err fault.Range
  pub more : entry_of (line_of_port (codes "18446744073709551616")) ≡ Err fault.Syntax
  pub least : entry_of (line_of_port (codes "-9223372036854775808")) ≡ Err fault.Range
  pub less : entry_of (line_of_port (codes "-9223372036854775809")) ≡ Err fault.Syntax
  pub minus_zero : entry_of (line_of_port (codes "-0")) ≡ Err fault.Syntax
  pub point : entry_of (line_of_port (codes "1.0")) ≡ Err fault.Syntax
  pub exponent : entry_of (line_of_port (codes "2e2")) ≡ Err fault.Syntax
