-- The text of a payload, for C.
use Rattle.std.specs.Prelude.{◌≡◌, ◌⊎◌, ◌<◌, ◌≤◌, ℕ, Bool, true, false, List, length, Ok, Err}
use Rattle.wire_base.specs.declared.refusal.Direction.{Direction}
use Rattle.wire_base.specs.declared.refusal.Direction.TheVariants.{Up, Down}
use Rattle.wire_base.specs.declared.refusal.Refusal.{Refusal}
use Rattle.wire_base.specs.declared.refusal.Why.{Why}
use Rattle.wire_base.specs.declared.refusal.Why.TheVariants as why
use Rattle.wire_base.specs.Payload.{max_payload}
use Rattle.package_grammar.specs.Reading.{Reading, reading_of}
use Rattle.sample_decoder.specs.Lines.{lines_of}
use Rattle.c_base.specs.Answer.{done, range, no_room, no_memory, refused}
use Rattle.c_base.specs.Bytes.{IsPut}
use Rattle.fuota_c.specs.declared.decoding.DecodedFields.{DecodedFields}

abbrev pub direction_of : (up : Bool) → Direction
direction_of true = Up
direction_of false = Down

-- the numbers of the header
abbrev pub why_number : Why → ℕ
why_number why.Port = 0
why_number why.UnknownCommand = 1
why_number why.Short = 2
why_number why.TooLong = 3

-- only the length of a text is written
pub record IsLength (text : List ℕ) (before out : DecodedFields) : Type 0 where
  pub count : out.length ≡ length text
  pub at : out.at ≡ before.at
  pub why : out.why ≡ before.why

-- the text is at the front, and its length is written
pub record IsTold (text old new : List ℕ) (before out : DecodedFields) (answer : ℕ) : Type 0 where
  pub answered : answer ≡ done
  pub put : IsPut text old new
  pub told : IsLength text before out

-- it has no room, and its length is written
pub record HasNoRoom (text old new : List ℕ) (before out : DecodedFields) (answer : ℕ) : Type 0 where
  pub answered : answer ≡ no_room
  pub over : length old < length text
  pub stays : new ≡ old
  pub told : IsLength text before out

-- memory was missing, and nothing is written
pub record HasNoMemory (old new : List ℕ) (before out : DecodedFields) (answer : ℕ) : Type 0 where
  pub answered : answer ≡ no_memory
  pub stays : new ≡ old
  pub untold : out ≡ before

-- only the place and the cause of a refusal are written
pub record IsRefusal (refusal : Refusal) (old new : List ℕ) (before out : DecodedFields) (answer : ℕ) : Type 0 where
  pub answered : answer ≡ refused
  pub stays : new ≡ old
  pub at : out.at ≡ refusal.at
  pub why : out.why ≡ why_number refusal.why
  pub count : out.length ≡ before.length

abbrev pub IsTextOut : (text old new : List ℕ) → (before out : DecodedFields) → (answer : ℕ) → Type 0
IsTextOut text old new before out answer = IsTold text old new before out answer
    ⊎ (HasNoRoom text old new before out answer ⊎ HasNoMemory old new before out answer)

-- commands are written as text, and a refusal by its place and why
abbrev pub IsDecoded : Reading → (old new : List ℕ) → (before out : DecodedFields) → (answer : ℕ) → Type 0
IsDecoded (Ok commands) old new before out answer = IsTextOut (lines_of commands) old new before out answer
IsDecoded (Err refusal) old new before out answer = IsRefusal refusal old new before out answer

-- a payload that a radio can bring is decoded; for a longer one nothing is written
pub record DecodesOrNot (port : ℕ) (direction : Direction) (payload old new : List ℕ) (before out : DecodedFields)
    (answer : ℕ) : Type 0 where
  pub told : length payload ≤ max_payload → IsDecoded (reading_of port direction payload) old new before out answer
  pub long : max_payload < length payload → (answer ≡ range) × (new ≡ old) × (out ≡ before)
