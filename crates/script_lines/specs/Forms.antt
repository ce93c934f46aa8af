-- The form that a line spells (this project's profile): its first word says which, and so many words follow.
use Rattle.std.specs.Prelude.{ℕ, ◌+◌, ◌-◌, Bool, true, false, ◌&&◌, ◌==◌, nat_lt, if◌then◌else◌, List, length, codes, Option, Some, None}
use Rattle.script_lines.specs.declared.forms.Class.{Class}
use Rattle.script_lines.specs.declared.forms.Class.TheVariants as class
use Rattle.script_lines.specs.declared.forms.Form.{Form}
use Rattle.script_lines.specs.declared.forms.Form.TheVariants.{Header, Image, Group, WindowC, WindowB, Device, At, Wake, Migrate, Power, Ask, Frag, Status, Down, Raw, Air, RawAir, Up, End}
use Rattle.script_lines.specs.Lines.{words_of, word, is_word}
use Rattle.script_lines.specs.Numbers.{decimal_of, key_of, hex_number_of, hex_bytes_of, ◌>>=◌}

-- ---- words of a line

-- the line has so many words, its keyword counted
abbrev pub count_of : (line : List ℕ) → ℕ
count_of line = length (words_of line)

-- the decimal, the hex number, the key, the bytes and the class at a place
abbrev pub decimal_at : (line : List ℕ) → (k : ℕ) → Option ℕ
decimal_at line k = decimal_of (word line k)

abbrev pub hex_at : (line : List ℕ) → (k : ℕ) → Option ℕ
hex_at line k = hex_number_of (word line k)

abbrev pub key_at : (line : List ℕ) → (k : ℕ) → Option (List ℕ)
key_at line k = key_of (word line k)

abbrev pub bytes_at : (line : List ℕ) → (k : ℕ) → Option (List ℕ)
bytes_at line k = hex_bytes_of (word line k)

abbrev pub class_at : (line : List ℕ) → (k : ℕ) → Option Class
class_at line k =
    if is_word line k (codes "a") then Some class.A
    else if is_word line k (codes "c") then Some class.C
    else None

-- a form of only its keyword
abbrev pub alone : (line : List ℕ) → Form → Option Form
alone line form = if count_of line == 1 then Some form else None

-- a form of two words, with one decimal
abbrev pub with_decimal : (line : List ℕ) → (ℕ → Form) → Option Form
with_decimal line form = if count_of line == 2 then decimal_at line 1 >>= (λ n. Some (form n)) else None

-- ---- the forms

-- fuota 1
abbrev pub header_form : List ℕ → Option Form
header_form line = if count_of line == 2 && is_word line 1 (codes "1") then Some Header else None

-- FRAGSIZE and PARITY from a place on, for a session of this index
abbrev pub image_words : List ℕ → (k index : ℕ) → Option Form
image_words line k index = do
  frag_size ← decimal_at line k
  parity ← decimal_at line (k + 1)
  Some (Image frag_size parity index)

-- image FRAGSIZE PARITY, for a session of index 0
abbrev pub image_form : List ℕ → Option Form
image_form line = if count_of line == 3 then image_words line 1 0 else None

-- ADDR, KEY, MIN and MAX from a place on, of a group with this id
abbrev pub group_words : List ℕ → (k id : ℕ) → Option Form
group_words line k id = do
  addr ← hex_at line k
  key ← key_at line (k + 1)
  min ← decimal_at line (k + 2)
  max ← decimal_at line (k + 3)
  Some (Group id addr key min max)

-- group ADDR KEY MIN MAX, a group of id 0
abbrev pub group_form : List ℕ → Option Form
group_form line = if count_of line == 5 then group_words line 1 0 else None

-- window c START TIMEOUT FREQ DR
abbrev pub window_c_words : List ℕ → (k : ℕ) → Option Form
window_c_words line k = do
  start ← decimal_at line k
  timeout ← decimal_at line (k + 1)
  freq ← decimal_at line (k + 2)
  dr ← decimal_at line (k + 3)
  Some (WindowC start timeout freq dr)

-- window b START PERIODICITY TIMEOUT FREQ DR
abbrev pub window_b_words : List ℕ → (k : ℕ) → Option Form
window_b_words line k = do
  start ← decimal_at line k
  periodicity ← decimal_at line (k + 1)
  timeout ← decimal_at line (k + 2)
  freq ← decimal_at line (k + 3)
  dr ← decimal_at line (k + 4)
  Some (WindowB start periodicity timeout freq dr)

-- the letter of the class is at a place
abbrev pub window_from : List ℕ → (k : ℕ) → Option Form
window_from line k =
    if count_of line == k + 5 && is_word line k (codes "c") then window_c_words line (k + 1)
    else if count_of line == k + 6 && is_word line k (codes "b") then window_b_words line (k + 1)
    else None

abbrev pub window_form : List ℕ → Option Form
window_form line = window_from line 1

-- device ID CLASS HW ROWS OFFSET KEY, with DESCRIPTOR after it or none; and whether v1 comes after that, then k11, and flash at
-- the end; CLASS is at a place
abbrev pub device_words : List ℕ → (k : ℕ) → Option ℕ → (v1 k11 flash : Bool) → Option Form
device_words line k descriptor v1 k11 flash = do
  id ← decimal_at line 1
  class ← class_at line k
  hw ← decimal_at line (k + 1)
  rows ← decimal_at line (k + 2)
  offset ← decimal_at line (k + 3)
  key ← key_at line (k + 4)
  Some (Device (record {
    id = id;
    class = class;
    hw = hw;
    rows = rows;
    offset = offset;
    key = key;
    descriptor = descriptor;
    v1 = v1;
    k11 = k11;
    flash = flash;
  }))

-- the same in so many words, those before k11
abbrev pub device_of_words : List ℕ → (k count : ℕ) → (k11 flash : Bool) → Option Form
device_of_words line k count k11 flash =
    if count == k + 5 then device_words line k None false k11 flash
    else if count == k + 6 && is_word line (k + 5) (codes "v1") then device_words line k None true k11 flash
    else if count == k + 6
    then hex_at line (k + 5) >>= (λ descriptor. device_words line k (Some descriptor) false k11 flash)
    else if count == k + 7 && is_word line (k + 6) (codes "v1")
    then hex_at line (k + 5) >>= (λ descriptor. device_words line k (Some descriptor) true k11 flash)
    else None

-- in so many words, those before flash: k11 can only be the last of them
abbrev pub device_to : List ℕ → (k count : ℕ) → (flash : Bool) → Option Form
device_to line k count flash =
    if nat_lt (k + 5) count && is_word line (count - 1) (codes "k11")
    then device_of_words line k (count - 1) true flash
    else device_of_words line k count false flash

-- flash can only be the last word
abbrev pub device_from : List ℕ → (k : ℕ) → Option Form
device_from line k =
    if nat_lt (k + 5) (count_of line) && is_word line (count_of line - 1) (codes "flash")
    then device_to line k (count_of line - 1) true
    else device_to line k (count_of line) false

abbrev pub device_form : List ℕ → Option Form
device_form line = device_from line 2

-- at MS, wake D, migrate D, power D, ask D and up U
abbrev pub at_form : List ℕ → Option Form
at_form line = with_decimal line (λ time. At time)

abbrev pub wake_form : List ℕ → Option Form
wake_form line = with_decimal line (λ device. Wake device)

abbrev pub migrate_form : List ℕ → Option Form
migrate_form line = with_decimal line (λ device. Migrate device)

abbrev pub power_form : List ℕ → Option Form
power_form line = with_decimal line (λ device. Power device)

abbrev pub ask_form : List ℕ → Option Form
ask_form line = with_decimal line (λ device. Ask device)

abbrev pub up_form : List ℕ → Option Form
up_form line = with_decimal line (λ number. Up number)

-- down S D, with WORD after it or none, which is 0
abbrev pub down_words : List ℕ → Option ℕ → (random : ℕ) → Option Form
down_words line payload random = do
  number ← payload
  device ← decimal_at line 2
  Some (Down number device random)

-- of the payload that its first word names
abbrev pub down_of : List ℕ → Option ℕ → Option Form
down_of line payload =
    if count_of line == 3 then down_words line payload 0
    else if count_of line == 4 then decimal_at line 3 >>= (λ random. down_words line payload random)
    else None

abbrev pub down_form : List ℕ → Option Form
down_form line = down_of line (decimal_at line 1)

-- raw D PORT HEX, with WORD after it or none, which is 0
abbrev pub raw_words : List ℕ → ℕ → Option Form
raw_words line random = do
  device ← decimal_at line 1
  port ← decimal_at line 2
  payload ← bytes_at line 3
  Some (Raw device port payload random)

abbrev pub raw_form : List ℕ → Option Form
raw_form line =
    if count_of line == 4 then raw_words line 0
    else if count_of line == 5 then decimal_at line 4 >>= (λ random. raw_words line random)
    else None

-- air S D [WORD], as down has it
abbrev pub in_the_air : Option Form → Option Form
in_the_air (Some (Down number device random)) = Some (Air number device random)
in_the_air form = None

abbrev pub air_form : List ℕ → Option Form
air_form line = in_the_air (down_form line)

-- rawair D HEX, with WORD after it or none, which is 0
abbrev pub raw_air_words : List ℕ → ℕ → Option Form
raw_air_words line random = do
  device ← decimal_at line 1
  bytes ← bytes_at line 2
  Some (RawAir device bytes random)

abbrev pub raw_air_form : List ℕ → Option Form
raw_air_form line =
    if count_of line == 3 then raw_air_words line 0
    else if count_of line == 4 then decimal_at line 3 >>= (λ random. raw_air_words line random)
    else None

-- ---- the form that a line spells, if any

-- what goes to a device or comes from one, and the end
abbrev pub sent_form : List ℕ → Option Form
sent_form line =
    if is_word line 0 (codes "down") then down_form line
    else if is_word line 0 (codes "raw") then raw_form line
    else if is_word line 0 (codes "air") then air_form line
    else if is_word line 0 (codes "rawair") then raw_air_form line
    else if is_word line 0 (codes "up") then up_form line
    else if is_word line 0 (codes "end") then alone line End
    else None

-- the moment, what happens to a device, and what the server is asked for
abbrev pub event_form : List ℕ → Option Form
event_form line =
    if is_word line 0 (codes "at") then at_form line
    else if is_word line 0 (codes "wake") then wake_form line
    else if is_word line 0 (codes "migrate") then migrate_form line
    else if is_word line 0 (codes "power") then power_form line
    else if is_word line 0 (codes "ask") then ask_form line
    else if is_word line 0 (codes "frag") then alone line Frag
    else if is_word line 0 (codes "status") then alone line Status
    else sent_form line

unfoldable pub form_of : List ℕ → Option Form
form_of line =
    if is_word line 0 (codes "fuota") then header_form line
    else if is_word line 0 (codes "image") then image_form line
    else if is_word line 0 (codes "group") then group_form line
    else if is_word line 0 (codes "window") then window_form line
    else if is_word line 0 (codes "device") then device_form line
    else event_form line
