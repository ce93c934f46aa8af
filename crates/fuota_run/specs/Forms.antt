-- The words of each form, spelled out. (This project's profile.)
use Rattle.std.specs.Prelude.{◌≡◌, ◌≢◌, ◌==◌, ◌≤◌, ◌<◌, ◌^◌, ℕ, Bool, true, not, List, [], ◌∷◌, length, codes, Some, None, IsSome}
use Rattle.std.specs.List.{AllByRecursion, Contains}
use Rattle.std.specs.Fmt.{decimal}
use Rattle.script_lines.specs.Limits.{max_devices}
use Rattle.wire_base.specs.declared.refusal.Direction.{Direction}
use Rattle.wire_base.specs.declared.refusal.Direction.TheVariants.{Down, Up}
use Rattle.clap.specs.Words.{Text}
use Rattle.fuota_run.specs.declared.forms.FileForm.TheVariants.{Replay, Decode, Capture}
use Rattle.fuota_run.specs.declared.forms.ScriptForm.TheVariants.{Campaign, Recover}
use Rattle.fuota_run.specs.Outside.{Held}
use Rattle.fuota_run.specs.Ending.{HoldsForm}
use Rattle.fuota_run.specs.Words.{plays, payloads, generates, plays_two, asked, names_asked, port_of_word, device_of_word, seed_of_word, direction_of_word}

-- a word that is taken as it stands: it does not begin with a dash (45)
abbrev pub is_name : Text → Bool
is_name [] = true
is_name (b ∷ bs) = not (b == 45)

abbrev pub IsName : Text → Type 0
IsName word = is_name word ≡ true

-- a keyword and its names are that form, whatever the program is called
pub record WordsAreForms : Type 0 where
  pub campaign : (program image script : Text) → IsName image → IsName script
      → asked (program ∷ codes "campaign" ∷ image ∷ script ∷ []) ≡ Some (plays Campaign image script)
  pub recover : (program image script word : Text) (device : ℕ) → IsName image → IsName script → device_of_word word ≡ Some device
      → asked (program ∷ codes "recover" ∷ image ∷ script ∷ word ∷ []) ≡ Some (plays (Recover device) image script)
  pub replay : (program file : Text) → IsName file → asked (program ∷ codes "replay" ∷ file ∷ []) ≡ Some (payloads Replay file)
  pub decode : (program port_word direction_word file : Text) (port : ℕ) (direction : Direction)
      → port_of_word port_word ≡ Some port → direction_of_word direction_word ≡ Some direction → IsName file
      → asked (program ∷ codes "decode" ∷ port_word ∷ direction_word ∷ file ∷ []) ≡ Some (payloads (Decode port direction) file)
  pub generate : (program word : Text) (seed : ℕ) → seed_of_word word ≡ Some seed
      → asked (program ∷ codes "generate" ∷ word ∷ []) ≡ Some (generates seed)
  pub capture : (program file : Text) → IsName file
      → asked (program ∷ codes "capture" ∷ file ∷ []) ≡ Some (payloads Capture file)
  pub campaigns : (program image_a image_b script : Text) → IsName image_a → IsName image_b → IsName script
      → asked (program ∷ codes "campaigns" ∷ image_a ∷ image_b ∷ script ∷ []) ≡ Some (plays_two image_a image_b script)
  -- the decimal of each device, each port and each seed is its word
  pub device_word : (device : ℕ) → 1 ≤ device → device ≤ max_devices → device_of_word (decimal device) ≡ Some device
  pub port_word : (port : ℕ) → 200 ≤ port → port ≤ 203 → port_of_word (decimal port) ≡ Some port
  pub seed_word : (seed : ℕ) → seed < 2 ^ 32 → seed_of_word (decimal seed) ≡ Some seed
  pub down_word : direction_of_word (codes "down") ≡ Some Down
  pub up_word : direction_of_word (codes "up") ≡ Some Up

-- a keyword with fewer names than its form has, or more, is none
pub record OtherCountsAreNone : Type 0 where
  pub campaign : (program : Text) (names : List Text) → AllByRecursion IsName names → length names ≢ 2 → asked (program ∷ codes "campaign" ∷ names) ≡ None
  pub recover : (program : Text) (names : List Text) → AllByRecursion IsName names → length names ≢ 3 → asked (program ∷ codes "recover" ∷ names) ≡ None
  pub replay : (program : Text) (names : List Text) → AllByRecursion IsName names → length names ≢ 1 → asked (program ∷ codes "replay" ∷ names) ≡ None
  pub decode : (program : Text) (names : List Text) → AllByRecursion IsName names → length names ≢ 3 → asked (program ∷ codes "decode" ∷ names) ≡ None
  pub generate : (program : Text) (names : List Text) → AllByRecursion IsName names → length names ≢ 1 → asked (program ∷ codes "generate" ∷ names) ≡ None
  pub capture : (program : Text) (names : List Text) → AllByRecursion IsName names → length names ≢ 1
      → asked (program ∷ codes "capture" ∷ names) ≡ None
  pub campaigns : (program : Text) (names : List Text) → AllByRecursion IsName names → length names ≢ 3
      → asked (program ∷ codes "campaigns" ∷ names) ≡ None
  pub nothing : (program : Text) → asked (program ∷ []) ≡ None

-- ---- the files that are asked for

-- for any words, their names are among them, and a run needs no others to be held
pub record NamesAreWords : Type 0 where
  pub among : (words : List Text) → AllByRecursion (Contains words) (names_asked (asked words))
  pub enough : (held : Held) (words : List Text) → AllByRecursion (λ name. IsSome (held name)) (names_asked (asked words)) → HoldsForm (Some held) words
