-- The words of the command line, as clap takes them, and what they ask for. (This project's profile.)
use Rattle.std.specs.Prelude.{◌≡◌, ℕ, ◌^◌, Bool, true, false, ◌&&◌, nat_le, nat_lt, if◌then◌else◌, List, [], ◌∷◌, codes, Option, Some, None, option_and_then}
use Rattle.std.specs.Str.{bytes_eq}
use Rattle.wire_base.specs.declared.refusal.Direction.{Direction}
use Rattle.wire_base.specs.declared.refusal.Direction.TheVariants.{Down, Up}
use Rattle.clap.specs.declared.builder.command.Command.{Command}
use Rattle.clap.specs.declared.builder.command.Command.TheViews.{out-Command}
use Rattle.clap.specs.Words.{App, Kinds, Shape, Row, Rule, Text, app_of, fault_of, first_of, new_app, new_rule, subcommand_of, with_rule, with_subcommand}
use Rattle.fuota_run.specs.declared.forms.Invocation.{Invocation as Read}
use Rattle.fuota_run.specs.declared.forms.Invocation.TheVariants as read
use Rattle.fuota_run.specs.declared.forms.FileForm.{FileForm}
use Rattle.fuota_run.specs.declared.forms.FileForm.TheVariants.{Replay, Decode, Capture}
use Rattle.fuota_run.specs.declared.forms.ScriptForm.{ScriptForm}
use Rattle.fuota_run.specs.declared.forms.ScriptForm.TheVariants.{Campaign, Recover}
use Rattle.script_lines.specs.Limits.{max_devices}
use Rattle.script_lines.specs.Numbers.{decimal_of, ◌>>=◌}

-- ---- the command

-- a word that must be at its place
abbrev pub positional : Text → Rule
positional name = record (new_rule name) { required = true }

-- a form: its keyword, and the words after it
abbrev pub with_words : App → List Text → App
with_words app [] = app
with_words app (name ∷ names) = with_words (with_rule app (positional name)) names

abbrev pub form : Text → List Text → Shape
form keyword names = (with_words (new_app keyword) names).top

abbrev pub with_forms : App → List Shape → App
with_forms app [] = app
with_forms app (one ∷ more) = with_forms (with_subcommand app one) more

-- the seven forms, which take no options, each as a command of its own
abbrev pub form_app : Text → List Text → App
form_app keyword names = with_words (new_app keyword) names

abbrev pub campaign_app : App
campaign_app = form_app (codes "campaign") (codes "IMAGE" ∷ codes "SCRIPT" ∷ [])

abbrev pub recover_app : App
recover_app = form_app (codes "recover") (codes "IMAGE" ∷ codes "SCRIPT" ∷ codes "DEVICE" ∷ [])

abbrev pub replay_app : App
replay_app = form_app (codes "replay") (codes "FILE" ∷ [])

abbrev pub decode_app : App
decode_app = form_app (codes "decode") (codes "PORT" ∷ codes "DIR" ∷ codes "FILE" ∷ [])

abbrev pub generate_app : App
generate_app = form_app (codes "generate") (codes "SEED" ∷ [])

abbrev pub capture_app : App
capture_app = form_app (codes "capture") (codes "FILE" ∷ [])

abbrev pub campaigns_app : App
campaigns_app = form_app (codes "campaigns") (codes "IMAGE_A" ∷ codes "IMAGE_B" ∷ codes "SCRIPT" ∷ [])

-- the program with its forms
unfoldable pub fuota : App
fuota = with_forms (new_app (codes "fuota")) (campaign_app.top ∷ recover_app.top ∷ replay_app.top
    ∷ decode_app.top ∷ generate_app.top ∷ capture_app.top ∷ campaigns_app.top ∷ [])

-- what was found, where there is no fault
abbrev pub where_none : Kinds → Option (Text × List Row) → Option (Text × List Row)
where_none [] found = found
where_none (kind ∷ kinds) found = None

-- where clap finds no fault in the words: the form that they name, with what was found for its words
unfoldable pub parsed : List Text → Option (Text × List Row)
parsed words = where_none (fault_of fuota words) (subcommand_of fuota words)

-- ---- what is asked for

-- what is asked of the campaign of an image and a script, or of a file of payloads, or of the campaign that a seed makes, or of
-- the two campaigns of two images and a script
pub data Invocation : Type 0 where
  plays : (what : ScriptForm) (image script : List ℕ) → Invocation
  payloads : (what : FileForm) (file : List ℕ) → Invocation
  generates : (seed : ℕ) → Invocation
  plays_two : (image_a image_b script : List ℕ) → Invocation

-- a number from the first to the last
abbrev pub within : (first last n : ℕ) → Option ℕ
within first last n = if nat_le first n && nat_le n last then Some n else None

-- a decimal from 200 to 203
abbrev pub port_by : ℕ → Option ℕ
port_by port = within 200 203 port

-- the port of a package
abbrev pub port_of_word : Text → Option ℕ
port_of_word word = decimal_of word >>= port_by

-- a decimal from 1 to 64
abbrev pub device_by : ℕ → Option ℕ
device_by device = within 1 max_devices device

-- a device from 1 to 64
abbrev pub device_of_word : Text → Option ℕ
device_of_word word = decimal_of word >>= device_by

-- a decimal below 2^32
abbrev pub seed_by : ℕ → Option ℕ
seed_by seed = if nat_lt seed (2 ^ 32) then Some seed else None

-- a seed
abbrev pub seed_of_word : Text → Option ℕ
seed_of_word word = decimal_of word >>= seed_by

abbrev pub direction_of_word : Text → Option Direction
direction_of_word word = if bytes_eq word (codes "down") then Some Down else if bytes_eq word (codes "up") then Some Up else None

abbrev pub campaign_asked : List Row → Option Invocation
campaign_asked rows = do
  image ← first_of (codes "IMAGE") rows
  script ← first_of (codes "SCRIPT") rows
  Some (plays Campaign image script)

-- a word that is no device asks nothing
abbrev pub recover_asked : List Row → Option Invocation
recover_asked rows = do
  image ← first_of (codes "IMAGE") rows
  script ← first_of (codes "SCRIPT") rows
  device_word ← first_of (codes "DEVICE") rows
  device ← device_of_word device_word
  Some (plays (Recover device) image script)

abbrev pub replay_asked : List Row → Option Invocation
replay_asked rows = do
  file ← first_of (codes "FILE") rows
  Some (payloads Replay file)

-- a word that is no port or no direction asks nothing
abbrev pub decode_asked : List Row → Option Invocation
decode_asked rows = do
  port_word ← first_of (codes "PORT") rows
  port ← port_of_word port_word
  direction_word ← first_of (codes "DIR") rows
  direction ← direction_of_word direction_word
  file ← first_of (codes "FILE") rows
  Some (payloads (Decode port direction) file)

abbrev pub generate_asked : List Row → Option Invocation
generate_asked rows = do
  seed_word ← first_of (codes "SEED") rows
  seed ← seed_of_word seed_word
  Some (generates seed)

abbrev pub capture_asked : List Row → Option Invocation
capture_asked rows = do
  file ← first_of (codes "FILE") rows
  Some (payloads Capture file)

abbrev pub campaigns_asked : List Row → Option Invocation
campaigns_asked rows = do
  image_a ← first_of (codes "IMAGE_A") rows
  image_b ← first_of (codes "IMAGE_B") rows
  script ← first_of (codes "SCRIPT") rows
  Some (plays_two image_a image_b script)

-- what the words ask, by the first of them
unfoldable pub asked_by : Text → List Row → Option Invocation
asked_by keyword rows =
    if bytes_eq keyword (codes "campaign") then campaign_asked rows
    else if bytes_eq keyword (codes "recover") then recover_asked rows
    else if bytes_eq keyword (codes "replay") then replay_asked rows
    else if bytes_eq keyword (codes "decode") then decode_asked rows
    else if bytes_eq keyword (codes "generate") then generate_asked rows
    else if bytes_eq keyword (codes "capture") then capture_asked rows
    else if bytes_eq keyword (codes "campaigns") then campaigns_asked rows
    else None

-- what the words ask for; none where they are no form
unfoldable pub asked : List Text → Option Invocation
asked words = option_and_then (λ found. asked_by found.0 found.1) (parsed words)

-- the names of the files that are asked for
abbrev pub names_asked : Option Invocation → List Text
names_asked None = []
names_asked (Some (plays what image script)) = image ∷ script ∷ []
names_asked (Some (payloads what file)) = file ∷ []
names_asked (Some (generates seed)) = []
names_asked (Some (plays_two image_a image_b script)) = image_a ∷ image_b ∷ script ∷ []

-- whether there are any
abbrev pub asks_files : Option Invocation → Bool
asks_files None = false
asks_files (Some (plays what image script)) = true
asks_files (Some (payloads what file)) = true
asks_files (Some (generates seed)) = false
asks_files (Some (plays_two image_a image_b script)) = true

-- ---- as it is held

-- the same with the words as they came
abbrev pub seen_asked : Option Read → Option Invocation
seen_asked None = None
seen_asked (Some (read.Script what image script)) = Some (plays what image.now script.now)
seen_asked (Some (read.Payloads what file)) = Some (payloads what file.now)
seen_asked (Some (read.Generate seed)) = Some (generates seed)
seen_asked (Some (read.Pair image_a image_b script)) = Some (plays_two image_a.now image_b.now script.now)

-- the form with a keyword, as it reads its words without the program
unfoldable pub form_named : Text → Option App
form_named keyword =
    if bytes_eq keyword (codes "campaign") then Some campaign_app
    else if bytes_eq keyword (codes "recover") then Some recover_app
    else if bytes_eq keyword (codes "replay") then Some replay_app
    else if bytes_eq keyword (codes "decode") then Some decode_app
    else if bytes_eq keyword (codes "generate") then Some generate_app
    else if bytes_eq keyword (codes "capture") then Some capture_app
    else if bytes_eq keyword (codes "campaigns") then Some campaigns_app
    else None

-- a command as it is built so far
pub record IsCommand (command : Command) (app : App) : Type 0 where
  pub shape : app_of command ≡ app
  pub local : (out-Command command).has_globals ≡ false
