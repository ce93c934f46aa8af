-- The words of a form, read one after another.
use Rattle.std.proofs.Common.{◌≡◌, ◌≢◌, ◌≤◌, ◌<◌, ◌+◌, zero, suc, ◌&&◌, arith, ℕ, length, ◌^◌, nat_lt, Bool, true, false, ◌==◌, not, is_some, List, [], ◌∷◌, ◌++◌, codes, fold, Option, Some, None, option_and_then, if◌then◌else◌, refl, sym, ap, ◌∙◌, append-nil, append_assoc}
use Rattle.std.specs.List.{AllByRecursion, find}
use Rattle.std.specs.Fmt.{decimal, digits}
use Rattle.std.proofs.lemmas.Bool.{eqb-true, eqb-false, lt-ltb}
use Rattle.clap.proofs.WalkLemmas.{both}
use Rattle.std.specs.Option.{option_map_or}
use Rattle.std.specs.Str.{bytes_eq}
use Rattle.clap.specs.declared.error.kind.ErrorKind.{ErrorKind}
use Rattle.clap.specs.declared.error.kind.ErrorKind.TheVariants as kind
use Rattle.clap.specs.Lexer.{long_of, short_of}
use Rattle.clap.specs.Kinds.{Kinds, or_else}
use Rattle.clap.specs.Walk.{Held, Names, Row, Rule, Step, Text, Walk, idle, value, trailing, after_step, answers_to, arg_by_index, finished, long_or_other, nothing_held, settled, short_or_plain, to_positional, walk, walk_from, walked, word_met}
use Rattle.clap.specs.Simple.{App, Shape, built, built_leaf, entered, label_of, names_of}
use Rattle.clap.specs.Faults.{bundle_fault, check_fault, defaults_fault, flag_word_fault, level_fault, settle_fault, step_fault, turn_fault, walk_fault, word_fault}
use Rattle.clap.proofs.OnLiterals.{clap_on_literals}
use Rattle.campaign_generator.proofs.Decimals.{decimal_is_read}
use Rattle.fuota_run.specs.Words.{Invocation, plays, payloads, generates, plays_two, asked, asked_by, device_by, device_of_word, direction_of_word, campaign_app, recover_app, replay_app, decode_app, generate_app, capture_app, campaigns_app, fuota, parsed, port_by, port_of_word, seed_by, seed_of_word, where_none}
use Rattle.script_lines.specs.Numbers.{decimal_of, ◌>>=◌}
use Rattle.wire_base.specs.declared.refusal.Direction.{Direction}
use Rattle.fuota_run.specs.declared.forms.FileForm.TheVariants.{Replay, Decode, Capture}
use Rattle.fuota_run.specs.declared.forms.ScriptForm.TheVariants.{Campaign, Recover}
use Rattle.fuota_run.specs.Forms.{IsName, WordsAreForms, OtherCountsAreNone}

-- ---- a name among the words of a form

name_first : (b : ℕ) → not (b == 45) ≡ true → (b == 45) ≡ false
name_first b name = of_test (b == 45) name
  where
    of_test : (t : Bool) → not t ≡ true → t ≡ false
    of_test true h = sym h
    of_test false h = refl

no_dashes : (word : Text) → IsName word → bytes_eq word (45 ∷ 45 ∷ []) ≡ false
no_dashes [] name = refl
no_dashes (b ∷ bs) name = rw (name_first b name) refl

no_long : (word : Text) → IsName word → long_of word ≡ None
no_long [] name = refl
no_long (b ∷ bs) name = rw (name_first b name) refl

no_short : (word : Text) → IsName word → short_of word ≡ None
no_short [] name = refl
no_short (b ∷ bs) name = rw (name_first b name) refl

-- between two words, where nothing waits
abbrev at : Held → ℕ → Walk
at h position = record { held = h; waiting = idle; position = position; is_trailing = false; stopped = None }

name_met : (c : List Rule) (position : ℕ) (word : Text) (h : Held) → IsName word → word_met c [] false idle position word h ≡ (h, value)
name_met c position word h name =
    ap (λ (d : Bool). if d then (h, trailing position) else long_or_other c idle word (long_of word) h) (no_dashes word name)
    ∙ ap (λ (l : Option (Text × Option Text)). long_or_other c idle word l h) (no_long word name)
    ∙ ap (λ (s : Option Text). short_or_plain c idle word s h) (no_short word name)

name_no_fault : (s : Shape) (word : Text) (h : Held) → IsName word → word_fault s [] false idle word h ≡ []
name_no_fault s word h name =
    ap (λ (d : Bool). if d then [] else flag_word_fault s.rules s.args_override_self (long_of word) word h) (no_dashes word name)
    ∙ ap (λ (l : Option (Text × Option Text)). flag_word_fault s.rules s.args_override_self l word h) (no_long word name)
    ∙ ap (λ (o : Option Text). option_map_or (λ flags. bundle_fault s.rules s.args_override_self flags h) o []) (no_short word name)

name_walked : (c : List Rule) (h : Held) (position : ℕ) (word : Text) → IsName word → walked c [] (at h position) word ≡ to_positional c (arg_by_index c position) word (at h position) h
unfolding walked
name_walked c h position word name = ap (λ (m : Held × Step). after_step c word (at h position) m.0 m.1) (name_met c position word h name)

name_turn : (s : Shape) (h : Held) (position : ℕ) (word : Text) → IsName word → turn_fault s [] (at h position) word ≡ step_fault s position h value
name_turn s h position word name =
    ap (λ (m : Held × Step). or_else (word_fault s [] false idle word h) (step_fault s position m.0 m.1)) (name_met s.rules position word h name)
    ∙ ap (λ (k : Kinds). or_else k (step_fault s position h value)) (name_no_fault s word h name)

-- ---- a form

abbrev then_asked : Option (Text × List Row) → Option Invocation
then_asked = option_and_then (λ found. asked_by found.0 found.1)

-- the faults of a form's words, by those of the walk over them and by its end
abbrev faults_by : Shape → Kinds → Walk → Kinds
faults_by s k w = or_else k (or_else (settle_fault s.rules s.args_override_self w.held)
    (or_else (defaults_fault (settled s.rules w.held).rows s.rules) (check_fault s (finished s.rules w.held) false)))

-- what a form asks for, by the same
abbrev asks_by : Text → Shape → Kinds → Walk → Option Invocation
asks_by keyword s k w = then_asked (where_none (faults_by s k w) (Some (keyword, finished s.rules w.held)))

-- what it asks for with these words to come
abbrev asks : Text → Shape → Held → ℕ → List Text → Option Invocation
asks keyword s h position words = asks_by keyword s (walk_fault s [] (at h position) words) (fold (walked s.rules []) (at h position) words)

-- one name more
pub takes_name : (keyword : Text) (s : Shape) (h next : Held) (position behind : ℕ) (word : Text) (words : List Text) → IsName word
    → step_fault s position h value ≡ [] → to_positional s.rules (arg_by_index s.rules position) word (at h position) h ≡ at next behind
    → asks keyword s h position (word ∷ words) ≡ asks keyword s next behind words
unfolding walk_fault
takes_name keyword s h next position behind word words name fine there =
    let to : walked s.rules [] (at h position) word ≡ at next behind = name_walked s.rules h position word name ∙ there in
    ap (λ (k : Kinds). asks_by keyword s (or_else k (walk_fault s [] (walked s.rules [] (at h position) word) words)) (fold (walked s.rules []) (walked s.rules [] (at h position) word) words)) (name_turn s h position word name ∙ fine)
    ∙ ap (λ (w : Walk). asks_by keyword s (walk_fault s [] w words) (fold (walked s.rules []) w words)) to

-- a name that no word of the form is left for
pub takes_no_name : (keyword : Text) (s : Shape) (h : Held) (position : ℕ) (kind : ErrorKind) (kinds : Kinds) (word : Text) (words : List Text) → IsName word
    → step_fault s position h value ≡ kind ∷ kinds → asks keyword s h position (word ∷ words) ≡ None
unfolding walk_fault
takes_no_name keyword s h position kind kinds word words name stray =
    ap (λ (k : Kinds). asks_by keyword s (or_else k (walk_fault s [] (walked s.rules [] (at h position) word) words)) (fold (walked s.rules []) (walked s.rules [] (at h position) word) words)) (name_turn s h position word name ∙ stray)

-- ---- the program's words

-- the program has met the keyword, and keeps the words after it
abbrev met : Text → List Text → Walk
met keyword words = record { held = nothing_held; waiting = idle; position = 1; is_trailing = false; stopped = Some (keyword, words) }

keeps : (c : List Rule) (names : Names) (keyword : Text) (before words : List Text) → fold (walked c names) (met keyword before) words ≡ met keyword (before ++ words)
unfolding walked
keeps c names keyword before [] = ap (met keyword) (sym (append-nil before))
keeps c names keyword before (word ∷ words) = keeps c names keyword (before ++ word ∷ []) words ∙ ap (met keyword) (append_assoc before (word ∷ []) words)

keeps_well : (s : Shape) (names : Names) (keyword : Text) (before words : List Text) → walk_fault s names (met keyword before) words ≡ []
unfolding walk_fault walked
keeps_well s names keyword before [] = refl
keeps_well s names keyword before (word ∷ words) = keeps_well s names keyword (before ++ word ∷ []) words

abbrev top : App
top = built fuota

-- the form of that keyword, as it is built
abbrev form_of : Text → Option Shape
form_of keyword = find (λ s. answers_to keyword (label_of s)) top.subs

-- what is asked for by the end of the program's own words
abbrev asks_at : Kinds → Walk → Option Invocation
asks_at k w = then_asked (where_none
    (or_else k (or_else (option_map_or (λ p. option_map_or (λ s. level_fault s [] nothing_held p.1 false []) (find (λ s. answers_to p.0 (label_of s)) top.subs) []) w.stopped [])
    (or_else (settle_fault top.top.rules top.top.args_override_self w.held)
    (or_else (defaults_fault (settled top.top.rules w.held).rows top.top.rules) (check_fault top.top (finished top.top.rules w.held) (is_some (entered top w.stopped)))))))
    (entered top w.stopped))

asks_first : (program keyword : Text) (words : List Text) → asked (program ∷ keyword ∷ words)
    ≡ asks_at (or_else (turn_fault top.top (names_of top) (walk_from nothing_held) keyword) (walk_fault top.top (names_of top) (walked top.top.rules (names_of top) (walk_from nothing_held) keyword) words))
    (fold (walked top.top.rules (names_of top)) (walked top.top.rules (names_of top) (walk_from nothing_held) keyword) words)
unfolding asked parsed fuota walk_fault
asks_first program keyword words = refl

or_else_none : (k : Kinds) → or_else k [] ≡ k
or_else_none [] = refl
or_else_none (k ∷ ks) = refl

-- the program has met the keyword, and its form reads the words after it
reads_form : (program keyword : Text) (s : Shape) (words : List Text) → turn_fault top.top (names_of top) (walk_from nothing_held) keyword ≡ []
    → walked top.top.rules (names_of top) (walk_from nothing_held) keyword ≡ met keyword [] → asks_at [] (met keyword words) ≡ asks keyword s nothing_held 1 words
    → asked (program ∷ keyword ∷ words) ≡ asks keyword s nothing_held 1 words
reads_form program keyword s words fine there form =
    asks_first program keyword words
    ∙ ap (λ (k : Kinds). asks_at (or_else k (walk_fault top.top (names_of top) (walked top.top.rules (names_of top) (walk_from nothing_held) keyword) words)) (fold (walked top.top.rules (names_of top)) (walked top.top.rules (names_of top) (walk_from nothing_held) keyword) words)) fine
    ∙ ap (λ (w : Walk). asks_at (walk_fault top.top (names_of top) w words) (fold (walked top.top.rules (names_of top)) w words)) there
    ∙ ap (λ (k : Kinds). asks_at k (fold (walked top.top.rules (names_of top)) (met keyword []) words)) (keeps_well top.top (names_of top) keyword [] words)
    ∙ ap (asks_at []) (keeps top.top.rules (names_of top) keyword [] words)
    ∙ form

-- a form of the program, as it is built
abbrev pub shape : App → Shape
shape app = built_leaf app.top

-- the words after the keyword are read by its form
abbrev pub Reads : Text → App → Type 0
Reads keyword app = (program : Text) (words : List Text) → asked (program ∷ keyword ∷ words) ≡ asks keyword (shape app) nothing_held 1 words

no_more : (keyword : Text) (s : Shape) (words : List Text)
    → then_asked (where_none (or_else (level_fault s [] nothing_held words false []) []) (Some (keyword, finished s.rules (walk s.rules [] nothing_held words).held)))
    ≡ asks keyword s nothing_held 1 words
no_more keyword s words =
    ap (λ (k : Kinds). then_asked (where_none k (Some (keyword, finished s.rules (walk s.rules [] nothing_held words).held)))) (or_else_none (level_fault s [] nothing_held words false []))

pub reads_campaign : Reads (codes "campaign") campaign_app
unfolding fuota clap_on_literals
reads_campaign program words = reads_form program (codes "campaign") (shape campaign_app) words refl refl (no_more (codes "campaign") (shape campaign_app) words)

pub reads_recover : Reads (codes "recover") recover_app
unfolding fuota clap_on_literals
reads_recover program words = reads_form program (codes "recover") (shape recover_app) words refl refl (no_more (codes "recover") (shape recover_app) words)

pub reads_replay : Reads (codes "replay") replay_app
unfolding fuota clap_on_literals
reads_replay program words = reads_form program (codes "replay") (shape replay_app) words refl refl (no_more (codes "replay") (shape replay_app) words)

pub reads_decode : Reads (codes "decode") decode_app
unfolding fuota clap_on_literals
reads_decode program words = reads_form program (codes "decode") (shape decode_app) words refl refl (no_more (codes "decode") (shape decode_app) words)

pub reads_generate : Reads (codes "generate") generate_app
unfolding fuota clap_on_literals
reads_generate program words = reads_form program (codes "generate") (shape generate_app) words refl refl (no_more (codes "generate") (shape generate_app) words)

pub reads_capture : Reads (codes "capture") capture_app
unfolding fuota clap_on_literals
reads_capture program words = reads_form program (codes "capture") (shape capture_app) words refl refl (no_more (codes "capture") (shape capture_app) words)

pub reads_campaigns : Reads (codes "campaigns") campaigns_app
unfolding fuota clap_on_literals
reads_campaigns program words = reads_form program (codes "campaigns") (shape campaigns_app) words refl refl (no_more (codes "campaigns") (shape campaigns_app) words)

-- what is held after one name more
abbrev behind : Shape → ℕ → Text → Held → Held
behind s position word h = (to_positional s.rules (arg_by_index s.rules position) word (at h position) h).held

-- ---- the forms

campaign_form : (program image script : Text) → IsName image → IsName script
    → asked (program ∷ codes "campaign" ∷ image ∷ script ∷ []) ≡ Some (plays Campaign image script)
unfolding fuota asked_by clap_on_literals
campaign_form program image script first second =
    reads_campaign program (image ∷ script ∷ [])
    ∙ takes_name (codes "campaign") (shape campaign_app) nothing_held (behind (shape campaign_app) 1 image nothing_held) 1 2 image (script ∷ []) first refl refl
    ∙ takes_name (codes "campaign") (shape campaign_app) (behind (shape campaign_app) 1 image nothing_held) (behind (shape campaign_app) 2 script (behind (shape campaign_app) 1 image nothing_held)) 2 3 script [] second refl refl

-- a word that is read by what refuses each dash is a name
name_of : {X : Type 0} (read : Text → Option X) (word : Text) (x : X) → ((more : Text) → read (45 ∷ more) ≡ None) → read word ≡ Some x → IsName word
name_of read [] x refused is = refl
name_of read (b ∷ more) x refused is = of_test (b == 45) refl
  where
    of_test : (t : Bool) → (b == 45) ≡ t → not t ≡ true
    of_test false e = refl
    of_test true e = let same = ap (λ (d : ℕ). read (d ∷ more)) (eqb-true b 45 e) in let none = refused more in absurd cc

decimal_refused : (more : Text) → decimal_of (45 ∷ more) ≡ None
unfolding decimal_of
decimal_refused [] = refl
decimal_refused (d ∷ more) = refl

device_name : (word : Text) (device : ℕ) → device_of_word word ≡ Some device → IsName word
device_name word device is = name_of device_of_word word device (λ more. ap (λ (o : Option ℕ). o >>= device_by) (decimal_refused more)) is

port_name : (word : Text) (port : ℕ) → port_of_word word ≡ Some port → IsName word
port_name word port is = name_of port_of_word word port (λ more. ap (λ (o : Option ℕ). o >>= port_by) (decimal_refused more)) is

seed_name : (word : Text) (seed : ℕ) → seed_of_word word ≡ Some seed → IsName word
seed_name word seed is = name_of seed_of_word word seed (λ more. ap (λ (o : Option ℕ). o >>= seed_by) (decimal_refused more)) is

direction_name : (word : Text) (direction : Direction) → direction_of_word word ≡ Some direction → IsName word
direction_name word direction is = name_of direction_of_word word direction (λ more. refl) is

abbrev recovers : (image script : Text) → Option ℕ → Option Invocation
recovers image script found = do
  device ← found
  Some (plays (Recover device) image script)

recover_form : (program image script word : Text) (device : ℕ) → IsName image → IsName script → device_of_word word ≡ Some device
    → asked (program ∷ codes "recover" ∷ image ∷ script ∷ word ∷ []) ≡ Some (plays (Recover device) image script)
unfolding fuota asked_by clap_on_literals
recover_form program image script word device first second is =
    let one = behind (shape recover_app) 1 image nothing_held in
    let two = behind (shape recover_app) 2 script one in
    reads_recover program (image ∷ script ∷ word ∷ [])
    ∙ takes_name (codes "recover") (shape recover_app) nothing_held one 1 2 image (script ∷ word ∷ []) first refl refl
    ∙ takes_name (codes "recover") (shape recover_app) one two 2 3 script (word ∷ []) second refl refl
    ∙ takes_name (codes "recover") (shape recover_app) two (behind (shape recover_app) 3 word two) 3 4 word [] (device_name word device is) refl refl
    ∙ ap (recovers image script) is

replay_form : (program file : Text) → IsName file → asked (program ∷ codes "replay" ∷ file ∷ []) ≡ Some (payloads Replay file)
unfolding fuota asked_by clap_on_literals
replay_form program file name =
    reads_replay program (file ∷ [])
    ∙ takes_name (codes "replay") (shape replay_app) nothing_held (behind (shape replay_app) 1 file nothing_held) 1 2 file [] name refl refl

abbrev decodes : (file : Text) → Option ℕ → Option Direction → Option Invocation
decodes file port direction = do
  p ← port
  d ← direction
  Some (payloads (Decode p d) file)

decode_form : (program port_word direction_word file : Text) (port : ℕ) (direction : Direction)
    → port_of_word port_word ≡ Some port → direction_of_word direction_word ≡ Some direction → IsName file
    → asked (program ∷ codes "decode" ∷ port_word ∷ direction_word ∷ file ∷ []) ≡ Some (payloads (Decode port direction) file)
unfolding fuota asked_by clap_on_literals
decode_form program port_word direction_word file port direction first second name =
    let one = behind (shape decode_app) 1 port_word nothing_held in
    let two = behind (shape decode_app) 2 direction_word one in
    reads_decode program (port_word ∷ direction_word ∷ file ∷ [])
    ∙ takes_name (codes "decode") (shape decode_app) nothing_held one 1 2 port_word (direction_word ∷ file ∷ []) (port_name port_word port first) refl refl
    ∙ takes_name (codes "decode") (shape decode_app) one two 2 3 direction_word (file ∷ []) (direction_name direction_word direction second) refl refl
    ∙ takes_name (codes "decode") (shape decode_app) two (behind (shape decode_app) 3 file two) 3 4 file [] name refl refl
    ∙ ap (λ (o : Option ℕ). decodes file o (direction_of_word direction_word)) first
    ∙ ap (decodes file (Some port)) second

abbrev generates_by : Option ℕ → Option Invocation
generates_by found = do
  seed ← found
  Some (generates seed)

generate_form : (program word : Text) (seed : ℕ) → seed_of_word word ≡ Some seed
    → asked (program ∷ codes "generate" ∷ word ∷ []) ≡ Some (generates seed)
unfolding fuota asked_by clap_on_literals
generate_form program word seed is =
    reads_generate program (word ∷ [])
    ∙ takes_name (codes "generate") (shape generate_app) nothing_held (behind (shape generate_app) 1 word nothing_held) 1 2 word [] (seed_name word seed is) refl refl
    ∙ ap generates_by is

capture_form : (program file : Text) → IsName file → asked (program ∷ codes "capture" ∷ file ∷ []) ≡ Some (payloads Capture file)
unfolding fuota asked_by clap_on_literals
capture_form program file name =
    reads_capture program (file ∷ [])
    ∙ takes_name (codes "capture") (shape capture_app) nothing_held (behind (shape capture_app) 1 file nothing_held) 1 2 file [] name refl refl

campaigns_form : (program image_a image_b script : Text) → IsName image_a → IsName image_b → IsName script
    → asked (program ∷ codes "campaigns" ∷ image_a ∷ image_b ∷ script ∷ []) ≡ Some (plays_two image_a image_b script)
unfolding fuota asked_by clap_on_literals
campaigns_form program image_a image_b script first second third =
    let one = behind (shape campaigns_app) 1 image_a nothing_held in
    let two = behind (shape campaigns_app) 2 image_b one in
    reads_campaigns program (image_a ∷ image_b ∷ script ∷ [])
    ∙ takes_name (codes "campaigns") (shape campaigns_app) nothing_held one 1 2 image_a (image_b ∷ script ∷ []) first refl refl
    ∙ takes_name (codes "campaigns") (shape campaigns_app) one two 2 3 image_b (script ∷ []) second refl refl
    ∙ takes_name (codes "campaigns") (shape campaigns_app) two (behind (shape campaigns_app) 3 script two) 3 4 script [] third refl refl

seed_word : (seed : ℕ) → seed < 2 ^ 32 → seed_of_word (decimal seed) ≡ Some seed
seed_word seed low =
    let small : nat_lt seed (2 ^ 32) ≡ true = lt-ltb _ _ low in
    let bounded : seed < 2 ^ 64 = omega (arith, low) in
    ap (λ (o : Option ℕ). o >>= seed_by) (decimal_is_read seed bounded) ∙ ap (λ (b : Bool). let o : Option ℕ = if b then Some seed else None in o) small

-- the number that is read is this one
abbrev reads : Option ℕ → ℕ → Bool
reads None n = false
reads (Some m) n = m == n

read_is : (o : Option ℕ) (n : ℕ) → reads o n ≡ true → o ≡ Some n
read_is None n same = absurd cc
read_is (Some m) n same = ap (λ (k : ℕ). let found : Option ℕ = Some k in found) (eqb-true m n same)

-- a test holds of so many numbers from the first on
abbrev hold : (ℕ → Bool) → ℕ → ℕ → Bool
hold test first zero = true
hold test first (suc n) = test (first + n) && hold test first n

holds_at : (test : ℕ → Bool) (first n k : ℕ) → hold test first n ≡ true → first ≤ k → k < first + n → test k ≡ true
holds_at test first zero k all low high = absurd (omega arith)
holds_at test first (suc n) k all low high =
    let parts = both (test (first + n)) (hold test first n) all in
    of_last (k == first + n) refl parts.0 (λ below. holds_at test first n k parts.1 low below)
  where
    of_last : (b : Bool) → (k == first + n) ≡ b → test (first + n) ≡ true → (k < first + n → test k ≡ true) → test k ≡ true
    of_last true e last before = ap test (eqb-true k (first + n) e) ∙ last
    of_last false e last before = let apart = eqb-false k (first + n) e in before (omega (arith, apart))

device_word : (device : ℕ) → 1 ≤ device → device ≤ 64 → device_of_word (decimal device) ≡ Some device
unfolding decimal_of digits
device_word device low high =
    read_is (device_of_word (decimal device)) device (holds_at (λ d. reads (device_of_word (decimal d)) d) 1 64 device refl low (omega arith))

port_word : (port : ℕ) → 200 ≤ port → port ≤ 203 → port_of_word (decimal port) ≡ Some port
unfolding decimal_of digits
port_word port low high =
    read_is (port_of_word (decimal port)) port (holds_at (λ p. reads (port_of_word (decimal p)) p) 200 4 port refl low (omega arith))

pub words_are_forms : WordsAreForms
words_are_forms = search (campaign_form, recover_form, replay_form, decode_form, generate_form, capture_form, campaigns_form, device_word, port_word, seed_word)

-- ---- other counts

campaign_counts : (program : Text) (names : List Text) → AllByRecursion IsName names → length names ≢ 2 → asked (program ∷ codes "campaign" ∷ names) ≡ None
unfolding fuota asked_by clap_on_literals
campaign_counts program [] are other = reads_campaign program []
campaign_counts program (a ∷ []) are other =
    reads_campaign program (a ∷ [])
    ∙ takes_name (codes "campaign") (shape campaign_app) nothing_held (behind (shape campaign_app) 1 a nothing_held) 1 2 a [] are.0 refl refl
campaign_counts program (a ∷ b ∷ []) are other = absurd (other refl)
campaign_counts program (a ∷ b ∷ c ∷ more) are other =
    let one = behind (shape campaign_app) 1 a nothing_held in
    let two = behind (shape campaign_app) 2 b one in
    reads_campaign program (a ∷ b ∷ c ∷ more)
    ∙ takes_name (codes "campaign") (shape campaign_app) nothing_held one 1 2 a (b ∷ c ∷ more) are.0 refl refl
    ∙ takes_name (codes "campaign") (shape campaign_app) one two 2 3 b (c ∷ more) are.1.0 refl refl
    ∙ takes_no_name (codes "campaign") (shape campaign_app) two 3 kind.UnknownArgument [] c more are.1.1.0 refl

replay_counts : (program : Text) (names : List Text) → AllByRecursion IsName names → length names ≢ 1 → asked (program ∷ codes "replay" ∷ names) ≡ None
unfolding fuota asked_by clap_on_literals
replay_counts program [] are other = reads_replay program []
replay_counts program (a ∷ []) are other = absurd (other refl)
replay_counts program (a ∷ b ∷ more) are other =
    let one = behind (shape replay_app) 1 a nothing_held in
    reads_replay program (a ∷ b ∷ more)
    ∙ takes_name (codes "replay") (shape replay_app) nothing_held one 1 2 a (b ∷ more) are.0 refl refl
    ∙ takes_no_name (codes "replay") (shape replay_app) one 2 kind.UnknownArgument [] b more are.1.0 refl

recover_counts : (program : Text) (names : List Text) → AllByRecursion IsName names → length names ≢ 3 → asked (program ∷ codes "recover" ∷ names) ≡ None
unfolding fuota asked_by clap_on_literals
recover_counts program [] are other = reads_recover program []
recover_counts program (a ∷ []) are other =
    reads_recover program (a ∷ [])
    ∙ takes_name (codes "recover") (shape recover_app) nothing_held (behind (shape recover_app) 1 a nothing_held) 1 2 a [] are.0 refl refl
recover_counts program (a ∷ b ∷ []) are other =
    let one = behind (shape recover_app) 1 a nothing_held in
    reads_recover program (a ∷ b ∷ [])
    ∙ takes_name (codes "recover") (shape recover_app) nothing_held one 1 2 a (b ∷ []) are.0 refl refl
    ∙ takes_name (codes "recover") (shape recover_app) one (behind (shape recover_app) 2 b one) 2 3 b [] are.1.0 refl refl
recover_counts program (a ∷ b ∷ c ∷ []) are other = absurd (other refl)
recover_counts program (a ∷ b ∷ c ∷ d ∷ more) are other =
    let one = behind (shape recover_app) 1 a nothing_held in
    let two = behind (shape recover_app) 2 b one in
    let three = behind (shape recover_app) 3 c two in
    reads_recover program (a ∷ b ∷ c ∷ d ∷ more)
    ∙ takes_name (codes "recover") (shape recover_app) nothing_held one 1 2 a (b ∷ c ∷ d ∷ more) are.0 refl refl
    ∙ takes_name (codes "recover") (shape recover_app) one two 2 3 b (c ∷ d ∷ more) are.1.0 refl refl
    ∙ takes_name (codes "recover") (shape recover_app) two three 3 4 c (d ∷ more) are.1.1.0 refl refl
    ∙ takes_no_name (codes "recover") (shape recover_app) three 4 kind.UnknownArgument [] d more are.1.1.1.0 refl

decode_counts : (program : Text) (names : List Text) → AllByRecursion IsName names → length names ≢ 3 → asked (program ∷ codes "decode" ∷ names) ≡ None
unfolding fuota asked_by clap_on_literals
decode_counts program [] are other = reads_decode program []
decode_counts program (a ∷ []) are other =
    reads_decode program (a ∷ [])
    ∙ takes_name (codes "decode") (shape decode_app) nothing_held (behind (shape decode_app) 1 a nothing_held) 1 2 a [] are.0 refl refl
decode_counts program (a ∷ b ∷ []) are other =
    let one = behind (shape decode_app) 1 a nothing_held in
    reads_decode program (a ∷ b ∷ [])
    ∙ takes_name (codes "decode") (shape decode_app) nothing_held one 1 2 a (b ∷ []) are.0 refl refl
    ∙ takes_name (codes "decode") (shape decode_app) one (behind (shape decode_app) 2 b one) 2 3 b [] are.1.0 refl refl
decode_counts program (a ∷ b ∷ c ∷ []) are other = absurd (other refl)
decode_counts program (a ∷ b ∷ c ∷ d ∷ more) are other =
    let one = behind (shape decode_app) 1 a nothing_held in
    let two = behind (shape decode_app) 2 b one in
    let three = behind (shape decode_app) 3 c two in
    reads_decode program (a ∷ b ∷ c ∷ d ∷ more)
    ∙ takes_name (codes "decode") (shape decode_app) nothing_held one 1 2 a (b ∷ c ∷ d ∷ more) are.0 refl refl
    ∙ takes_name (codes "decode") (shape decode_app) one two 2 3 b (c ∷ d ∷ more) are.1.0 refl refl
    ∙ takes_name (codes "decode") (shape decode_app) two three 3 4 c (d ∷ more) are.1.1.0 refl refl
    ∙ takes_no_name (codes "decode") (shape decode_app) three 4 kind.UnknownArgument [] d more are.1.1.1.0 refl

generate_counts : (program : Text) (names : List Text) → AllByRecursion IsName names → length names ≢ 1 → asked (program ∷ codes "generate" ∷ names) ≡ None
unfolding fuota asked_by clap_on_literals
generate_counts program [] are other = reads_generate program []
generate_counts program (a ∷ []) are other = absurd (other refl)
generate_counts program (a ∷ b ∷ more) are other =
    let one = behind (shape generate_app) 1 a nothing_held in
    reads_generate program (a ∷ b ∷ more)
    ∙ takes_name (codes "generate") (shape generate_app) nothing_held one 1 2 a (b ∷ more) are.0 refl refl
    ∙ takes_no_name (codes "generate") (shape generate_app) one 2 kind.UnknownArgument [] b more are.1.0 refl

capture_counts : (program : Text) (names : List Text) → AllByRecursion IsName names → length names ≢ 1 → asked (program ∷ codes "capture" ∷ names) ≡ None
unfolding fuota asked_by clap_on_literals
capture_counts program [] are other = reads_capture program []
capture_counts program (a ∷ []) are other = absurd (other refl)
capture_counts program (a ∷ b ∷ more) are other =
    let one = behind (shape capture_app) 1 a nothing_held in
    reads_capture program (a ∷ b ∷ more)
    ∙ takes_name (codes "capture") (shape capture_app) nothing_held one 1 2 a (b ∷ more) are.0 refl refl
    ∙ takes_no_name (codes "capture") (shape capture_app) one 2 kind.UnknownArgument [] b more are.1.0 refl

campaigns_counts : (program : Text) (names : List Text) → AllByRecursion IsName names → length names ≢ 3 → asked (program ∷ codes "campaigns" ∷ names) ≡ None
unfolding fuota asked_by clap_on_literals
campaigns_counts program [] are other = reads_campaigns program []
campaigns_counts program (a ∷ []) are other =
    reads_campaigns program (a ∷ [])
    ∙ takes_name (codes "campaigns") (shape campaigns_app) nothing_held (behind (shape campaigns_app) 1 a nothing_held) 1 2 a [] are.0 refl refl
campaigns_counts program (a ∷ b ∷ []) are other =
    let one = behind (shape campaigns_app) 1 a nothing_held in
    reads_campaigns program (a ∷ b ∷ [])
    ∙ takes_name (codes "campaigns") (shape campaigns_app) nothing_held one 1 2 a (b ∷ []) are.0 refl refl
    ∙ takes_name (codes "campaigns") (shape campaigns_app) one (behind (shape campaigns_app) 2 b one) 2 3 b [] are.1.0 refl refl
campaigns_counts program (a ∷ b ∷ c ∷ []) are other = absurd (other refl)
campaigns_counts program (a ∷ b ∷ c ∷ d ∷ more) are other =
    let one = behind (shape campaigns_app) 1 a nothing_held in
    let two = behind (shape campaigns_app) 2 b one in
    let three = behind (shape campaigns_app) 3 c two in
    reads_campaigns program (a ∷ b ∷ c ∷ d ∷ more)
    ∙ takes_name (codes "campaigns") (shape campaigns_app) nothing_held one 1 2 a (b ∷ c ∷ d ∷ more) are.0 refl refl
    ∙ takes_name (codes "campaigns") (shape campaigns_app) one two 2 3 b (c ∷ d ∷ more) are.1.0 refl refl
    ∙ takes_name (codes "campaigns") (shape campaigns_app) two three 3 4 c (d ∷ more) are.1.1.0 refl refl
    ∙ takes_no_name (codes "campaigns") (shape campaigns_app) three 4 kind.UnknownArgument [] d more are.1.1.1.0 refl

nothing_asked : (program : Text) → asked (program ∷ []) ≡ None
unfolding asked parsed fuota clap_on_literals asked_by
nothing_asked program = refl

pub other_counts : OtherCountsAreNone
other_counts = search (campaign_counts, recover_counts, replay_counts, decode_counts, generate_counts, capture_counts, campaigns_counts, nothing_asked)
