-- The form that a line of two campaigns' script spells (this project's profile): without the letter of a campaign, it is the form
-- of a line of one campaign.
use Rattle.std.specs.Prelude.{ℕ, ◌&&◌, ◌==◌, if◌then◌else◌, List, [], ◌∷◌, codes, Option, Some, None}
use Rattle.script_lines.specs.declared.forms.Campaign.{Campaign}
use Rattle.script_lines.specs.declared.forms.Campaign.TheVariants as campaign
use Rattle.script_lines.specs.declared.forms.Form.{Form}
use Rattle.script_lines.specs.declared.forms.Form.TheVariants.{Header, Frag, Status, Up, End}
use Rattle.script_lines.specs.declared.forms.PairForm.{PairForm}
use Rattle.script_lines.specs.Lines.{word, is_word}
use Rattle.script_lines.specs.Numbers.{decimal_of, ◌>>=◌}
use Rattle.script_lines.specs.Forms.{count_of, decimal_at, image_words, group_words, window_from, device_from, at_form, wake_form, migrate_form, power_form, ask_form, down_of, in_the_air, alone}

-- ---- the campaign that a line names

-- a word that is its letter
abbrev pub campaign_at : (line : List ℕ) → (k : ℕ) → Option Campaign
campaign_at line k =
    if is_word line k (codes "a") then Some campaign.A
    else if is_word line k (codes "b") then Some campaign.B
    else None

-- a number with the letter before its digits
abbrev pub letter_of : (word : List ℕ) → Option Campaign
letter_of [] = None
letter_of (letter ∷ digits) = if letter == 97 then Some campaign.A else if letter == 98 then Some campaign.B else None

abbrev pub number_behind : (word : List ℕ) → Option ℕ
number_behind [] = None
number_behind (letter ∷ digits) = decimal_of digits

-- the form that a line has for no campaign by itself, or for the one that it names
abbrev pub of_none : Option Form → Option PairForm
of_none form = form >>= (λ f. Some (record { campaign = None; form = f }))

abbrev pub of_named : Option Campaign → Option Form → Option PairForm
of_named named form = do
  campaign ← named
  f ← form
  Some (record { campaign = Some campaign; form = f })

-- ---- the forms

-- fuota 2
abbrev pub pair_header : List ℕ → Option Form
pair_header line = if count_of line == 2 && is_word line 1 (codes "2") then Some Header else None

-- image X FRAGSIZE PARITY INDEX
abbrev pub pair_image : List ℕ → Option Form
pair_image line = if count_of line == 5 then decimal_at line 4 >>= (λ index. image_words line 2 index) else None

-- group X ID ADDR KEY MIN MAX
abbrev pub pair_group : List ℕ → Option Form
pair_group line = if count_of line == 7 then decimal_at line 2 >>= (λ id. group_words line 3 id) else None

-- frag X and status X
abbrev pub pair_alone : List ℕ → Form → Option Form
pair_alone line form = if count_of line == 2 then Some form else None

-- down XS D, with WORD after it or none, which is 0; air XS D, as down has it
abbrev pub pair_down : List ℕ → Option Form
pair_down line = down_of line (number_behind (word line 1))

-- up XU
abbrev pub pair_up : List ℕ → Option Form
pair_up line = if count_of line == 2 then number_behind (word line 1) >>= (λ number. Some (Up number)) else None

-- ---- the form that a line spells, if any: window X .. and device N X .. have the letter, then what those of one campaign have

-- of a campaign that the line names, and the end
abbrev pub pair_sent_form : List ℕ → Option PairForm
pair_sent_form line =
    if is_word line 0 (codes "frag") then of_named (campaign_at line 1) (pair_alone line Frag)
    else if is_word line 0 (codes "status") then of_named (campaign_at line 1) (pair_alone line Status)
    else if is_word line 0 (codes "down") then of_named (letter_of (word line 1)) (pair_down line)
    else if is_word line 0 (codes "air") then of_named (letter_of (word line 1)) (in_the_air (pair_down line))
    else if is_word line 0 (codes "up") then of_named (letter_of (word line 1)) (pair_up line)
    else if is_word line 0 (codes "end") then of_none (alone line End)
    else None

-- the moment, and what happens to a device
abbrev pub pair_event_form : List ℕ → Option PairForm
pair_event_form line =
    if is_word line 0 (codes "at") then of_none (at_form line)
    else if is_word line 0 (codes "wake") then of_none (wake_form line)
    else if is_word line 0 (codes "migrate") then of_none (migrate_form line)
    else if is_word line 0 (codes "power") then of_none (power_form line)
    else if is_word line 0 (codes "ask") then of_none (ask_form line)
    else pair_sent_form line

unfoldable pub pair_form_of : List ℕ → Option PairForm
pair_form_of line =
    if is_word line 0 (codes "fuota") then of_none (pair_header line)
    else if is_word line 0 (codes "image") then of_named (campaign_at line 1) (pair_image line)
    else if is_word line 0 (codes "group") then of_named (campaign_at line 1) (pair_group line)
    else if is_word line 0 (codes "window") then of_named (campaign_at line 1) (window_from line 2)
    else if is_word line 0 (codes "device") then of_named (campaign_at line 2) (device_from line 3)
    else pair_event_form line
