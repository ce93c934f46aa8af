-- The forms of the script of a seed, made as its lines are. (This project's profile.)
use Rattle.std.specs.Prelude.{◌≡◌, ◌≤◌, ℕ, zero, suc, ◌+◌, ◌%◌, Bool, true, false, ◌==◌, List, [], ◌∷◌, ◌++◌, map, length, replicate, Some, None}
use Rattle.std.specs.List.{AllByRecursion}
use Rattle.script_lines.specs.declared.forms.Class.TheVariants as class
use Rattle.script_lines.specs.declared.forms.DeviceLine.{DeviceLine}
use Rattle.script_lines.specs.declared.forms.Form.{Form}
use Rattle.script_lines.specs.declared.forms.Form.TheVariants.{Header, Image, Device, Ask, Frag, Down, Up, End}
use Rattle.script_lines.specs.Lines.{lines_of}
use Rattle.script_lines.specs.Forms.{form_of}
use Rattle.campaign_generator.specs.Draws.{stepped, drawn, after_draws}
use Rattle.campaign_generator.specs.Firmware.{after_image, fragments_of}
use Rattle.campaign_generator.specs.Script.{is_skipped, skips, script_of}

-- forms joined to the right
infixr 5 ◌⧺◌
abbrev pub ◌⧺◌ : List Form → List Form → List Form
a ⧺ b = a ++ b

-- a device of class C and hardware version 1, with 64 rows and a key of zeros
abbrev pub seed_device : (device offset : ℕ) → DeviceLine
seed_device device offset = record {
  id = device;
  class = class.C;
  hw = 1;
  rows = 64;
  offset = offset;
  key = replicate 16 0;
  descriptor = None;
  v1 = false;
  k11 = false;
  flash = false;
}

abbrev pub device_form : (device offset : ℕ) → Form
device_form device offset = Device (seed_device device offset)

-- a payload reaches a device, with no random word
abbrev pub down_form : (sent device : ℕ) → Form
down_form sent device = Down sent device 0

-- ---- devices, and their turns

unfoldable pub forms_of_devices : (g device left : ℕ) → List Form
forms_of_devices g device zero = []
forms_of_devices g device (suc left) = device_form device (drawn g) ∷ forms_of_devices (stepped g) (device + 1) left

abbrev pub forms_of_turn : (device sent uplink : ℕ) → List Form
forms_of_turn device sent uplink = Ask device ∷ down_form sent device ∷ Up uplink ∷ []

unfoldable pub forms_of_turns : (device sent uplink left : ℕ) → List Form
forms_of_turns device sent uplink zero = []
forms_of_turns device sent uplink (suc left) = forms_of_turn device sent uplink ++ forms_of_turns device (sent + 1) (uplink + 1) left

unfoldable pub forms_of_rounds : (each device sent uplink left : ℕ) → List Form
forms_of_rounds each device sent uplink zero = []
forms_of_rounds each device sent uplink (suc left) =
    forms_of_turns device sent uplink each ++ forms_of_rounds each (device + 1) (sent + each) (uplink + each) left

-- ---- fragments

unfoldable pub forms_of_frags : (left : ℕ) → List Form
forms_of_frags zero = []
forms_of_frags (suc left) = Frag ∷ forms_of_frags left

abbrev pub forms_of_fragment : (skip twice : Bool) (device n : ℕ) → List Form
forms_of_fragment true twice device n = []
forms_of_fragment false true device n = down_form (16 + n) device ∷ down_form (16 + n) device ∷ []
forms_of_fragment false false device n = down_form (16 + n) device ∷ []

unfoldable pub forms_of_downs : (device pieces g n skipped left : ℕ) → List Form
forms_of_downs device pieces g n skipped zero = []
forms_of_downs device pieces g n skipped (suc left) =
    forms_of_fragment (is_skipped (drawn g % 10) pieces n skipped) (drawn g % 10 == 1) device n
    ++ forms_of_downs device pieces (stepped g) (n + 1) (skips (is_skipped (drawn g % 10) pieces n skipped) pieces n skipped) left

unfoldable pub forms_of_deliveries : (pieces g device left : ℕ) → List Form
forms_of_deliveries pieces g device zero = []
forms_of_deliveries pieces g device (suc left) =
    forms_of_downs device pieces g 1 0 (pieces + 128) ++ forms_of_deliveries pieces (after_draws g (pieces + 128)) (device + 1) left

-- ---- the whole

-- the forms for an image of so many pieces, their numbers drawn from a state on
unfoldable pub forms_from : (g pieces : ℕ) → List Form
forms_from g pieces =
    (Header ∷ Image 64 128 0 ∷ [])
    ⧺ forms_of_devices g 1 8
    ⧺ forms_of_rounds 2 1 1 1 8
    ⧺ forms_of_frags (pieces + 128)
    ⧺ forms_of_deliveries pieces (after_draws g 8) 1 8
    ⧺ forms_of_rounds 4 1 (16 + (pieces + 128) + 1) 17 8
    ⧺ (End ∷ [])

-- the forms of the script of a seed
unfoldable pub forms_of : ℕ → List Form
forms_of seed = forms_from (after_image seed) (fragments_of seed)

-- ---- the law

pub record LinesSpellForms (seed : ℕ) : Type 0 where
  -- the lines of the script spell these forms, one each
  pub spelled : map form_of (lines_of (script_of seed)) ≡ map Some (forms_of seed)
  -- none has more than 60 bytes
  pub short : AllByRecursion (λ line. length line ≤ 60) (lines_of (script_of seed))
  -- and there are no more than 4524
  pub few : length (lines_of (script_of seed)) ≤ 4524

abbrev pub AllLinesSpellForms : Type 0
AllLinesSpellForms = (seed : ℕ) → LinesSpellForms seed
