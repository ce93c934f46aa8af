-- A frame in the air does what the payload itself does (LoRaWAN 1.0.x, 4; this project's profile): `air` instead of `down` leaves
-- a campaign unchanged.
use Rattle.std.specs.Prelude.{◌≡◌, ◌⊎◌, ℕ, ◌^◌, ◌<◌, true, List, ◌++◌, All, codes, Some, Ok}
use Rattle.std.specs.List.{AllZip}
use Rattle.wire_base.specs.Numbered.{numbered}
use Rattle.script_lines.specs.declared.forms.Form.TheVariants.{Down}
use Rattle.script_lines.specs.Lines.{lines_of}
use Rattle.script_lines.specs.Forms.{form_of}
use Rattle.campaign_world.specs.declared.numbered.SentPayload.{SentPayload}
use Rattle.campaign_world.specs.World.{WorldState}
use Rattle.campaign_world.specs.Said.{said_in}
use Rattle.campaign_world.specs.Causes.{goes_out}
use Rattle.campaign_world.specs.Honest.{AreHonest}
use Rattle.campaign_world.specs.Script.{campaign_of}

-- the other line has `air` instead of `down`, and what is named is a payload to the group
pub record HasAir (sent : List SentPayload) (line other rest : List ℕ) (number device word : ℕ) : Type 0 where
  pub down : line ≡ codes "down " ++ rest
  pub air : other ≡ codes "air " ++ rest
  pub form : form_of line ≡ Some (Down number device word)
  pub to_group : goes_out (numbered sent number) ≡ true

-- the other line is the same, or has `air`
abbrev pub IsAired : List SentPayload → (line other : List ℕ) → Type 0
IsAired sent line other = (other ≡ line)
    ⊎ ((rest : List ℕ) × (number : ℕ) × (device : ℕ) × (word : ℕ) × HasAir sent line other rest number device word)

-- for any image and any accepted honest script, and whichever of its downs of payloads to the group are written as air
abbrev pub AirIsDown : Type 0
AirIsDown = (image script other : List ℕ) (world : WorldState) → All (λ b. b < 2 ^ 8) image → AreHonest 0 (said_in script)
    → campaign_of image (said_in script) ≡ Ok world → AllZip (IsAired world.sent) (lines_of script) (lines_of other)
    → campaign_of image (said_in other) ≡ campaign_of image (said_in script)
