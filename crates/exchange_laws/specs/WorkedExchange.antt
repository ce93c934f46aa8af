-- An exchange worked out: a device is asked for its version, hears it, and its answer comes (this project's profile).
use Rattle.std.specs.Prelude.{false, List, [], ◌∷◌, replicate, None, Result, Ok, Err}
use Rattle.image_slots.specs.WorkedImages.{worked_image}
use Rattle.script_lines.specs.declared.forms.Class.TheVariants as class
use Rattle.script_lines.specs.declared.forms.DeviceLine.{DeviceLine}
use Rattle.script_lines.specs.declared.forms.Form.TheVariants.{Header, Image, Device, Ask, Frag, Down, Up}
use Rattle.report_lines.specs.declared.faults.LineFault.{LineFault}
use Rattle.campaign_world.specs.World.{WorldState, first_world}
use Rattle.campaign_world.specs.Said.{Own, Line}
use Rattle.campaign_world.specs.Script.{read_lines}
use Rattle.exchange_laws.specs.Updating.{IsExchange}

-- a plan with one device
abbrev pub worked_device : DeviceLine
worked_device = record { id = 1; class = class.C; hw = 1; rows = 0; offset = 5; key = replicate 16 0; descriptor = None; v1 = false; k11 = false; flash = false }

abbrev pub worked_plan : List Line
worked_plan = Ok (Own Header) ∷ Ok (Own (Image 13 0 0)) ∷ Ok (Own (Device worked_device)) ∷ []

-- it is asked, and asked again, hears both requests, and its second answer comes, between fragments
abbrev pub worked_lines : List Line
worked_lines = Ok (Own Header) ∷ Ok (Own (Image 13 0 0)) ∷ Ok (Own (Device worked_device)) ∷ Ok (Own (Ask 1)) ∷ Ok (Own (Ask 1)) ∷ Ok (Own Frag)
    ∷ Ok (Own (Down 1 1 0)) ∷ Ok (Own (Down 2 1 7)) ∷ Ok (Own Frag) ∷ Ok (Own (Up 2)) ∷ Ok (Own Frag) ∷ []

-- the campaign after lines
abbrev pub after_lines : WorldState → List Line → WorldState
after_lines world lines = or_it world (read_lines (Ok world) lines)
  where
    or_it : WorldState → Result WorldState LineFault → WorldState
    or_it world (Ok after) = after
    or_it world (Err fault) = world

-- the second request and the second answer are an exchange, which the last line is after
pub record WorkedExchange : Type 0 where
  pub after : WorldState
  pub one : IsExchange 1 (first_world worked_image) worked_lines after (Ok (Own Frag) ∷ [])
