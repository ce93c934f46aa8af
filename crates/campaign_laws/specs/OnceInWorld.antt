-- Each uplink that a world holds moves a stage once.
use Rattle.std.specs.Prelude.{◌≡◌, ◌≢◌, ℕ, ◌^◌, ◌<◌, true, List, ◌∷◌, All, Ok}
use Rattle.image_slots.specs.Image.{is_image}
use Rattle.wire_base.specs.Numbered.{numbered}
use Rattle.script_lines.specs.declared.forms.Form.TheVariants.{Up}
use Rattle.campaign_world.specs.HeldWorld.{HeldWorld, WorldStands}
use Rattle.campaign_world.specs.World.{WorldState, first_world}
use Rattle.campaign_world.specs.Said.{Own, Line}
use Rattle.campaign_world.specs.Honest.{AreHonest}
use Rattle.campaign_world.specs.Making.{after_up}
use Rattle.campaign_world.specs.Script.{read_lines}
use Rattle.campaign_laws.specs.Fields.{AllFit}

-- an uplink with this number that has moved a stage of the held campaign moves none when it comes again, whatever lines came
-- between; the lines before it are honest
abbrev pub MovesOnceIn : HeldWorld → (number : ℕ) → Type 0
MovesOnceIn held number = (image : List ℕ) (line : Line) (before between : List Line) (world later : WorldState)
    → WorldStands held world → All (λ b. b < 2 ^ 8) image → is_image image ≡ true
    → AllFit world.server.plan.index before → AreHonest world.server.plan.index before → read_lines (Ok (first_world image)) before ≡ Ok world → line ≡ Ok (Own (Up number))
    → read_lines (Ok world) (line ∷ between) ≡ Ok later
    → (after_up world (numbered world.uplinks number)).server.stages ≢ world.server.stages
    → (after_up later (numbered later.uplinks number)).server.stages ≡ later.server.stages
