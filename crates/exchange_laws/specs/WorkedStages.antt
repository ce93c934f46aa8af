-- The first exchanges of a campaign worked out, and how many there are (this project's profile).
use Rattle.std.specs.Prelude.{◌≡◌, ℕ, List, [], ◌∷◌, ◌++◌, map, take, Option, Some, Ok}
use Rattle.image_slots.specs.WorkedImages.{worked_image}
use Rattle.script_lines.specs.declared.forms.Form.TheVariants as form
use Rattle.campaign_server.specs.declared.plan.Kind.TheVariants.{C}
use Rattle.campaign_server.specs.declared.plan.PlanGroup.{PlanGroup}
use Rattle.campaign_server.specs.declared.plan.PlanWindow.{PlanWindow}
use Rattle.campaign_server.specs.declared.stage.Request.TheVariants.{Version, Group, Fragments, Window, Status, Image, Reboot, Check}
use Rattle.campaign_server.specs.declared.stage.Stage.{Stage}
use Rattle.campaign_server.specs.declared.stage.Stage.TheVariants.{At, Updated}
use Rattle.campaign_server.specs.Plan.{Plan}
use Rattle.campaign_server.specs.Server.{ledger}
use Rattle.campaign_world.specs.World.{first_plan, first_world}
use Rattle.campaign_world.specs.Said.{Own, Line}
use Rattle.exchange_laws.specs.Suits.{stage_after_request}
use Rattle.exchange_laws.specs.Updating.{exchanges_for}
use Rattle.exchange_laws.specs.WorkedExchange.{worked_device, after_lines}

-- payload n is a request, and uplink k its answer
abbrev pub exchange_of : (n k : ℕ) → List Line
exchange_of n k = Ok (Own (form.Ask 1)) ∷ Ok (Own (form.Down n 1 0)) ∷ Ok (Own (form.Up k)) ∷ []

-- a device is asked for its version, and for its session, and hears the one piece of the image
abbrev pub first_lines : List Line
first_lines =
    Ok (Own form.Header) ∷ Ok (Own (form.Image 52 0 0)) ∷ Ok (Own (form.Device worked_device)) ∷ exchange_of 1 1 ++ exchange_of 2 2
    ++ Ok (Own form.Frag) ∷ Ok (Own (form.Down 3 1 0)) ∷ []

-- where the server has the device after so many of these lines
abbrev pub stage_after_lines : (count : ℕ) → Option Stage
stage_after_lines count = ledger (after_lines (first_world worked_image) (take count first_lines)).server 1

abbrev pub grouped_plan : Plan
grouped_plan = record first_plan {
  group = Some (record { id = 0; addr = 1; key = []; min = 0; max = 9 });
  window = Some (record { kind = C; start = 0; timeout = 0; freq = 0; dr = 0 });
}

pub record WorkedStages : Type 0 where
  pub first : stage_after_lines 3 ≡ Some (At Version)
  -- a request, or one that reaches the device, moves nothing
  pub asked : stage_after_lines 5 ≡ Some (At Version)
  pub answered : stage_after_lines 6 ≡ Some (At Fragments)
  pub set_up : stage_after_lines 9 ≡ Some (At Status)
  pub heard : stage_after_lines 11 ≡ Some (At Status)
  -- how many exchanges a plan has, and what follows each
  pub alone : exchanges_for first_plan ≡ 6
  pub grouped : exchanges_for grouped_plan ≡ 8
  pub stages_alone : map (stage_after_request first_plan) (Version ∷ Fragments ∷ Status ∷ Image ∷ Reboot ∷ Check ∷ [])
      ≡ At Fragments ∷ At Status ∷ At Image ∷ At Reboot ∷ At Check ∷ Updated ∷ []
  pub stages_grouped : map (stage_after_request grouped_plan) (Version ∷ Group ∷ Fragments ∷ Window ∷ Status ∷ [])
      ≡ At Group ∷ At Fragments ∷ At Window ∷ At Status ∷ At Image ∷ []
