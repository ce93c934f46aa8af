-- What a phase holds, and what its fields keep true.
use Rattle.std.specs.Prelude.{Bool, true, false, [], ℕ, ◌≤◌, Option, Result}
use Rattle.campaign_server.specs.Server.{first_server}
use Rattle.script_lines.specs.Limits.{max_lines}
use Rattle.script_lines.specs.declared.forms.Form.{Form}
use Rattle.script_lines.specs.declared.forms.Form.TheVariants.{End}
use Rattle.report_lines.specs.declared.faults.LineError.{LineError}
use Rattle.campaign_world.specs.World.{WorldState}
use Rattle.campaign_world.specs.declared.section.Section.{Section}
use Rattle.campaign_world.specs.declared.section.Section.TheVariants as section
use Rattle.campaign_world.specs.declared.world.planning.Planning.{Planning}
use Rattle.campaign_world.specs.declared.world.phase.Phase.{Phase}
use Rattle.campaign_world.specs.declared.world.phase.Phase.TheVariants as phase
use Rattle.campaign_world.specs.HeldWorld.{HeldCampaign, WorldBecomes, Becomes, held_with}
use Rattle.campaign_world.specs.WorldInside.{IsPlanning}

-- the campaign that is planned: its server is the first one of the plan so far, and nothing was sent
abbrev pub planned_by : Planning → HeldCampaign
planned_by planning = record {
  time = 0;
  server = first_server planning.image.items planning.plan;
  devices = planning.devices.items;
  flash = planning.flash.items;
  sent = [];
  uplinks = [];
}

abbrev pub IsPlanningOf : Planning → Type 0
IsPlanningOf planning = IsPlanning planning.image.items planning.section planning.plan planning.devices.items

-- a line of the plan makes this of the campaign
abbrev pub PlanBecomes : (old new : Planning) → (WorldState → WorldState) → Type 0
PlanBecomes old new after = (lines : ℕ) (kept : Option LineError)
    → WorldBecomes (held_with lines old.section kept (planned_by old)) (held_with lines new.section kept (planned_by new)) after

-- so does one for which memory may be missing
abbrev pub PlanTakes : (lines : ℕ) → (old new : Planning) → {E : Type 0} → Result (Unit {0}) E → (WorldState → WorldState) → Type 0
PlanTakes lines old new result after =
    Becomes lines old.section new.section (planned_by old) (planned_by new) result after

-- ---- events come until the end

abbrev pub is_end : Form → Bool
is_end End = true
is_end form = false

abbrev pub section_by : (has_ended : Bool) → Section
section_by false = section.Events
section_by true = section.Ended

-- ---- a phase

abbrev pub held_of : Phase → HeldCampaign
held_of (phase.Planning planning) = planned_by planning
held_of (phase.Playing campaign has_ended) = campaign

abbrev pub section_of : Phase → Section
section_of (phase.Planning planning) = planning.section
section_of (phase.Playing campaign has_ended) = section_by has_ended

-- the campaign has not begun
abbrev pub is_planned : Phase → Bool
is_planned (phase.Planning planning) = true
is_planned (phase.Playing campaign has_ended) = false

-- a form makes this of the campaign
abbrev pub PhaseTakes : (lines : ℕ) → (old new : Phase) → {E : Type 0} → Result (Unit {0}) E → (WorldState → WorldState) → Type 0
PhaseTakes lines old new result after =
    Becomes lines (section_of old) (section_of new) (held_of old) (held_of new) result after

abbrev pub IsPhase : Phase → Type 0
IsPhase (phase.Planning planning) = IsPlanningOf planning
IsPhase (phase.Playing campaign has_ended) = Unit {0}

-- ---- a world

-- a campaign within a script's lines
pub record IsWorld (lines : ℕ) (phase : Phase) : Type 0 where
  pub counted : lines ≤ max_lines
  pub phase_is : IsPhase phase
