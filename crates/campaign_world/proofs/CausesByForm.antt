-- The causes that a form can have, in their order, are all that there are.
use Rattle.std.proofs.Common.{◌≡◌, ◌∙◌, ℕ, Bool, true, false, ◌&&◌, List, length, nat_le, Option, None, Some, is_ok, is_some, refl, sym, ap}
use Rattle.std.proofs.lemmas.Bool.{leb-true, and_parts}
use Rattle.device_core.specs.Device.{DeviceState}
use Rattle.campaign_server.specs.Fragments.{next_fragment, status_to_all}
use Rattle.script_lines.specs.declared.forms.Form.{Form}
use Rattle.script_lines.specs.declared.forms.Form.TheVariants as form
use Rattle.script_lines.specs.Ranges.{in_range, is_u32}
use Rattle.script_lines.specs.Limits.{max_time}
use Rattle.report_lines.specs.declared.faults.LineError.{LineError}
use Rattle.report_lines.specs.declared.faults.LineWhy.{LineWhy}
use Rattle.report_lines.specs.declared.faults.LineWhy.TheVariants as why
use Rattle.campaign_world.specs.declared.world.planning.Planning.{Planning}
use Rattle.campaign_world.specs.declared.world.phase.Phase.{Phase}
use Rattle.campaign_world.specs.declared.world.phase.Phase.TheVariants as phases
use Rattle.campaign_world.specs.declared.section.Section.TheVariants as section
use Rattle.campaign_world.specs.World.{WorldState}
use Rattle.campaign_world.specs.Causes.{is_device, is_in_order, is_event_or_end, fits_script, fits_flash, form_cause}
use Rattle.campaign_world.specs.HeldCauses.{Facts, unless, sent_of, uplinks_of, has_fragment, has_status, planned_facts, played_facts, event_cause, plan_cause, planned_cause}
use Rattle.campaign_world.specs.HeldWorld.{HeldCampaign, held_with, world_of}
use Rattle.campaign_world.specs.PhaseInside.{IsPhase, IsPlanningOf, planned_by, held_of, section_of}
use Rattle.campaign_world.proofs.FormCauses.{order, begins_at, first_fragment, first_status}

-- a test that always holds adds nothing to another one
and_true : (test : Bool) (cause : LineWhy) (rest : Option LineWhy) → unless test cause rest ≡ unless (test && true) cause rest
and_true true cause rest = refl
and_true false cause rest = refl

both : (range name : Bool) (rest : Option LineWhy) → unless range why.Range (unless name why.Device rest)
    ≡ unless (range && true) why.Range (unless (name && true) why.Device rest)
both range name rest =
    ap (λ (o : Option LineWhy). unless range why.Range o) (and_true name why.Device rest) ∙ and_true range why.Range _

limited : (range room : Bool) → unless range why.Range (unless room why.Limit None)
    ≡ unless range why.Range (unless (room && true) why.Limit None)
limited range room = ap (λ (o : Option LineWhy). unless range why.Range o) (and_true room why.Limit None)

-- the campaign is one of which these facts hold
pub record Agrees (world : WorldState) (facts : Facts) : Type 0 where
  pub count : length world.devices ≡ facts.count
  pub flash : world.flash ≡ facts.flash
  pub time : world.time ≡ facts.time
  pub sent : world.sent ≡ sent_of facts.campaign
  pub uplinks : world.uplinks ≡ uplinks_of facts.campaign
  pub fragment : is_ok (next_fragment world.server) ≡ has_fragment facts.campaign
  pub status : is_some (status_to_all world.server) ≡ has_status facts.campaign

of_event : (world : WorldState) (facts : Facts) (f : Form) → Agrees world facts → is_in_order world.section f ≡ true
    → is_event_or_end f ≡ true → event_cause facts f ≡ form_cause world f
unfolding form_cause in_range
of_event world facts (form.At time) a comes event = rw (comes, a.time) (and_true (nat_le time max_time) why.Range _)
of_event world facts (form.Wake device) a comes event = rw (comes, a.count) (and_true (is_device facts.count device) why.Device _)
of_event world facts (form.Migrate device) a comes event = rw (comes, a.count) (and_true (is_device facts.count device) why.Device _)
of_event world facts (form.Power device) a comes event = rw (comes, a.count, a.flash) refl
of_event world facts (form.Ask device) a comes event = rw (comes, a.count) (and_true (is_device facts.count device) why.Device _)
of_event world facts form.Frag a comes event = rw (comes, a.fragment) refl
of_event world facts form.Status a comes event = rw (comes, a.status) refl
of_event world facts (form.Down number device word) a comes event =
    rw (comes, a.count, a.sent) (both (is_u32 word) (is_device facts.count device) _)
of_event world facts (form.Raw device port payload word) a comes event =
    rw (comes, a.count) (both (nat_le port 255 && is_u32 word) (is_device facts.count device) _)
of_event world facts (form.Air number device word) a comes event =
    rw (comes, a.count, a.sent) (both (is_u32 word) (is_device facts.count device) _)
of_event world facts (form.RawAir device bytes word) a comes event =
    rw (comes, a.count) (both (is_u32 word) (is_device facts.count device) _)
of_event world facts (form.Up number) a comes event = rw (comes, a.uplinks, a.time) refl
of_event world facts form.End a comes event = rw (comes) refl
of_event world facts form.Header a comes event = absurd cc
of_event world facts (form.Image frag_size parity index) a comes event = absurd cc
of_event world facts (form.Group id addr key min max) a comes event = absurd cc
of_event world facts (form.WindowC start timeout freq dr) a comes event = absurd cc
of_event world facts (form.WindowB start periodicity timeout freq dr) a comes event = absurd cc
of_event world facts (form.Device dev) a comes event = absurd cc

of_plan : (world : WorldState) (size : ℕ) (facts : Facts) (f : Form) → length world.server.image ≡ size
    → length world.devices ≡ facts.count → world.flash ≡ facts.flash → is_in_order world.section f ≡ true → is_event_or_end f ≡ false
    → plan_cause size facts f ≡ form_cause world f
unfolding form_cause in_range
of_plan world size facts form.Header sized count ids comes plan = rw (comes) refl
of_plan world size facts (form.Image frag_size parity index) sized count ids comes plan = rw (comes, sized) refl
of_plan world size facts (form.Group id addr key min max) sized count ids comes plan = rw (comes) refl
of_plan world size facts (form.WindowC start timeout freq dr) sized count ids comes plan = rw (comes) refl
of_plan world size facts (form.WindowB start periodicity timeout freq dr) sized count ids comes plan = rw (comes) refl
of_plan world size facts (form.Device dev) sized count ids comes plan =
    rw (comes, count, ids) (limited
    (in_range (form.Device dev) && fits_script size facts.count (form.Device dev))
    (fits_flash (length facts.flash) (form.Device dev)))
of_plan world size facts f sized count ids comes plan = absurd cc

-- while the campaign is planned
of_planning : (lines : ℕ) (kept : Option LineError) (planning : Planning) (devices : List DeviceState) (f : Form) → IsPlanningOf planning
    → length devices ≡ length planning.devices.items
    → planned_cause planning.section (length planning.image.items) (planned_facts planning) f
    ≡ form_cause (world_of (held_with lines planning.section kept (planned_by planning)) devices) f
of_planning lines kept planning devices f is count = by_place (is_in_order planning.section f) refl
  where
    world : WorldState
    world = world_of (held_with lines planning.section kept (planned_by planning)) devices

    agrees : is_in_order planning.section f ≡ true → is_event_or_end f ≡ true → Agrees world (planned_facts planning)
    agrees comes event =
        let begins = begins_at planning.image.items planning.section planning.plan planning.devices.items f event comes is in
        let some = leb-true _ _ (and_parts _ _ (and_parts _ _ begins.sized.size).0).0 in record {
          count = count;
          flash = refl;
          time = refl;
          sent = refl;
          uplinks = refl;
          fragment = first_fragment planning.image.items planning.plan is.image_is some begins.sized.grouped;
          status = first_status planning.image.items planning.plan begins.sized.grouped;
        }

    by_kind : (event : Bool) → is_event_or_end f ≡ event → is_in_order planning.section f ≡ true
        → planned_cause planning.section (length planning.image.items) (planned_facts planning) f ≡ form_cause world f
    by_kind true event comes = rw (comes, event) (of_event world (planned_facts planning) f (agrees comes event) comes event)
    by_kind false plan comes =
        rw (comes, plan) (of_plan world (length planning.image.items) (planned_facts planning) f refl count refl comes plan)

    by_place : (comes : Bool) → is_in_order planning.section f ≡ comes
        → planned_cause planning.section (length planning.image.items) (planned_facts planning) f ≡ form_cause world f
    by_place true comes = by_kind (is_event_or_end f) refl comes
    by_place false out = rw (out) (sym (order world f out))

pub of_planned : (lines : ℕ) (kept : Option LineError) (phase : Phase) (planning : Planning) (devices : List DeviceState) (f : Form)
    (cause : Option LineWhy) → phase ≡ phases.Planning planning → IsPhase phase → length devices ≡ length (held_of phase).devices
    → cause ≡ planned_cause planning.section (length planning.image.items) (planned_facts planning) f
    → cause ≡ form_cause (world_of (held_with lines (section_of phase) kept (held_of phase)) devices) f
of_planned lines kept phase planning devices f cause is here count gives =
    let planned : IsPlanningOf planning = rw is at here in
    let long : length devices ≡ length planning.devices.items = rw is at count in
    rw (is, gives) (of_planning lines kept planning devices f planned long)

-- while it plays
pub of_played : (lines : ℕ) (kept : Option LineError) (phase : Phase) (held : HeldCampaign) (has_ended : Bool) (devices : List DeviceState)
    (f : Form) (cause : Option LineWhy) → phase ≡ phases.Playing held has_ended → has_ended ≡ false
    → length devices ≡ length (held_of phase).devices → cause ≡ event_cause (played_facts held) f
    → cause ≡ form_cause (world_of (held_with lines (section_of phase) kept (held_of phase)) devices) f
of_played lines kept phase held has_ended devices f cause is over count gives =
    let long : length devices ≡ length held.devices = rw is at count in
    rw (is, over, gives) (by_kind (is_event_or_end f) refl long)
  where
    world : WorldState
    world = world_of (held_with lines section.Events kept held) devices

    plan_now : (f : Form) → is_event_or_end f ≡ false → event_cause (played_facts held) f ≡ Some why.Order
    plan_now form.Header plan = refl
    plan_now (form.Image frag_size parity index) plan = refl
    plan_now (form.Group id addr key min max) plan = refl
    plan_now (form.WindowC start timeout freq dr) plan = refl
    plan_now (form.WindowB start periodicity timeout freq dr) plan = refl
    plan_now (form.Device dev) plan = refl
    plan_now f plan = absurd cc

    by_kind : (event : Bool) → is_event_or_end f ≡ event → length devices ≡ length held.devices
        → event_cause (played_facts held) f ≡ form_cause world f
    by_kind true event count = of_event world (played_facts held) f
        (record { count = count; flash = refl; time = refl; sent = refl; uplinks = refl; fragment = refl; status = refl }) event event
    by_kind false plan count = plan_now f plan ∙ sym (order world f plan)

-- after its end
pub of_ended : (lines : ℕ) (kept : Option LineError) (phase : Phase) (held : HeldCampaign) (has_ended : Bool) (devices : List DeviceState)
    (f : Form) → phase ≡ phases.Playing held has_ended → has_ended ≡ true
    → Some why.Order ≡ form_cause (world_of (held_with lines (section_of phase) kept (held_of phase)) devices) f
of_ended lines kept phase held has_ended devices f is over =
    rw (is, over) (sym (order (world_of (held_with lines section.Ended kept held) devices) f refl))
