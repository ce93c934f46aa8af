-- When a line of two campaigns is refused (this project's profile): the causes in their order, tried after the lines before it.
-- What concerns both is here; the rest is what refuses it in its own campaign.
use Rattle.std.specs.Prelude.{ℕ, ◌+◌, Bool, true, false, ◌&&◌, ◌||◌, not, ◌==◌, nat_lt, nat_le, if◌then◌else◌, List, length, Option, Some, None, is_none}
use Rattle.wire_base.specs.Numbered.{numbered}
use Rattle.script_lines.specs.declared.forms.Campaign.{Campaign}
use Rattle.script_lines.specs.declared.forms.Campaign.TheVariants as campaign
use Rattle.script_lines.specs.declared.forms.Form.{Form}
use Rattle.script_lines.specs.declared.forms.Form.TheVariants as form
use Rattle.script_lines.specs.declared.forms.PairForm.{PairForm}
use Rattle.script_lines.specs.PairForms.{pair_form_of}
use Rattle.script_lines.specs.Limits.{max_lines, max_line}
use Rattle.script_lines.specs.Ranges.{in_range}
use Rattle.campaign_server.specs.declared.plan.PlanGroup.{PlanGroup}
use Rattle.campaign_server.specs.Plan.{Plan}
use Rattle.report_lines.specs.declared.faults.LineWhy.{LineWhy}
use Rattle.report_lines.specs.declared.faults.LineWhy.TheVariants as why
use Rattle.campaign_world.specs.declared.numbered.SentPayload.{SentPayload}
use Rattle.campaign_world.specs.declared.section.Section.{Section}
use Rattle.campaign_world.specs.declared.section.Section.TheVariants as section
use Rattle.campaign_world.specs.World.{WorldState}
use Rattle.campaign_world.specs.Causes.{is_event_or_end, is_in_order, takes_events, is_device, names_device, fits_flash, is_to_group, form_cause}
use Rattle.pair_run.specs.declared.targets.Way.{Way}
use Rattle.pair_run.specs.declared.targets.Way.TheVariants as way
use Rattle.pair_run.specs.Targets.{Target, Header, At, End, One, Across, Nobody, target_of}
use Rattle.pair_run.specs.Pair.{PairState, side, other}

-- ---- order

-- nothing of its plan came
abbrev pub is_unplanned : Section → Bool
is_unplanned section.Image = true
is_unplanned here = false

-- its plan is whole, and no device came
abbrev pub is_planned : Section → Bool
is_planned section.Group = true
is_planned section.Device = true
is_planned here = false

-- the plan of a comes before that of b, and both before the devices
abbrev pub plan_may_come : (a b : Section) → Option Campaign → Form → Bool
plan_may_come a b named (form.Device dev) =
    let device : Form = form.Device dev in
    is_in_order a device && is_in_order b device
plan_may_come a b None f = is_in_order a f && is_in_order b f
plan_may_come a b (Some campaign.A) f = is_in_order a f && is_unplanned b
plan_may_come a b (Some campaign.B) f = is_in_order b f && is_planned a

-- an event, or the end, may come where both campaigns have devices, and neither has ended
abbrev pub pair_may_come : (a b : Section) → Option Campaign → Form → Bool
pair_may_come a b named f =
    if is_event_or_end f then takes_events a && takes_events b else plan_may_come a b named f

-- ---- range

-- the groups have different ids and addresses
abbrev pub is_other_group : Option PlanGroup → (id addr : ℕ) → Bool
is_other_group None id addr = true
is_other_group (Some group) id addr = not (id == group.id) && not (addr == group.addr)

-- b is apart from what a plans
abbrev pub is_apart : Plan → Option Campaign → Form → Bool
is_apart plan (Some campaign.B) (form.Image frag_size parity index) = not (index == plan.index)
is_apart plan (Some campaign.B) (form.Group id addr key min max) = is_other_group plan.group id addr
is_apart plan named f = true

-- after so many devices in all the ID is the next
abbrev pub is_next : (count : ℕ) → Form → Bool
is_next count (form.Device dev) = dev.id == count + 1
is_next count f = true

-- ---- what refuses it in its own campaign

-- the payload goes this way; on the air only one to a group does, as its frame
abbrev pub goes_by : Way → SentPayload → Bool
goes_by way.Downlink sent = true
goes_by way.Air sent = is_to_group sent.down.to

-- the payload was sent to all
abbrev pub may_cross : Way → Option SentPayload → Bool
may_cross by None = false
may_cross by (Some sent) = is_none sent.receiver && goes_by by sent

-- a payload of one campaign's server at a device of the other: the device is there, the payload was sent to all
abbrev pub crossing_cause : Way → (from to : WorldState) → (number device : ℕ) → Option LineWhy
crossing_cause by from to number device =
    if not (is_device (length to.devices) device) then Some why.Device
    else if not (may_cross by (numbered from.sent number)) then Some why.Unsent
    else None

-- the cause of campaign a counts first
abbrev pub first_of : Option LineWhy → Option LineWhy → Option LineWhy
first_of None second = second
first_of (Some cause) second = Some cause

abbrev pub both_cause : PairState → Form → Option LineWhy
both_cause pair f = first_of (form_cause pair.a f) (form_cause pair.b f)

-- a line that both hear is refused where either refuses it
abbrev pub target_cause : PairState → Target → Option LineWhy
target_cause pair Header = both_cause pair form.Header
target_cause pair (At time) = both_cause pair (form.At time)
target_cause pair End = both_cause pair form.End
target_cause pair (One x f) = form_cause (side pair x) f
target_cause pair (Across x by number device word) =
    crossing_cause by (side pair x) (side pair (other x)) number device
target_cause pair Nobody = Some why.Device

-- ---- all causes, the first that holds

abbrev pub target_in : PairState → PairForm → Target
target_in pair pair_form = target_of pair.owners (length pair.a.devices) (length pair.b.devices) pair_form

-- what concerns both
unfoldable pub common_cause : PairState → PairForm → Option LineWhy
common_cause pair pair_form =
    let named = pair_form.campaign in
    let f = pair_form.form in
    if not (pair_may_come pair.a.section pair.b.section named f) then Some why.Order
    else if not (in_range f && is_next (length pair.owners) f && is_apart pair.a.server.plan named f) then Some why.Range
    else if not (names_device (length pair.owners) f) then Some why.Device
    else if not (fits_flash (length pair.a.flash + length pair.b.flash) f) then Some why.Limit
    else None

-- and then what refuses it in its own campaign
abbrev pub pair_form_cause : PairState → PairForm → Option LineWhy
pair_form_cause pair pair_form = first_of (common_cause pair pair_form) (target_cause pair (target_in pair pair_form))

abbrev pub cause_of_pair_form : PairState → Option PairForm → Option LineWhy
cause_of_pair_form pair None = Some why.Syntax
cause_of_pair_form pair (Some pair_form) = pair_form_cause pair pair_form

-- the cause for which the next line is refused, the first that holds; each campaign counts all lines
unfoldable pub pair_cause_of : PairState → (line : List ℕ) → Option LineWhy
pair_cause_of pair line =
    if nat_le max_lines pair.a.lines || nat_le max_lines pair.b.lines || nat_lt max_line (length line) then Some why.Limit
    else cause_of_pair_form pair (pair_form_of line)
