-- The causes of a form, form by form: those that it can have, in their order. What a form is tested against is known of a
-- campaign that is planned, and of one that plays.
use Rattle.std.specs.Prelude.{ℕ, Bool, true, ◌&&◌, ◌==◌, not, nat_le, if◌then◌else◌, List, [], length, Option, Some, None, is_some, is_ok}
use Rattle.std.specs.List.{list_any}
use Rattle.wire_base.specs.Payload.{max_payload}
use Rattle.wire_base.specs.Numbered.{numbered}
use Rattle.campaign_server.specs.Fragments.{next_fragment, status_to_all}
use Rattle.script_lines.specs.declared.forms.Form.{Form}
use Rattle.script_lines.specs.declared.forms.Form.TheVariants.{At, Wake, Migrate, Power, Ask, Frag, Status, Down, Raw, Air, RawAir, Up, End}
use Rattle.script_lines.specs.Limits.{max_time}
use Rattle.script_lines.specs.Ranges.{in_range, is_u32}
use Rattle.report_lines.specs.declared.faults.LineWhy.{LineWhy}
use Rattle.report_lines.specs.declared.faults.LineWhy.TheVariants as why
use Rattle.campaign_world.specs.declared.section.Section.{Section}
use Rattle.campaign_world.specs.declared.numbered.SentPayload.{SentPayload}
use Rattle.campaign_world.specs.declared.numbered.NumberedUplink.{NumberedUplink}
use Rattle.campaign_world.specs.declared.world.planning.Planning.{Planning}
use Rattle.campaign_world.specs.Causes.{is_event_or_end, is_in_order, fits_script, fits_flash, is_device, may_reach, goes_out, is_due_by}
use Rattle.campaign_world.specs.HeldWorld.{HeldCampaign}

-- the cause of a test that fails, else what follows
abbrev pub unless : Bool → LineWhy → Option LineWhy → Option LineWhy
unless test cause rest = if not test then Some cause else rest

-- ---- what a form is tested against

-- how many devices there are, and which have a flash, by their IDs; the time in ms; and the campaign, if it plays
pub record Facts : Type 0 where
  pub count : ℕ
  pub flash : List ℕ
  pub time : ℕ
  pub campaign : Option HeldCampaign

-- of a campaign that is planned
abbrev pub planned_facts : Planning → Facts
planned_facts planning = record { count = length planning.devices.items; flash = planning.flash.items; time = 0; campaign = None }

-- of a campaign that plays
abbrev pub played_facts : HeldCampaign → Facts
played_facts held = record { count = length held.devices; flash = held.flash; time = held.time; campaign = Some held }

-- before the first event nothing was sent or made, and there is something to send
abbrev pub sent_of : Option HeldCampaign → List SentPayload
sent_of None = []
sent_of (Some held) = held.sent

-- what was made
abbrev pub uplinks_of : Option HeldCampaign → List NumberedUplink
uplinks_of None = []
uplinks_of (Some held) = held.uplinks

-- whether there is a fragment to send
abbrev pub has_fragment : Option HeldCampaign → Bool
has_fragment None = true
has_fragment (Some held) = is_ok (next_fragment held.server)

-- whether there is a status request to send to the group
abbrev pub has_status : Option HeldCampaign → Bool
has_status None = true
has_status (Some held) = is_some (status_to_all held.server)

-- ---- an event, and the end

-- a time beyond the last one, or before now
abbrev pub at_cause : (now time : ℕ) → Option LineWhy
at_cause now time = unless (nat_le time max_time) why.Range (unless (nat_le now time) why.Time None)

-- a device that is not there
abbrev pub device_cause : (count device : ℕ) → Option LineWhy
device_cause count device = unless (is_device count device) why.Device None

-- a device that is not there, or has no flash
abbrev pub power_cause : (count : ℕ) → (flash : List ℕ) → (device : ℕ) → Option LineWhy
power_cause count flash device =
    unless (is_device count device && list_any (λ id. id == device) flash) why.Device None

-- with a random word, at a device
abbrev pub word_cause : (count device word : ℕ) → (rest : Option LineWhy) → Option LineWhy
word_cause count device word rest = unless (is_u32 word) why.Range (unless (is_device count device) why.Device rest)

-- a payload that was not sent, or to others
abbrev pub down_cause : (count : ℕ) → List SentPayload → (number device word : ℕ) → Option LineWhy
down_cause count sent number device word =
    word_cause count device word (unless (may_reach device (numbered sent number)) why.Unsent None)

-- a payload that is none, or longer than a payload may be
abbrev pub raw_cause : (count device port : ℕ) → (payload : List ℕ) → (word : ℕ) → Option LineWhy
raw_cause count device port payload word =
    unless (nat_le port 255 && is_u32 word) why.Range
    (unless (is_device count device) why.Device
    (unless (nat_le (length payload) max_payload) why.Limit None))

-- as `down`, and the payload goes out in no frame
abbrev pub air_cause : (count : ℕ) → List SentPayload → (number device word : ℕ) → Option LineWhy
air_cause count sent number device word =
    word_cause count device word (unless (may_reach device (numbered sent number) && goes_out (numbered sent number)) why.Unsent None)

-- a word or a device that is not there
abbrev pub raw_air_cause : (count device word : ℕ) → Option LineWhy
raw_air_cause count device word = word_cause count device word None

-- an uplink that was not made, or is not due yet
abbrev pub up_cause : (now : ℕ) → List NumberedUplink → (number : ℕ) → Option LineWhy
up_cause now uplinks number = unless (is_due_by now (numbered uplinks number)) why.Unsent None

-- where events may come
abbrev pub event_cause : Facts → Form → Option LineWhy
event_cause facts (At time) = at_cause facts.time time
event_cause facts (Wake device) = device_cause facts.count device
event_cause facts (Migrate device) = device_cause facts.count device
event_cause facts (Power device) = power_cause facts.count facts.flash device
event_cause facts (Ask device) = device_cause facts.count device
event_cause facts Frag = unless (has_fragment facts.campaign) why.Limit None
event_cause facts Status = unless (has_status facts.campaign) why.Limit None
event_cause facts (Down number device word) = down_cause facts.count (sent_of facts.campaign) number device word
event_cause facts (Raw device port payload word) = raw_cause facts.count device port payload word
event_cause facts (Air number device word) = air_cause facts.count (sent_of facts.campaign) number device word
event_cause facts (RawAir device bytes word) = raw_air_cause facts.count device word
event_cause facts (Up number) = up_cause facts.time (uplinks_of facts.campaign) number
event_cause facts End = None
event_cause facts form = Some why.Order

-- ---- a line of the plan, or the first event

-- an image of this size is planned
abbrev pub plan_cause : (size : ℕ) → Facts → Form → Option LineWhy
plan_cause size facts form =
    unless (in_range form && fits_script size facts.count form) why.Range
    (unless (fits_flash (length facts.flash) form) why.Limit None)

-- a line in its order that is an event, the end, or of the plan
abbrev pub planned_cause : Section → (size : ℕ) → Facts → Form → Option LineWhy
planned_cause section size facts form =
    unless (is_in_order section form) why.Order
    (if is_event_or_end form then event_cause facts form else plan_cause size facts form)
