-- What a world holds, for which campaigns it stands, and what it answers.
use Rattle.std.specs.Prelude.{◌≡◌, ℕ, ◌+◌, List, [], ◌∷◌, length, Option, Some, None, Result, Ok, Err, OnOk, true}
use Rattle.std.specs.List.{AllZip}
use Rattle.device_core.specs.Device.{DeviceState}
use Rattle.campaign_server.specs.Server.{ServerState}
use Rattle.report_lines.specs.declared.faults.LineWhy.{LineWhy}
use Rattle.report_lines.specs.declared.faults.LineError.{LineError}
use Rattle.report_lines.specs.declared.faults.LineError.TheVariants as error
use Rattle.campaign_world.specs.declared.numbered.SentPayload.{SentPayload}
use Rattle.campaign_world.specs.declared.numbered.NumberedUplink.{NumberedUplink}
use Rattle.campaign_world.specs.declared.section.Section.{Section}
use Rattle.campaign_world.specs.declared.section.Section.TheVariants as section
use Rattle.campaign_world.specs.World.{WorldState}
use Rattle.campaign_world.specs.HeldLate.{Late, DeviceRests}
use Rattle.package_grammar.specs.declared.downlink.Downlink.{Downlink}
use Rattle.script_lines.specs.declared.forms.Form.{Form}
use Rattle.script_lines.specs.Ranges.{in_range}
use Rattle.campaign_world.specs.Causes.{fits_script, names_device, is_available, fits_payload, form_cause, cause_of}
use Rattle.campaign_world.specs.Said.{line_of}
use Rattle.campaign_world.specs.Script.{after_line, end_result}
use Rattle.campaign_world.specs.Report.{report_of}
use Rattle.campaign_world.specs.Summary.{summary_of}

-- a campaign without the histories of its devices, whether it is planned or plays
pub record HeldCampaign : Type 0 where
  pub time : ℕ
  pub server : ServerState
  pub devices : List Late
  pub flash : List ℕ
  pub sent : List SentPayload
  pub uplinks : List NumberedUplink

-- a world without them
pub record HeldWorld : Type 0 where
  pub lines : ℕ
  pub section : Section
  pub time : ℕ
  pub server : ServerState
  pub devices : List Late
  pub flash : List ℕ
  pub sent : List SentPayload
  pub uplinks : List NumberedUplink
  pub kept : Option LineError

-- the world after so many lines, at a section, that holds this campaign
abbrev pub held_with : (lines : ℕ) → Section → (kept : Option LineError) → HeldCampaign → HeldWorld
held_with lines section kept held = record {
  lines = lines;
  section = section;
  time = held.time;
  server = held.server;
  devices = held.devices;
  flash = held.flash;
  sent = held.sent;
  uplinks = held.uplinks;
  kept = kept;
}

-- the campaign that it stands for, with these devices
abbrev pub world_of : HeldWorld → List DeviceState → WorldState
world_of held devices = record {
  lines = held.lines;
  section = held.section;
  time = held.time;
  server = held.server;
  devices = devices;
  flash = held.flash;
  sent = held.sent;
  uplinks = held.uplinks;
}

abbrev pub DevicesRest : List Late → List DeviceState → Type 0
DevicesRest = AllZip DeviceRests

-- ---- the world

-- its devices stand for the campaign's, and all else is equal
pub record WorldStands (held : HeldWorld) (world : WorldState) : Type 0 where
  pub devices : DevicesRest held.devices world.devices
  pub rest : world ≡ world_of held world.devices

-- for any campaign that was stood for, this one of it is stood for now
abbrev pub WorldBecomes : (old new : HeldWorld) → (WorldState → WorldState) → Type 0
WorldBecomes old new after = (world : WorldState) → WorldStands old world → WorldStands new (after world)

-- both ends stand for the campaign's
pub record EndsStand (held : HeldWorld) (world : WorldState) : Type 0 where
  pub devices : DevicesRest held.devices world.devices
  pub server : world.server ≡ held.server

-- for any campaign that was stood for, its devices and its server are stood for now
abbrev pub KeepsEnds : (old new : HeldWorld) → Type 0
KeepsEnds old new = (world : WorldState) → WorldStands old world → EndsStand new world

-- the answer to a line with this number and first cause: it was taken, or it is the first refused line, or memory was missing
abbrev pub IsAnswerTo : {S : Type 0} → Option LineWhy → (number : ℕ) → (here behind : S) → (kept : Option LineError) → (stands : S → Type 0)
    → Result (Unit {0}) LineError → Type 0
IsAnswerTo cause number here behind kept stands (Ok done) = (cause ≡ None) × stands behind × (kept ≡ None)
IsAnswerTo cause number here behind kept stands (Err (error.Line fault)) = (cause ≡ Some fault.why) × (fault.line ≡ number) × stands here
IsAnswerTo cause number here behind kept stands (Err error.Memory) = Unit {0}

abbrev pub IsLineAnswer : WorldState → (line : List ℕ) → (new : HeldWorld) → Result (Unit {0}) LineError → Type 0
IsLineAnswer world line new result =
    IsAnswerTo (cause_of world (line_of line)) (world.lines + 1) world (after_line world (line_of line)) new.kept (WorldStands new) result

-- the answer of a text: that one, where the script has ended, else that it has not
abbrev pub IsTextOf : (WorldState → List ℕ) → WorldState → Result (List ℕ) LineError → Type 0
IsTextOf text_of world (Ok text) = (end_result (Ok world) ≡ Ok world) × (text ≡ text_of world)
IsTextOf text_of world (Err (error.Line fault)) = end_result (Ok world) ≡ Err fault
IsTextOf text_of world (Err error.Memory) = Unit {0}

abbrev pub IsReport : WorldState → Result (List ℕ) LineError → Type 0
IsReport = IsTextOf report_of

abbrev pub IsSummary : WorldState → Result (List ℕ) LineError → Type 0
IsSummary = IsTextOf summary_of

-- the answer to whether the script has ended
abbrev pub IsEnded : WorldState → Result (Unit {0}) LineError → Type 0
IsEnded world (Ok done) = end_result (Ok world) ≡ Ok world
IsEnded world (Err (error.Line fault)) = end_result (Ok world) ≡ Err fault
IsEnded world (Err error.Memory) = ⊥

-- ---- what its private calls ask and answer

-- the answer of a call that answers anything where the script has ended, else that it has not
abbrev pub IsEndAnswer : {A : Type 0} → WorldState → Result A LineError → Type 0
IsEndAnswer world (Ok answer) = end_result (Ok world) ≡ Ok world
IsEndAnswer world (Err (error.Line fault)) = end_result (Ok world) ≡ Err fault
IsEndAnswer world (Err error.Memory) = ⊥

-- no cause holds of the form, whatever it stands for
abbrev pub IsFine : HeldWorld → Form → Type 0
IsFine held form = (devices : List DeviceState) → length devices ≡ length held.devices → form_cause (world_of held devices) form ≡ None

-- a payload that was sent, if one was
abbrev pub sent_by : (receiver : Option ℕ) → Option Downlink → List SentPayload
sent_by receiver None = []
sent_by receiver (Some down) = record { receiver = receiver; down = down } ∷ []

-- the server's answer, where it took the uplink
abbrev pub answered : {A E : Type 0} → Result (Option A) E → Option A
answered (Ok answer) = answer
answered (Err refusal) = None

-- of what was tested of a form before it is carried out, what its call asks for
pub record IsTested (held : HeldCampaign) (form : Form) : Type 0 where
  pub ranges : in_range form ≡ true
  pub fits : fits_script (length held.server.image) (length held.devices) form ≡ true
  pub names : names_device (length held.devices) form ≡ true
  pub available : is_available held.sent held.uplinks held.time form ≡ true
  pub short : fits_payload form ≡ true

-- where it is Ok, any world that held the campaign becomes this, from one section to another
abbrev pub Becomes : (lines : ℕ) → (here there : Section) → (old new : HeldCampaign) → {E : Type 0} → Result (Unit {0}) E
    → (WorldState → WorldState) → Type 0
Becomes lines here there old new result after =
    (kept : Option LineError) → OnOk result (WorldBecomes (held_with lines here kept old) (held_with lines there kept new) after)

-- so does one that plays, from any section
abbrev pub Plays : (lines : ℕ) → (old new : HeldCampaign) → {E : Type 0} → Result (Unit {0}) E → (WorldState → WorldState) → Type 0
Plays lines old new result after = (here : Section) → Becomes lines here section.Events old new result after

-- devices and server are as they were
pub record SameEnds (old new : HeldCampaign) : Type 0 where
  pub devices : new.devices ≡ old.devices
  pub server : new.server ≡ old.server
