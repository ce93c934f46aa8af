-- Devices are independent of one another (this project's profile): the record of each is its own first one, folded over what its
-- script says of it. What is folded has no campaign: only what the lines say, the plan's group, and all payloads that were sent.
use Rattle.std.specs.Prelude.{◌≡◌, ℕ, ◌+◌, Bool, false, ◌==◌, if◌then◌else◌, List, [], ◌∷◌, ◌++◌, fold, filter_map, Option, Some, None, option_map, option_to_list, Ok}
use Rattle.device_core.specs.Device.{DeviceState}
use Rattle.device_core.specs.Events.{Event, Receives, after_event}
use Rattle.wire_base.specs.Numbered.{numbered}
use Rattle.campaign_server.specs.declared.plan.PlanGroup.{PlanGroup}
use Rattle.script_lines.specs.declared.forms.Form.{Form}
use Rattle.script_lines.specs.declared.forms.Form.TheVariants.{Device, At, Wake, Migrate, Down, Raw, Air, RawAir}
use Rattle.campaign_world.specs.declared.numbered.SentPayload.{SentPayload}
use Rattle.campaign_world.specs.World.{WorldState}
use Rattle.campaign_world.specs.Said.{Own, Reached, Line}
use Rattle.campaign_world.specs.Making.{device_of, event_of}
use Rattle.campaign_world.specs.Script.{campaign_of}

-- ---- what the lines of a script say of it

-- a device line gives a device, as it is first
abbrev pub device_in : Line → Option DeviceState
device_in (Ok (Own (Device dev))) = Some (device_of dev)
device_in line = None

-- the devices of a script, in the order of their IDs, as they are first
abbrev pub first_devices : (lines : List Line) → List DeviceState
first_devices lines = filter_map device_in lines

-- the time after a line: an `at` line says it
abbrev pub time_after : (now : ℕ) → Line → ℕ
time_after now (Ok (Own (At time))) = time
time_after now line = now

-- a line of these names the device at which something happens
abbrev pub happens_at : (id : ℕ) → Form → Bool
happens_at id (Wake device) = device == id
happens_at id (Migrate device) = device == id
happens_at id (Down number device word) = device == id
happens_at id (Raw device port payload word) = device == id
happens_at id (Air number device word) = device == id
happens_at id (RawAir device bytes word) = device == id
happens_at id form = false

-- what a line with this number lets happen at device id, at this time, where this is the plan's group
abbrev pub event_in : (id : ℕ) → Option PlanGroup → List SentPayload → (time number : ℕ) → Line → Option Event
event_in id group sent time number (Ok (Own form)) = if happens_at id form then event_of group sent time number form else None
event_in id group sent time number (Ok (Reached device word down)) =
    if device == id then Some (Receives time word number down) else None
event_in id group sent time number line = None

-- what lines let happen at device id: from this time on, where the first of them has this number
unfoldable pub history_of : (id : ℕ) → Option PlanGroup → List SentPayload → (time number : ℕ) → (lines : List Line) → List Event
history_of id group sent time number [] = []
history_of id group sent time number (line ∷ rest) =
    option_to_list (event_in id group sent time number line)
    ++ history_of id group sent (time_after time line) (number + 1) rest

-- the device of a script's device line with this ID, after what these first lines of the script let happen at it
abbrev pub record_behind : (lines first : List Line) → Option PlanGroup → List SentPayload → (id : ℕ) → Option DeviceState
record_behind lines first group sent id =
    option_map (λ device. fold after_event device (history_of id group sent 0 1 first)) (numbered (first_devices lines) id)

-- ---- the law

-- after all lines: each device line's device, after its own history
abbrev pub own_record : (lines : List Line) → Option PlanGroup → List SentPayload → (id : ℕ) → Option DeviceState
own_record lines group sent id = record_behind lines lines group sent id

-- for any image and any accepted lines
abbrev pub DevicesAreIndependent : Type 0
DevicesAreIndependent = (image : List ℕ) (lines : List Line) (world : WorldState) (id : ℕ) → campaign_of image lines ≡ Ok world
    → numbered world.devices id ≡ own_record lines world.server.plan.group world.sent id
