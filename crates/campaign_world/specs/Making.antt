-- How a form that is not refused changes a campaign (this project's profile).
use Rattle.std.specs.Prelude.{ℕ, ◌+◌, ◌-◌, Bool, true, false, List, [], ◌∷◌, ◌++◌, map, slice_set, if◌then◌else◌, Option, Some, None, option_map, Result, Ok, Err}
use Rattle.std.specs.Result.{result_ok}
use Rattle.wire_base.specs.declared.refusal.Refusal.{Refusal}
use Rattle.package_grammar.specs.declared.downlink.Downlink.{Downlink}
use Rattle.package_grammar.specs.declared.downlink.To.TheVariants.{Unicast}
use Rattle.mc_keys.specs.declared.root_kind.RootKind.{RootKind}
use Rattle.mc_keys.specs.declared.root_kind.RootKind.TheVariants.{V10, V11}
use Rattle.device_core.specs.declared.config.Class.{Class as DeviceClass}
use Rattle.device_core.specs.declared.config.Class.TheVariants as device_class
use Rattle.device_core.specs.Configuration.{Configuration}
use Rattle.device_core.specs.declared.uplink.Uplink.{Uplink}
use Rattle.device_core.specs.Device.{DeviceState, first_device, max_area, size_for}
use Rattle.device_core.specs.Events.{Event, Wakes, Receives, HearsBytes, Migrates, event_step, uplinks_taken}
use Rattle.campaign_server.specs.Framing.{has_frame, frame_for}
use Rattle.campaign_server.specs.declared.plan.PlanGroup.{PlanGroup}
use Rattle.campaign_server.specs.declared.plan.Kind.{Kind}
use Rattle.campaign_server.specs.declared.plan.Kind.TheVariants as kind
use Rattle.campaign_server.specs.Plan.{Plan}
use Rattle.campaign_server.specs.Server.{DownlinkCommand, first_server, downlink_of}
use Rattle.wire_base.specs.Numbered.{numbered}
use Rattle.campaign_server.specs.Asking.{request_of}
use Rattle.campaign_server.specs.Fragments.{next_fragment, after_fragment, status_to_all, after_status_to_all}
use Rattle.campaign_server.specs.Uplinks.{UplinkStep, uplink_step}
use Rattle.script_lines.specs.declared.forms.Class.{Class}
use Rattle.script_lines.specs.declared.forms.DeviceLine.{DeviceLine}
use Rattle.script_lines.specs.declared.forms.Class.TheVariants as class
use Rattle.script_lines.specs.declared.forms.Form.{Form}
use Rattle.script_lines.specs.declared.forms.Form.TheVariants.{Header, Image, Group, WindowC, WindowB, Device, At, Wake, Migrate, Power, Ask, Frag, Status, Down, Raw, Air, RawAir, Up, End}
use Rattle.campaign_world.specs.declared.section.Section.{Section}
use Rattle.campaign_world.specs.declared.section.Section.TheVariants as section
use Rattle.campaign_world.specs.declared.numbered.SentPayload.{SentPayload}
use Rattle.campaign_world.specs.declared.numbered.NumberedUplink.{NumberedUplink}
use Rattle.campaign_world.specs.World.{WorldState}
use Rattle.campaign_world.specs.Said.{Said, Own, Elsewhere, Reached}

-- ---- the plan

-- the plan so far is another one, and the next section begins
abbrev pub with_plan : WorldState → Plan → Section → WorldState
with_plan world plan next = record world { server = first_server world.server.image plan; section = next }

-- the plan with its window
abbrev pub with_window : Plan → Kind → (start timeout freq dr : ℕ) → Plan
with_window plan kind start timeout freq dr =
    record plan { window = Some (record { kind = kind; start = start; timeout = timeout; freq = freq; dr = dr }) }

-- the class of a device line
abbrev pub class_of : Class → DeviceClass
class_of class.A = device_class.A
class_of class.C = device_class.C

-- a device knows only image format 1, or both
abbrev pub formats_of : (v1 : Bool) → ℕ
formats_of true = 1
formats_of false = 2

-- the key is the AppKey of LoRaWAN 1.1, or the GenAppKey of LoRaWAN 1.0
abbrev pub root_of : (k11 : Bool) → RootKind
root_of true = V11
root_of false = V10

-- bytes of flash for a session, for any file that the area takes
abbrev pub flash_span : ℕ
flash_span = 631573

-- the flash for a session, where sessions are held
abbrev pub span_of : (held : Bool) → ℕ
span_of held = if held then flash_span else 0

-- a device has 4 sessions, 4 groups, and an area for the largest file
abbrev pub config_of : DeviceLine → Configuration
config_of dev = record {
  class = class_of dev.class;
  hw = dev.hw;
  formats = formats_of dev.v1;
  rows = dev.rows;
  offset = dev.offset;
  key = dev.key;
  root = root_of dev.k11;
  descriptor = dev.descriptor;
  sessions = 4;
  groups = 4;
  area = max_area;
  held = dev.flash;
  span = span_of dev.flash;
  size = size_for dev.rows;
}

abbrev pub device_of : DeviceLine → DeviceState
device_of dev = first_device (config_of dev)

-- after its line a device with a flash is one of them
abbrev pub with_flash : (ids : List ℕ) → (id : ℕ) → (flash : Bool) → List ℕ
with_flash ids id flash = if flash then ids ++ id ∷ [] else ids

-- one device more, the last line of the plan so far
abbrev pub with_joined : WorldState → (id : ℕ) → Configuration → WorldState
with_joined world id config =
    let plan = record world.server.plan {
      devices = world.server.plan.devices ++ record { key = config.key; root = config.root } ∷ [];
    } in
    with_plan (record world {
      devices = world.devices ++ first_device config ∷ [];
      flash = with_flash world.flash id config.held;
    }) plan section.Devices

-- ---- what goes down

-- a payload is sent, and numbered
abbrev pub with_sent : WorldState → (receiver : Option ℕ) → Option DownlinkCommand → WorldState
with_sent world receiver None = world
with_sent world receiver (Some down) =
    record world { sent = world.sent ++ record { receiver = receiver; down = downlink_of down } ∷ [] }

-- ---- what comes up

-- an uplink of a device
abbrev pub made_by : (device : ℕ) → Uplink → NumberedUplink
made_by device uplink = record { device = device; uplink = uplink }

-- after an event at a device its uplinks are taken, the oldest first, and numbered
unfoldable pub with_device : WorldState → (n : ℕ) → DeviceState → WorldState
with_device world n device = record world {
  devices = slice_set world.devices (n - 1) (uplinks_taken device);
  uplinks = world.uplinks ++ map (λ uplink. made_by n uplink) device.outbox;
}

-- ---- events

-- anybody's payload, by unicast
abbrev pub raw_down : (port : ℕ) → (payload : List ℕ) → Downlink
raw_down port payload = record { to = Unicast; port = port; payload = payload }

-- a sent payload reaches a device; the mark is the line
abbrev pub reception : (time word line : ℕ) → Option SentPayload → Option Event
reception time word line sent = option_map (λ payload. Receives time word line payload.down) sent

-- the frame of a sent payload, where it has one
abbrev pub sent_frame : Option PlanGroup → Option SentPayload → Option (List ℕ)
sent_frame group None = None
sent_frame group (Some payload) = if has_frame group payload.down then Some (frame_for group payload.down) else None

-- bytes reach the radio of a device; the mark is the line
abbrev pub hearing : (time word line : ℕ) → Option (List ℕ) → Option Event
hearing time word line frame = option_map (λ bytes. HearsBytes time word line bytes) frame

-- what a line with this number lets happen at a device, at the time now, where this is the plan's group
abbrev pub event_of : Option PlanGroup → List SentPayload → (time line : ℕ) → Form → Option Event
event_of group sent time line (Wake device) = Some (Wakes time)
event_of group sent time line (Migrate device) = Some Migrates
event_of group sent time line (Down number device word) = reception time word line (numbered sent number)
event_of group sent time line (Raw device port payload word) = Some (Receives time word line (raw_down port payload))
event_of group sent time line (Air number device word) = hearing time word line (sent_frame group (numbered sent number))
event_of group sent time line (RawAir device bytes word) = Some (HearsBytes time word line bytes)
event_of group sent time line form = None

-- an event at a device, where there are both
abbrev pub after_event_at : WorldState → (n : ℕ) → Option DeviceState → Option Event → WorldState
after_event_at world n (Some device) (Some event) = with_device world n (event_step device event)
after_event_at world n device event = world

-- the server after an uplink sends its answer to the device
abbrev pub after_answer : WorldState → (n : ℕ) → UplinkStep → WorldState
after_answer world n step = with_answer (record world { server = step.server }) step.answer
  where
    with_answer : WorldState → Result (Option DownlinkCommand) Refusal → WorldState
    with_answer world (Ok down) = with_sent world (Some n) down
    with_answer world (Err refusal) = world

-- the server and what it sends after an uplink came up
abbrev pub after_up : WorldState → Option NumberedUplink → WorldState
after_up world None = world
after_up world (Some made) =
    after_answer world made.device (uplink_step world.server made.device made.uplink.port made.uplink.payload world.time)

-- events have begun, and no line of the plan comes any more
abbrev pub at_events : WorldState → WorldState
at_events world = record world { section = section.Events }

-- the device with a number, after an event
abbrev pub with_event : WorldState → (n : ℕ) → Option Event → WorldState
with_event world n event = at_events (after_event_at world n (numbered world.devices n) event)

-- the device with a number, after what the next line lets happen
abbrev pub with_event_of : WorldState → (n : ℕ) → Form → WorldState
with_event_of world n form =
    with_event world n (event_of world.server.plan.group world.sent world.time (world.lines + 1) form)

-- ---- the table

-- the campaign after a form
unfoldable pub after_form : WorldState → Form → WorldState
after_form world Header = record world { section = section.Image }
after_form world (Image frag_size parity index) =
    with_plan world (record world.server.plan { frag_size = frag_size; parity = parity; index = index }) section.Group
after_form world (Group id addr key min max) =
    with_plan world (record world.server.plan { group = Some (record { id = id; addr = addr; key = key; min = min; max = max }) }) section.Window
after_form world (WindowC start timeout freq dr) =
    with_plan world (with_window world.server.plan kind.C start timeout freq dr) section.Device
after_form world (WindowB start periodicity timeout freq dr) =
    with_plan world (with_window world.server.plan (kind.B periodicity) start timeout freq dr) section.Device
after_form world (Device dev) = with_joined world dev.id (config_of dev)
after_form world (At time) = at_events (record world { time = time })
after_form world (Wake device) = with_event_of world device (Wake device)
after_form world (Migrate device) = with_event_of world device (Migrate device)
-- all that a device holds in flash is there again: nothing has changed
after_form world (Power device) = at_events world
after_form world (Ask device) = at_events (with_sent world (Some device) (request_of world.server device))
after_form world Frag =
    at_events (with_sent (record world { server = after_fragment world.server }) None (result_ok (next_fragment world.server)))
after_form world Status =
    at_events (with_sent (record world { server = after_status_to_all world.server }) None (status_to_all world.server))
after_form world (Down number device word) = with_event_of world device (Down number device word)
after_form world (Raw device port payload word) = with_event_of world device (Raw device port payload word)
after_form world (Air number device word) = with_event_of world device (Air number device word)
after_form world (RawAir device bytes word) = with_event_of world device (RawAir device bytes word)
after_form world (Up number) = at_events (after_up world (numbered world.uplinks number))
after_form world End = record world { section = section.Ended }

-- ---- what a line says

-- the campaign after what a line says
abbrev pub after_said : WorldState → Said → WorldState
after_said world (Own form) = after_form world form
after_said world Elsewhere = world
after_said world (Reached device word down) =
    with_event world device (Some (Receives world.time word (world.lines + 1) down))
