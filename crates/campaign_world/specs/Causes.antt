-- When a line is refused (this project's profile): the causes in their order, tried after the lines before it.
use Rattle.std.specs.Prelude.{ℕ, ◌+◌, Bool, true, false, ◌&&◌, ◌||◌, not, ◌==◌, nat_le, nat_lt, if◌then◌else◌, List, length, Option, Some, None, is_some, is_ok, Ok, Err}
use Rattle.std.specs.List.{list_any}
use Rattle.wire_base.specs.Payload.{max_payload}
use Rattle.package_grammar.specs.declared.downlink.To.{To}
use Rattle.package_grammar.specs.declared.downlink.To.TheVariants as to
use Rattle.frag_model.specs.Limits.{max_pieces}
use Rattle.frag_encoder.specs.Encoding.{nb_frag_of}
use Rattle.campaign_server.specs.Server.{ServerState}
use Rattle.wire_base.specs.Numbered.{numbered}
use Rattle.campaign_server.specs.Fragments.{next_fragment, status_to_all}
use Rattle.script_lines.specs.declared.forms.Form.{Form}
use Rattle.script_lines.specs.declared.forms.Form.TheVariants.{Header, Image, Group, WindowC, WindowB, Device, At, Wake, Migrate, Power, Ask, Frag, Status, Down, Raw, Air, RawAir, Up, End}
use Rattle.report_lines.specs.declared.faults.LineWhy.{LineWhy}
use Rattle.report_lines.specs.declared.faults.LineWhy.TheVariants as why
use Rattle.campaign_world.specs.declared.section.Section.{Section}
use Rattle.campaign_world.specs.declared.section.Section.TheVariants as section
use Rattle.script_lines.specs.Limits.{max_lines, max_flash_devices}
use Rattle.script_lines.specs.Ranges.{in_range}
use Rattle.campaign_world.specs.declared.numbered.SentPayload.{SentPayload}
use Rattle.campaign_world.specs.declared.numbered.NumberedUplink.{NumberedUplink}
use Rattle.campaign_world.specs.World.{WorldState}
use Rattle.campaign_world.specs.Said.{Said, Own, Elsewhere, Reached, Line}

-- ---- order

-- the lines after the plan: events, and the end
abbrev pub is_event_or_end : Form → Bool
is_event_or_end Header = false
is_event_or_end (Image frag_size parity index) = false
is_event_or_end (Group id addr key min max) = false
is_event_or_end (WindowC start timeout freq dr) = false
is_event_or_end (WindowB start periodicity timeout freq dr) = false
is_event_or_end (Device dev) = false
is_event_or_end form = true

-- the form may come here
abbrev pub is_in_order : Section → Form → Bool
is_in_order section.Header Header = true
is_in_order section.Image (Image frag_size parity index) = true
is_in_order section.Group (Group id addr key min max) = true
is_in_order section.Group (Device dev) = true
is_in_order section.Window (WindowC start timeout freq dr) = true
is_in_order section.Window (WindowB start periodicity timeout freq dr) = true
is_in_order section.Device (Device dev) = true
is_in_order section.Devices (Device dev) = true
is_in_order section.Devices form = is_event_or_end form
is_in_order section.Events form = is_event_or_end form
is_in_order here form = false

-- nothing comes after the end
abbrev pub has_ended : Section → Bool
has_ended section.Ended = true
has_ended here = false

-- ---- range

-- an image of this length has at most 4,096 fragments; after so many devices the ID is the next
abbrev pub fits_script : (len count : ℕ) → Form → Bool
fits_script len count (Image frag_size parity index) = nat_le (nb_frag_of len frag_size) max_pieces
fits_script len count (Device dev) = dev.id == count + 1
fits_script len count form = true

-- ---- device, unsent, time

-- so many devices are numbered from 1
abbrev pub is_device : (count device : ℕ) → Bool
is_device count device = nat_le 1 device && nat_le device count

-- a line that names a device names one that there is
abbrev pub names_device : (count : ℕ) → Form → Bool
names_device count (Wake device) = is_device count device
names_device count (Migrate device) = is_device count device
names_device count (Power device) = is_device count device
names_device count (Ask device) = is_device count device
names_device count (Down number device word) = is_device count device
names_device count (Raw device port payload word) = is_device count device
names_device count (Air number device word) = is_device count device
names_device count (RawAir device bytes word) = is_device count device
names_device count form = true

-- the device whose power goes and comes back is one of those with a flash
abbrev pub has_flash : (flash : List ℕ) → Form → Bool
has_flash flash (Power device) = list_any (λ id. id == device) flash
has_flash flash form = true

-- the payload was sent, to this device or to any
abbrev pub may_reach : (device : ℕ) → Option SentPayload → Bool
may_reach device None = false
may_reach device (Some sent) = is_for sent.receiver
  where
    is_for : Option ℕ → Bool
    is_for None = true
    is_for (Some receiver) = receiver == device

-- a payload to a group goes out as a frame
abbrev pub is_to_group : To → Bool
is_to_group to.Unicast = false
is_to_group (to.Group addr count) = true

abbrev pub goes_out : Option SentPayload → Bool
goes_out None = false
goes_out (Some sent) = is_to_group sent.down.to

-- the uplink was made, and is due by now
abbrev pub is_due_by : (now : ℕ) → Option NumberedUplink → Bool
is_due_by now None = false
is_due_by now (Some made) = nat_le made.uplink.due now

-- what a line brings was sent or made, and may come there now
abbrev pub is_available : List SentPayload → List NumberedUplink → (now : ℕ) → Form → Bool
is_available sent uplinks now (Down number device word) = may_reach device (numbered sent number)
is_available sent uplinks now (Air number device word) =
    may_reach device (numbered sent number) && goes_out (numbered sent number)
is_available sent uplinks now (Up number) = is_due_by now (numbered uplinks number)
is_available sent uplinks now form = true

-- the time does not go back
abbrev pub is_not_past : (now : ℕ) → Form → Bool
is_not_past now (At time) = nat_le now time
is_not_past now form = true

-- ---- limit, last of all

-- after so many devices with a flash there is room for one more
abbrev pub fits_flash : (count : ℕ) → Form → Bool
fits_flash count (Device dev) = not dev.flash || nat_lt count max_flash_devices
fits_flash count form = true

-- anybody's payload has at most 242 bytes
abbrev pub fits_payload : Form → Bool
fits_payload (Raw device port payload word) = nat_le (length payload) max_payload
fits_payload form = true

-- there is something left to send
abbrev pub has_more : ServerState → Form → Bool
has_more server Frag = is_ok (next_fragment server)
has_more server Status = is_some (status_to_all server)
has_more server form = true

-- ---- all causes, the first that holds

-- the cause for which a form is refused here, in the order in which they are looked for
unfoldable pub form_cause : WorldState → Form → Option LineWhy
form_cause world form =
    if not (is_in_order world.section form) then Some why.Order
    else if not (in_range form && fits_script (length world.server.image) (length world.devices) form) then Some why.Range
    else if not (names_device (length world.devices) form && has_flash world.flash form) then Some why.Device
    else if not (is_available world.sent world.uplinks world.time form) then Some why.Unsent
    else if not (is_not_past world.time form) then Some why.Time
    else if not (fits_flash (length world.flash) form && fits_payload form) then Some why.Limit
    else if not (has_more world.server form) then Some why.Limit
    else None

-- ---- what a line says

-- events may come here
abbrev pub takes_events : Section → Bool
takes_events here = is_in_order here End

-- events, or the end, have come
abbrev pub has_begun : Section → Bool
has_begun section.Events = true
has_begun section.Ended = true
has_begun here = false

-- what another campaign's line brings here is refused as any event is
abbrev pub said_cause : WorldState → Said → Option LineWhy
said_cause world (Own form) = form_cause world form
said_cause world Elsewhere = None
said_cause world (Reached device word down) =
    if not (takes_events world.section) then Some why.Order
    else if not (is_device (length world.devices) device) then Some why.Device
    else None

abbrev pub line_cause : WorldState → Line → Option LineWhy
line_cause world (Err cause) = Some cause
line_cause world (Ok said) = said_cause world said

-- the cause for which the next line is refused, the first that holds
unfoldable pub cause_of : WorldState → Line → Option LineWhy
cause_of world line = if nat_le max_lines world.lines then Some why.Limit else line_cause world line
