-- The report of a campaign (this project's profile).
use Rattle.std.specs.Prelude.{ℕ, ◌+◌, List, [], ◌∷◌, length, codes, Option, Some}
use Rattle.std.specs.Fmt.{decimal}
use Rattle.frag_encoder.specs.Encoding.{nb_frag_of, padding_of}
use Rattle.device_core.specs.declared.counts.Counts.{Counts}
use Rattle.device_core.specs.Device.{DeviceState}
use Rattle.campaign_server.specs.declared.stage.Stage.{Stage}
use Rattle.campaign_server.specs.Server.{ServerState, ledger}
use Rattle.wire_base.specs.Numbered.{numbered}
use Rattle.report_lines.specs.declared.devices.Standing.{Standing}
use Rattle.report_lines.specs.Devices.{◌⧺◌, standing_of, standing_line, counts_line}
use Rattle.report_lines.specs.Sessions.{same, session_lines}
use Rattle.campaign_world.specs.World.{WorldState}

-- ---- the image's line

-- image SIZE fragments M size FRAGSIZE padding PAD parity P
abbrev pub image_text : (size fragments frag_size padding parity : ℕ) → List ℕ
image_text size fragments frag_size padding parity =
    codes "image " ⧺ decimal size ⧺ codes " fragments " ⧺ decimal fragments ⧺ codes " size " ⧺ decimal frag_size
    ⧺ codes " padding " ⧺ decimal padding ⧺ codes " parity " ⧺ decimal parity ⧺ codes "\n"

abbrev pub image_line : ServerState → List ℕ
image_line server =
    let size = length server.image in
    let frag_size = server.plan.frag_size in
    image_text size (nb_frag_of size frag_size) frag_size (padding_of size frag_size) server.plan.parity

-- ---- the report

-- all lines of a device under a name, in their order: how it stands, its counters, and what is said of its sessions
abbrev pub all_lines : (name : List ℕ) → Stage → Standing → Counts → (sessions : List ℕ) → List ℕ
all_lines name stage stands counts sessions = standing_line name stage stands ⧺ counts_line counts ⧺ sessions

-- those of a device as it is, its files compared with the image
abbrev pub named_part : (image name : List ℕ) → Stage → DeviceState → List ℕ
named_part image name stage device =
    all_lines name stage (standing_of device) device.counts (session_lines (same image) device.sessions)

-- its name is its ID
abbrev pub device_part : (image : List ℕ) → (id : ℕ) → Stage → DeviceState → List ℕ
device_part image id stage device = named_part image (decimal id) stage device

-- those of the device with a number, counted from 1, under a name; none where there is no such device
abbrev pub found_lines : (image name : List ℕ) → Option Stage → Option DeviceState → List ℕ
found_lines image name (Some stage) (Some device) = named_part image name stage device
found_lines image name stage device = []

abbrev pub numbered_lines : (name : List ℕ) → (number : ℕ) → ServerState → List DeviceState → List ℕ
numbered_lines name number server devices =
    found_lines server.image name (ledger server number) (numbered devices number)

-- the lines of a device under a name, which may be another number than its own
abbrev pub lines_under : (name : List ℕ) → (number : ℕ) → WorldState → List ℕ
lines_under name number world = numbered_lines name number world.server world.devices

-- the lines of each device, in order, from a number on
unfoldable pub device_parts : (image : List ℕ) → (id : ℕ) → List Stage → List DeviceState → List ℕ
device_parts image id (stage ∷ stages) (device ∷ devices) =
    device_part image id stage device ⧺ device_parts image (id + 1) stages devices
device_parts image id stages devices = []

-- the report of a server and its devices
abbrev pub report_with : ServerState → List DeviceState → List ℕ
report_with server devices =
    codes "fuota report 1\n" ⧺ image_line server ⧺ device_parts server.image 1 server.stages devices ⧺ codes "end\n"

unfoldable pub report_of : WorldState → List ℕ
report_of world = report_with world.server world.devices
