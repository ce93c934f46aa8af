-- The lines of a device: its stage, and what it counted (this project's profile).
use Rattle.std.specs.Prelude.{ℕ, List, ◌++◌, codes}
use Rattle.std.specs.Fmt.{decimal}
use Rattle.image_slots.specs.declared.view.ImageState.{ImageState}
use Rattle.image_slots.specs.declared.view.ImageState.TheVariants as image
use Rattle.device_core.specs.declared.counts.Counts.{Counts}
use Rattle.device_core.specs.Device.{DeviceState}
use Rattle.report_lines.specs.declared.devices.Standing.{Standing}
use Rattle.campaign_server.specs.declared.stage.Stage.{Stage}
use Rattle.campaign_server.specs.declared.stage.Stage.TheVariants.{At, Updated, Refused}
use Rattle.campaign_server.specs.declared.stage.Request.{Request}
use Rattle.campaign_server.specs.declared.stage.Request.TheVariants.{Version, Group, Fragments, Window, Status, Image, Reboot, Check}

-- texts joined to the right
infixr 5 ◌⧺◌
abbrev pub ◌⧺◌ : List ℕ → List ℕ → List ℕ
a ⧺ b = a ++ b

-- ---- words

abbrev pub request_word : Request → List ℕ
request_word Version = codes "version"
request_word Group = codes "group"
request_word Fragments = codes "fragments"
request_word Window = codes "window"
request_word Status = codes "status"
request_word Image = codes "image"
request_word Reboot = codes "reboot"
request_word Check = codes "check"

-- a stage as a report has it: refused with what was asked, and the bits of the answer
abbrev pub stage_text : Stage → List ℕ
stage_text (At request) = request_word request
stage_text Updated = codes "updated"
stage_text (Refused request bits) = codes "refused " ⧺ request_word request ⧺ codes " " ⧺ decimal bits

abbrev pub next_text : ImageState → List ℕ
next_text image.None = codes "none"
next_text image.Corrupt = codes "corrupt"
next_text image.Incompatible = codes "incompatible"
next_text (image.Valid version) = codes "valid " ⧺ decimal version

-- ---- lines

-- what it shows of a device
abbrev pub standing_of : DeviceState → Standing
standing_of device = record {
  offset = device.clock.offset;
  token = device.clock.token;
  running = device.slots.version;
  next = device.slots.next;
}

-- clock OFFSET token T running V next NEXT
abbrev pub standing_text : Standing → List ℕ
standing_text stands =
    codes "clock " ⧺ decimal stands.offset ⧺ codes " token " ⧺ decimal stands.token
    ⧺ codes " running " ⧺ decimal stands.running ⧺ codes " next " ⧺ next_text stands.next

-- device NAME STAGE, and how it stands
abbrev pub standing_line : (name : List ℕ) → Stage → Standing → List ℕ
standing_line name stage stands =
    codes "device " ⧺ name ⧺ codes " " ⧺ stage_text stage ⧺ codes " " ⧺ standing_text stands ⧺ codes "\n"

abbrev pub device_line : (name : List ℕ) → Stage → DeviceState → List ℕ
device_line name stage device = standing_line name stage (standing_of device)

-- counts deaf A refused B full C dropped D
abbrev pub counts_line : Counts → List ℕ
counts_line counts =
    codes "counts deaf " ⧺ decimal counts.deaf ⧺ codes " refused " ⧺ decimal counts.refused ⧺ codes " full " ⧺ decimal counts.full
    ⧺ codes " dropped " ⧺ decimal counts.dropped ⧺ codes "\n"
