-- Where a report says what about a device and its sessions (this project's profile).
use Rattle.std.specs.Prelude.{ℕ, ◌+◌, ◌-◌, List, take, drop, codes}
use Rattle.std.specs.Fmt.{decimal}
use Rattle.device_core.specs.Device.{DeviceState}
use Rattle.campaign_server.specs.declared.stage.Stage.{Stage}
use Rattle.report_lines.specs.Devices.{◌⧺◌, standing_of}
use Rattle.report_lines.specs.Sessions.{same, lines_below, lines_above}
use Rattle.campaign_world.specs.World.{WorldState}
use Rattle.campaign_world.specs.Report.{all_lines, image_line, device_parts}

-- the report before the part of a device, and after it
abbrev pub text_before : WorldState → (id : ℕ) → List ℕ
text_before world id =
    codes "fuota report 1\n" ⧺ image_line world.server
    ⧺ device_parts world.server.image 1 (take (id - 1) world.server.stages) (take (id - 1) world.devices)

abbrev pub text_behind : WorldState → (id : ℕ) → List ℕ
text_behind world id =
    device_parts world.server.image (id + 1) (drop id world.server.stages) (drop id world.devices) ⧺ codes "end\n"

-- the report in which these are the lines of the sessions of device id
abbrev pub report_over : WorldState → (id : ℕ) → Stage → DeviceState → (sessions : List ℕ) → List ℕ
report_over world id stage device sessions =
    text_before world id
    ⧺ all_lines (decimal id) stage (standing_of device) device.counts (sessions ⧺ text_behind world id)

-- the report in which this is the line of its session of an index, between those of the others
abbrev pub report_with_line : WorldState → (id : ℕ) → Stage → DeviceState → (index : ℕ) → (line : List ℕ) → List ℕ
report_with_line world id stage device index line =
    let told = same world.server.image in
    report_over world id stage device (lines_below told device.sessions index ⧺ line ⧺ lines_above told device.sessions index)
