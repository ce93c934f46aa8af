-- Between the table and the code: for each port and direction the command that a place's identifier names, and its end.
-- The table alone says what commands are. The reading of a payload computes with these functions, and a law holds it to the
-- table.
use Rattle.std.specs.Prelude.{ℕ, ◌+◌, ◌==◌, if◌then◌else◌, List, Some, None}
use Rattle.std.specs.Int.{w32, cast_signed}
use Rattle.wire_base.specs.declared.refusal.Direction.{Direction}
use Rattle.wire_base.specs.declared.refusal.Direction.TheVariants.{Down, Up}
use Rattle.wire_base.specs.Numbers.{number_at}
use Rattle.wire_base.specs.Found.{Found, within, field, is_set}
use Rattle.sync_wire.specs.declared.cmd.Cmd.{Cmd}
use Rattle.sync_wire.specs.declared.cmd.Cmd.TheVariants.{PackageVersionReq, PackageVersionAns, AppTimeReq, AppTimeAns, DeviceAppTimePeriodicityReq, DeviceAppTimePeriodicityAns, ForceDeviceResyncReq, DevVersionReq, DevVersionAns, DevRebootTimeReq, DevRebootTimeAns, DevRebootCountdownReq, DevRebootCountdownAns, DevUpgradeImageReq, DevUpgradeImageAns, DevDeleteImageReq, DevDeleteImageAns}

unfoldable pub clock_down : List ℕ → ℕ → Found Cmd
clock_down bytes at =
    if number_at bytes at 1 == 0x00 then within bytes at 1 PackageVersionReq
    else if number_at bytes at 1 == 0x01 then within bytes at 6
    (AppTimeAns (cast_signed w32 (number_at bytes (at + 1) 4)) (field bytes (at + 5) 1 0 4))
    else if number_at bytes at 1 == 0x02 then within bytes at 2
    (DeviceAppTimePeriodicityReq (field bytes (at + 1) 1 0 4))
    else if number_at bytes at 1 == 0x03 then within bytes at 2 (ForceDeviceResyncReq (field bytes (at + 1) 1 0 3))
    else None

unfoldable pub clock_up : List ℕ → ℕ → Found Cmd
clock_up bytes at =
    if number_at bytes at 1 == 0x00 then within bytes at 3
    (PackageVersionAns (number_at bytes (at + 1) 1) (number_at bytes (at + 2) 1))
    else if number_at bytes at 1 == 0x01 then within bytes at 6
    (AppTimeReq (number_at bytes (at + 1) 4) (is_set bytes (at + 5) 4) (field bytes (at + 5) 1 0 4))
    else if number_at bytes at 1 == 0x02 then within bytes at 6
    (DeviceAppTimePeriodicityAns (is_set bytes (at + 1) 0) (number_at bytes (at + 2) 4))
    else None

unfoldable pub firmware_down : List ℕ → ℕ → Found Cmd
firmware_down bytes at =
    if number_at bytes at 1 == 0x00 then within bytes at 1 PackageVersionReq
    else if number_at bytes at 1 == 0x01 then within bytes at 1 DevVersionReq
    else if number_at bytes at 1 == 0x02 then within bytes at 5 (DevRebootTimeReq (number_at bytes (at + 1) 4))
    else if number_at bytes at 1 == 0x03 then within bytes at 4 (DevRebootCountdownReq (number_at bytes (at + 1) 3))
    else if number_at bytes at 1 == 0x04 then within bytes at 1 DevUpgradeImageReq
    else if number_at bytes at 1 == 0x05 then within bytes at 5 (DevDeleteImageReq (number_at bytes (at + 1) 4))
    else None

-- a status that is 3 with the version after it, any other without
abbrev pub with_next : List ℕ → ℕ → Found Cmd
with_next bytes at =
    if field bytes (at + 1) 1 0 2 == 3
    then within bytes at 6 (DevUpgradeImageAns (field bytes (at + 1) 1 0 2) (Some (number_at bytes (at + 2) 4)))
    else within bytes at 2 (DevUpgradeImageAns (field bytes (at + 1) 1 0 2) None)

unfoldable pub firmware_up : List ℕ → ℕ → Found Cmd
firmware_up bytes at =
    if number_at bytes at 1 == 0x00 then within bytes at 3
    (PackageVersionAns (number_at bytes (at + 1) 1) (number_at bytes (at + 2) 1))
    else if number_at bytes at 1 == 0x01 then within bytes at 9
    (DevVersionAns (number_at bytes (at + 1) 4) (number_at bytes (at + 5) 4))
    else if number_at bytes at 1 == 0x02 then within bytes at 5 (DevRebootTimeAns (number_at bytes (at + 1) 4))
    else if number_at bytes at 1 == 0x03 then within bytes at 4 (DevRebootCountdownAns (number_at bytes (at + 1) 3))
    else if number_at bytes at 1 == 0x04 then with_next bytes at
    else if number_at bytes at 1 == 0x05 then within bytes at 2 (DevDeleteImageAns (field bytes (at + 1) 1 0 2))
    else None

-- the same for each port and direction
abbrev pub reading : ℕ → Direction → List ℕ → ℕ → Found Cmd
reading port Down bytes at =
    if port == 202 then clock_down bytes at else if port == 203 then firmware_down bytes at else None
reading port Up bytes at = if port == 202 then clock_up bytes at else if port == 203 then firmware_up bytes at else None
