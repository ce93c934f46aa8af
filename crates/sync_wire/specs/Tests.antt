-- What a command's fields must be together, as a test; and one command of each row, which shows the known identifiers.
-- The table alone says what commands are. The reading of a payload computes with these tests, and a law holds it to the table.
use Rattle.std.specs.Prelude.{ℕ, pos, Bool, true, false, ◌==◌, List, [], ◌∷◌, None, is_some}
use Rattle.std.specs.Bool.{beq}
use Rattle.std.specs.Int.{w32, int_wrap}
use Rattle.std.specs.Ordering.{int_eq}
use Rattle.wire_base.specs.declared.refusal.Direction.{Direction}
use Rattle.wire_base.specs.Tests.{has_cid}
use Rattle.sync_wire.specs.declared.cmd.Cmd.{Cmd}
use Rattle.sync_wire.specs.declared.cmd.Cmd.TheVariants.{PackageVersionReq, PackageVersionAns, AppTimeReq, AppTimeAns, DeviceAppTimePeriodicityReq, DeviceAppTimePeriodicityAns, ForceDeviceResyncReq, DevVersionReq, DevVersionAns, DevRebootTimeReq, DevRebootTimeAns, DevRebootCountdownReq, DevRebootCountdownAns, DevUpgradeImageReq, DevUpgradeImageAns, DevDeleteImageReq, DevDeleteImageAns}
use Rattle.sync_wire.specs.Table.{row}

abbrev pub is_whole : Cmd → Bool
is_whole (AppTimeAns correction token) = int_eq (int_wrap w32 correction) correction
is_whole (DevUpgradeImageAns status next) = beq (is_some next) (status == 3)
is_whole _ = true

unfoldable pub samples : List Cmd
samples =
    PackageVersionReq ∷ PackageVersionAns 0 0 ∷ AppTimeReq 0 false 0 ∷ AppTimeAns (pos 0) 0
    ∷ DeviceAppTimePeriodicityReq 0 ∷ DeviceAppTimePeriodicityAns false 0 ∷ ForceDeviceResyncReq 0
    ∷ DevVersionReq ∷ DevVersionAns 0 0 ∷ DevRebootTimeReq 0 ∷ DevRebootTimeAns 0
    ∷ DevRebootCountdownReq 0 ∷ DevRebootCountdownAns 0 ∷ DevUpgradeImageReq
    ∷ DevUpgradeImageAns 0 None ∷ DevDeleteImageReq 0 ∷ DevDeleteImageAns 0 ∷ []

-- the table has this identifier for that port and direction
unfoldable pub is_known : ℕ → Direction → (cid : ℕ) → Bool
is_known port direction cid = has_cid row port direction cid samples
