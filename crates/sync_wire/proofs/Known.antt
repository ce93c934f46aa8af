-- The identifiers that the table has, each shown by a command that has it.
use Rattle.std.proofs.Common.{◌≡◌, ℕ, false, None, pos, refl, inl, inr}
use Rattle.std.proofs.lemmas.Bool.{lt-leb}
use Rattle.wire_base.specs.declared.refusal.Direction.TheVariants.{Down, Up}
use Rattle.sync_wire.specs.declared.cmd.Cmd.TheVariants.{PackageVersionReq, PackageVersionAns, AppTimeReq, AppTimeAns, DeviceAppTimePeriodicityReq, DeviceAppTimePeriodicityAns, ForceDeviceResyncReq, DevVersionReq, DevVersionAns, DevRebootTimeReq, DevRebootTimeAns, DevRebootCountdownReq, DevRebootCountdownAns, DevUpgradeImageReq, DevUpgradeImageAns, DevDeleteImageReq, DevDeleteImageAns}
use Rattle.sync_wire.specs.Table.{IsKnown}
use Rattle.sync_wire.proofs.Fields.{low_at}

pub package_version_req_202_known : (cid : ℕ) → 0x00 ≡ cid → IsKnown 202 Down cid
package_version_req_202_known cid is = record { command = PackageVersionReq; listed = record { port_is = inl refl; direction_is = refl }; cid_is = is }

pub package_version_req_203_known : (cid : ℕ) → 0x00 ≡ cid → IsKnown 203 Down cid
package_version_req_203_known cid is = record { command = PackageVersionReq; listed = record { port_is = inr refl; direction_is = refl }; cid_is = is }

pub package_version_ans_202_known : (cid : ℕ) → 0x00 ≡ cid → IsKnown 202 Up cid
package_version_ans_202_known cid is = record { command = PackageVersionAns 0 0; listed = record { port_is = inl refl; direction_is = refl }; cid_is = is }

pub package_version_ans_203_known : (cid : ℕ) → 0x00 ≡ cid → IsKnown 203 Up cid
package_version_ans_203_known cid is = record { command = PackageVersionAns 0 0; listed = record { port_is = inr refl; direction_is = refl }; cid_is = is }

pub app_time_req_202_known : (cid : ℕ) → 0x01 ≡ cid → IsKnown 202 Up cid
app_time_req_202_known cid is = record { command = AppTimeReq 0 false 0; listed = record { port_is = refl; direction_is = refl }; cid_is = is }

pub app_time_ans_202_known : (cid : ℕ) → 0x01 ≡ cid → IsKnown 202 Down cid
app_time_ans_202_known cid is = record { command = AppTimeAns (pos 0) 0; listed = record { port_is = refl; direction_is = refl }; cid_is = is }

pub device_app_time_periodicity_req_202_known : (cid : ℕ) → 0x02 ≡ cid → IsKnown 202 Down cid
device_app_time_periodicity_req_202_known cid is = record { command = DeviceAppTimePeriodicityReq 0; listed = record { port_is = refl; direction_is = refl }; cid_is = is }

pub device_app_time_periodicity_ans_202_known : (cid : ℕ) → 0x02 ≡ cid → IsKnown 202 Up cid
device_app_time_periodicity_ans_202_known cid is = record { command = DeviceAppTimePeriodicityAns false 0; listed = record { port_is = refl; direction_is = refl }; cid_is = is }

pub force_device_resync_req_202_known : (cid : ℕ) → 0x03 ≡ cid → IsKnown 202 Down cid
force_device_resync_req_202_known cid is = record { command = ForceDeviceResyncReq 0; listed = record { port_is = refl; direction_is = refl }; cid_is = is }

pub dev_version_req_203_known : (cid : ℕ) → 0x01 ≡ cid → IsKnown 203 Down cid
dev_version_req_203_known cid is = record { command = DevVersionReq; listed = record { port_is = refl; direction_is = refl }; cid_is = is }

pub dev_version_ans_203_known : (cid : ℕ) → 0x01 ≡ cid → IsKnown 203 Up cid
dev_version_ans_203_known cid is = record { command = DevVersionAns 0 0; listed = record { port_is = refl; direction_is = refl }; cid_is = is }

pub dev_reboot_time_req_203_known : (cid : ℕ) → 0x02 ≡ cid → IsKnown 203 Down cid
dev_reboot_time_req_203_known cid is = record { command = DevRebootTimeReq 0; listed = record { port_is = refl; direction_is = refl }; cid_is = is }

pub dev_reboot_time_ans_203_known : (cid : ℕ) → 0x02 ≡ cid → IsKnown 203 Up cid
dev_reboot_time_ans_203_known cid is = record { command = DevRebootTimeAns 0; listed = record { port_is = refl; direction_is = refl }; cid_is = is }

pub dev_reboot_countdown_req_203_known : (cid : ℕ) → 0x03 ≡ cid → IsKnown 203 Down cid
dev_reboot_countdown_req_203_known cid is = record { command = DevRebootCountdownReq 0; listed = record { port_is = refl; direction_is = refl }; cid_is = is }

pub dev_reboot_countdown_ans_203_known : (cid : ℕ) → 0x03 ≡ cid → IsKnown 203 Up cid
dev_reboot_countdown_ans_203_known cid is = record { command = DevRebootCountdownAns 0; listed = record { port_is = refl; direction_is = refl }; cid_is = is }

pub dev_upgrade_image_req_203_known : (cid : ℕ) → 0x04 ≡ cid → IsKnown 203 Down cid
dev_upgrade_image_req_203_known cid is = record { command = DevUpgradeImageReq; listed = record { port_is = refl; direction_is = refl }; cid_is = is }

pub dev_upgrade_image_ans_203_known : (cid : ℕ) → 0x04 ≡ cid → IsKnown 203 Up cid
dev_upgrade_image_ans_203_known cid is = record { command = DevUpgradeImageAns 0 None; listed = record { port_is = refl; direction_is = refl }; cid_is = is }

pub dev_delete_image_req_203_known : (cid : ℕ) → 0x05 ≡ cid → IsKnown 203 Down cid
dev_delete_image_req_203_known cid is = record { command = DevDeleteImageReq 0; listed = record { port_is = refl; direction_is = refl }; cid_is = is }

pub dev_delete_image_ans_203_known : (cid : ℕ) → 0x05 ≡ cid → IsKnown 203 Up cid
dev_delete_image_ans_203_known cid is = record { command = DevDeleteImageAns 0; listed = record { port_is = refl; direction_is = refl }; cid_is = is }

pub ruleset clock_down_known = (lt-leb, low_at, package_version_req_202_known, app_time_ans_202_known, device_app_time_periodicity_req_202_known, force_device_resync_req_202_known)

pub ruleset clock_up_known = (lt-leb, low_at, package_version_ans_202_known, app_time_req_202_known, device_app_time_periodicity_ans_202_known)

pub ruleset firmware_down_known = (lt-leb, low_at, package_version_req_203_known, dev_version_req_203_known, dev_reboot_time_req_203_known, dev_reboot_countdown_req_203_known, dev_upgrade_image_req_203_known, dev_delete_image_req_203_known)

pub ruleset firmware_up_known = (lt-leb, low_at, package_version_ans_203_known, dev_version_ans_203_known, dev_reboot_time_ans_203_known, dev_reboot_countdown_ans_203_known, dev_upgrade_image_ans_203_known, dev_delete_image_ans_203_known)
