-- Where each command of TS003-1.0.0 and TS006-1.0.0 is sent, and its bytes, worked out.
use Rattle.std.specs.Prelude.{◌≡◌, ℕ, pos, negsuc, true, false, List, [], ◌∷◌, Some, None}
use Rattle.wire_base.specs.declared.refusal.Direction.{Direction}
use Rattle.wire_base.specs.declared.refusal.Direction.TheVariants.{Down, Up}
use Rattle.sync_wire.specs.declared.cmd.Cmd.{Cmd}
use Rattle.sync_wire.specs.declared.cmd.Cmd.TheVariants.{PackageVersionReq, PackageVersionAns, AppTimeReq, AppTimeAns, DeviceAppTimePeriodicityReq, DeviceAppTimePeriodicityAns, ForceDeviceResyncReq, DevVersionReq, DevVersionAns, DevRebootTimeReq, DevRebootTimeAns, DevRebootCountdownReq, DevRebootCountdownAns, DevUpgradeImageReq, DevUpgradeImageAns, DevDeleteImageReq, DevDeleteImageAns}
use Rattle.sync_wire.specs.Table.{row, canonical}

-- where a command is sent, and the bytes that are written for it
pub record Sent : Type 0 where
  pub ports : List ℕ
  pub direction : Direction
  pub bytes : List ℕ

abbrev pub sent : Cmd → Sent
sent c = record { ports = (row c).ports; direction = (row c).direction; bytes = canonical c }

abbrev pub from_server : (ports bytes : List ℕ) → Sent
from_server ports bytes = record { ports = ports; direction = Down; bytes = bytes }

abbrev pub from_device : (ports bytes : List ℕ) → Sent
from_device ports bytes = record { ports = ports; direction = Up; bytes = bytes }

pub record WorkedSpellings : Type 0 where
  pub version_req : sent PackageVersionReq ≡ from_server (202 ∷ 203 ∷ []) (0x00 ∷ [])
  pub version_ans : sent (PackageVersionAns 3 1)
      ≡ from_device (202 ∷ 203 ∷ []) (0x00 ∷ 0x03 ∷ 0x01 ∷ [])
  pub time_req : sent (AppTimeReq 0x11223344 true 3)
      ≡ from_device (202 ∷ []) (0x01 ∷ 0x44 ∷ 0x33 ∷ 0x22 ∷ 0x11 ∷ 0x13 ∷ [])
  pub time_req_of_right : sent (AppTimeReq 7 false 15)
      ≡ from_device (202 ∷ []) (0x01 ∷ 0x07 ∷ 0x00 ∷ 0x00 ∷ 0x00 ∷ 0x0f ∷ [])
  pub time_ans : sent (AppTimeAns (pos 70) 3)
      ≡ from_server (202 ∷ []) (0x01 ∷ 0x46 ∷ 0x00 ∷ 0x00 ∷ 0x00 ∷ 0x03 ∷ [])
  pub time_ans_back : sent (AppTimeAns (negsuc 69) 15)
      ≡ from_server (202 ∷ []) (0x01 ∷ 0xba ∷ 0xff ∷ 0xff ∷ 0xff ∷ 0x0f ∷ [])
  pub period_req : sent (DeviceAppTimePeriodicityReq 12) ≡ from_server (202 ∷ []) (0x02 ∷ 0x0c ∷ [])
  pub period_ans : sent (DeviceAppTimePeriodicityAns true 0x11223344)
      ≡ from_device (202 ∷ []) (0x02 ∷ 0x01 ∷ 0x44 ∷ 0x33 ∷ 0x22 ∷ 0x11 ∷ [])
  pub period_ans_fine : sent (DeviceAppTimePeriodicityAns false 1)
      ≡ from_device (202 ∷ []) (0x02 ∷ 0x00 ∷ 0x01 ∷ 0x00 ∷ 0x00 ∷ 0x00 ∷ [])
  pub resync : sent (ForceDeviceResyncReq 5) ≡ from_server (202 ∷ []) (0x03 ∷ 0x05 ∷ [])
  pub firmware_req : sent DevVersionReq ≡ from_server (203 ∷ []) (0x01 ∷ [])
  pub firmware_ans : sent (DevVersionAns 0x11223344 2)
      ≡ from_device (203 ∷ []) (0x01 ∷ 0x44 ∷ 0x33 ∷ 0x22 ∷ 0x11 ∷ 0x02 ∷ 0x00 ∷ 0x00 ∷ 0x00 ∷ [])
  pub reboot_time_req : sent (DevRebootTimeReq 0x11223344)
      ≡ from_server (203 ∷ []) (0x02 ∷ 0x44 ∷ 0x33 ∷ 0x22 ∷ 0x11 ∷ [])
  pub reboot_time_ans : sent (DevRebootTimeAns 0x11223344)
      ≡ from_device (203 ∷ []) (0x02 ∷ 0x44 ∷ 0x33 ∷ 0x22 ∷ 0x11 ∷ [])
  pub countdown_req : sent (DevRebootCountdownReq 0x112233)
      ≡ from_server (203 ∷ []) (0x03 ∷ 0x33 ∷ 0x22 ∷ 0x11 ∷ [])
  pub countdown_ans : sent (DevRebootCountdownAns 0x112233)
      ≡ from_device (203 ∷ []) (0x03 ∷ 0x33 ∷ 0x22 ∷ 0x11 ∷ [])
  pub image_req : sent DevUpgradeImageReq ≡ from_server (203 ∷ []) (0x04 ∷ [])
  pub image_ans : sent (DevUpgradeImageAns 3 (Some 0x11223344))
      ≡ from_device (203 ∷ []) (0x04 ∷ 0x03 ∷ 0x44 ∷ 0x33 ∷ 0x22 ∷ 0x11 ∷ [])
  pub image_ans_of_none : sent (DevUpgradeImageAns 2 None) ≡ from_device (203 ∷ []) (0x04 ∷ 0x02 ∷ [])
  pub delete_image_req : sent (DevDeleteImageReq 0x11223344)
      ≡ from_server (203 ∷ []) (0x05 ∷ 0x44 ∷ 0x33 ∷ 0x22 ∷ 0x11 ∷ [])
  pub delete_image_ans : sent (DevDeleteImageAns 2) ≡ from_device (203 ∷ []) (0x05 ∷ 0x02 ∷ [])
