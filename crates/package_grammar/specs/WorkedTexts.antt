-- The text of each command, worked out: a command a row, and each truth value, sign and absent number that a text distinguishes.
use Rattle.std.specs.Prelude.{◌≡◌, ℕ, pos, negsuc, true, false, List, [], ◌∷◌, codes, Some, None}
use Rattle.sync_wire.specs.declared.cmd.Cmd.TheVariants as s
use Rattle.cast_wire.specs.declared.cmd.Cmd.TheVariants as c
use Rattle.cast_wire.specs.declared.group_list.GroupAddress.{GroupAddress}
use Rattle.package_grammar.specs.declared.command.Command.TheVariants.{Sync, Cast}
use Rattle.package_grammar.specs.Texts.{text_of}

-- commands of TS003 and TS006
pub record SyncTexts : Type 0 where
  pub version_req : text_of (Sync s.PackageVersionReq) ≡ codes "PackageVersionReq"
  pub version_ans : text_of (Sync (s.PackageVersionAns 3 1))
      ≡ codes "PackageVersionAns id=3 version=1"
  pub time_req : text_of (Sync (s.AppTimeReq 4294967295 true 15))
      ≡ codes "AppTimeReq time=4294967295 required=1 token=15"
  pub time_req_of_right : text_of (Sync (s.AppTimeReq 0 false 2))
      ≡ codes "AppTimeReq time=0 required=0 token=2"
  pub time_ans : text_of (Sync (s.AppTimeAns (pos 70) 3)) ≡ codes "AppTimeAns correction=70 token=3"
  pub time_ans_back : text_of (Sync (s.AppTimeAns (negsuc 69) 3))
      ≡ codes "AppTimeAns correction=-70 token=3"
  pub time_ans_zero : text_of (Sync (s.AppTimeAns (pos 0) 0)) ≡ codes "AppTimeAns correction=0 token=0"
  pub period_req : text_of (Sync (s.DeviceAppTimePeriodicityReq 12))
      ≡ codes "DeviceAppTimePeriodicityReq period=12"
  pub period_ans : text_of (Sync (s.DeviceAppTimePeriodicityAns true 500))
      ≡ codes "DeviceAppTimePeriodicityAns unsupported=1 time=500"
  pub period_ans_fine : text_of (Sync (s.DeviceAppTimePeriodicityAns false 500))
      ≡ codes "DeviceAppTimePeriodicityAns unsupported=0 time=500"
  pub resync : text_of (Sync (s.ForceDeviceResyncReq 7)) ≡ codes "ForceDeviceResyncReq count=7"
  pub firmware_req : text_of (Sync s.DevVersionReq) ≡ codes "DevVersionReq"
  pub firmware_ans : text_of (Sync (s.DevVersionAns 20 10)) ≡ codes "DevVersionAns fw=20 hw=10"
  pub reboot_time_req : text_of (Sync (s.DevRebootTimeReq 90)) ≡ codes "DevRebootTimeReq time=90"
  pub reboot_time_ans : text_of (Sync (s.DevRebootTimeAns 91)) ≡ codes "DevRebootTimeAns time=91"
  pub countdown_req : text_of (Sync (s.DevRebootCountdownReq 16777215))
      ≡ codes "DevRebootCountdownReq count=16777215"
  pub countdown_ans : text_of (Sync (s.DevRebootCountdownAns 60))
      ≡ codes "DevRebootCountdownAns count=60"
  pub image_req : text_of (Sync s.DevUpgradeImageReq) ≡ codes "DevUpgradeImageReq"
  pub image_ans : text_of (Sync (s.DevUpgradeImageAns 3 (Some 4)))
      ≡ codes "DevUpgradeImageAns status=3 next=4"
  pub image_ans_of_none : text_of (Sync (s.DevUpgradeImageAns 2 None))
      ≡ codes "DevUpgradeImageAns status=2 next=-"
  pub image_ans_of_0 : text_of (Sync (s.DevUpgradeImageAns 3 (Some 0)))
      ≡ codes "DevUpgradeImageAns status=3 next=0"
  pub delete_image_req : text_of (Sync (s.DevDeleteImageReq 8))
      ≡ codes "DevDeleteImageReq version=8"
  pub delete_image_ans : text_of (Sync (s.DevDeleteImageAns 3)) ≡ codes "DevDeleteImageAns bits=3"

-- commands of TS004, and those of every port
pub record FragmentTexts : Type 0 where
  pub version_req : text_of (Cast c.PackageVersionReq) ≡ codes "PackageVersionReq"
  pub version_ans : text_of (Cast (c.PackageVersionAns 2 1))
      ≡ codes "PackageVersionAns id=2 version=1"
  pub status_req : text_of (Cast (c.FragSessionStatusReq 3 true))
      ≡ codes "FragSessionStatusReq index=3 all=1"
  pub status_req_of_some : text_of (Cast (c.FragSessionStatusReq 2 false))
      ≡ codes "FragSessionStatusReq index=2 all=0"
  pub status_ans : text_of (Cast (c.FragSessionStatusAns 1 16383 255 true))
      ≡ codes "FragSessionStatusAns index=1 received=16383 missing=255 norows=1"
  pub status_ans_with_rows : text_of (Cast (c.FragSessionStatusAns 1 5 4 false))
      ≡ codes "FragSessionStatusAns index=1 received=5 missing=4 norows=0"
  pub setup_req : text_of (Cast (c.FragSessionSetupReq 1 2 4 13 3 5 6 0x0000a1ff))
      ≡ codes "FragSessionSetupReq index=1 mask=2 nbfrag=4 fragsize=13 algo=3 delay=5 padding=6 descriptor=0000a1ff"
  pub setup_ans : text_of (Cast (c.FragSessionSetupAns 3 false false false false))
      ≡ codes "FragSessionSetupAns index=3 bits=0"
  pub wrong_descriptor : text_of (Cast (c.FragSessionSetupAns 3 true false false false))
      ≡ codes "FragSessionSetupAns index=3 bits=8"
  pub index_unsupported : text_of (Cast (c.FragSessionSetupAns 3 false true false false))
      ≡ codes "FragSessionSetupAns index=3 bits=4"
  pub no_memory : text_of (Cast (c.FragSessionSetupAns 3 false false true false))
      ≡ codes "FragSessionSetupAns index=3 bits=2"
  pub encoding_unsupported : text_of (Cast (c.FragSessionSetupAns 3 false false false true))
      ≡ codes "FragSessionSetupAns index=3 bits=1"
  pub all_refused : text_of (Cast (c.FragSessionSetupAns 3 true true true true))
      ≡ codes "FragSessionSetupAns index=3 bits=15"
  pub delete_req : text_of (Cast (c.FragSessionDeleteReq 2)) ≡ codes "FragSessionDeleteReq index=2"
  pub delete_ans : text_of (Cast (c.FragSessionDeleteAns 2 true))
      ≡ codes "FragSessionDeleteAns index=2 missing=1"
  pub deleted : text_of (Cast (c.FragSessionDeleteAns 2 false))
      ≡ codes "FragSessionDeleteAns index=2 missing=0"
  pub fragment : text_of (Cast (c.DataFragment 1 700 (0 ∷ 10 ∷ 255 ∷ [])))
      ≡ codes "DataFragment index=1 n=700 bytes=000aff"
  pub no_bytes : text_of (Cast (c.DataFragment 0 1 [])) ≡ codes "DataFragment index=0 n=1 bytes="

-- a wrapped key, and groups with their addresses
abbrev pub key : List ℕ
key = 0 ∷ 1 ∷ 2 ∷ 3 ∷ 4 ∷ 5 ∷ 6 ∷ 7 ∷ 8 ∷ 9 ∷ 10 ∷ 11 ∷ 12 ∷ 13 ∷ 14 ∷ 255 ∷ []

abbrev pub at_0 : GroupAddress
at_0 = record { id = 0; addr = 0x11223344 }

abbrev pub at_1 : GroupAddress
at_1 = record { id = 1; addr = 0xdeadbeef }

abbrev pub at_3 : GroupAddress
at_3 = record { id = 3; addr = 0x0a }

-- commands of TS005
pub record GroupTexts : Type 0 where
  pub status_req : text_of (Cast (c.McGroupStatusReq 15)) ≡ codes "McGroupStatusReq mask=15"
  pub status_ans : text_of (Cast (c.McGroupStatusAns 4 9 (at_0 ∷ at_3 ∷ [])))
      ≡ codes "McGroupStatusAns total=4 mask=9 groups=0:11223344,3:0000000a"
  pub three_groups : text_of (Cast (c.McGroupStatusAns 4 11 (at_0 ∷ at_1 ∷ at_3 ∷ [])))
      ≡ codes "McGroupStatusAns total=4 mask=11 groups=0:11223344,1:deadbeef,3:0000000a"
  pub one_group : text_of (Cast (c.McGroupStatusAns 1 2 (at_1 ∷ [])))
      ≡ codes "McGroupStatusAns total=1 mask=2 groups=1:deadbeef"
  pub no_group : text_of (Cast (c.McGroupStatusAns 7 0 []))
      ≡ codes "McGroupStatusAns total=7 mask=0 groups=-"
  pub setup_req : text_of (Cast (c.McGroupSetupReq 2 0x1122334a key 5 1000))
      ≡ codes "McGroupSetupReq id=2 addr=1122334a key=000102030405060708090a0b0c0d0eff min=5 max=1000"
  pub setup_ans : text_of (Cast (c.McGroupSetupAns 3 true)) ≡ codes "McGroupSetupAns id=3 error=1"
  pub set_up : text_of (Cast (c.McGroupSetupAns 3 false)) ≡ codes "McGroupSetupAns id=3 error=0"
  pub delete_req : text_of (Cast (c.McGroupDeleteReq 1)) ≡ codes "McGroupDeleteReq id=1"
  pub delete_ans : text_of (Cast (c.McGroupDeleteAns 1 true))
      ≡ codes "McGroupDeleteAns id=1 undefined=1"
  pub deleted : text_of (Cast (c.McGroupDeleteAns 1 false))
      ≡ codes "McGroupDeleteAns id=1 undefined=0"
  pub c_req : text_of (Cast (c.McClassCSessionReq 1 1000 4 8695250 5))
      ≡ codes "McClassCSessionReq id=1 time=1000 timeout=4 freq=8695250 dr=5"
  pub c_ans : text_of (Cast (c.McClassCSessionAns 1 false false false (Some 77)))
      ≡ codes "McClassCSessionAns id=1 bits=0 start=77"
  pub c_undefined : text_of (Cast (c.McClassCSessionAns 2 true false false None))
      ≡ codes "McClassCSessionAns id=2 bits=16 start=-"
  pub c_freq : text_of (Cast (c.McClassCSessionAns 2 false true false None))
      ≡ codes "McClassCSessionAns id=2 bits=8 start=-"
  pub c_dr : text_of (Cast (c.McClassCSessionAns 2 false false true None))
      ≡ codes "McClassCSessionAns id=2 bits=4 start=-"
  pub c_all : text_of (Cast (c.McClassCSessionAns 2 true true true None))
      ≡ codes "McClassCSessionAns id=2 bits=28 start=-"
  pub c_now : text_of (Cast (c.McClassCSessionAns 1 false false false (Some 0)))
      ≡ codes "McClassCSessionAns id=1 bits=0 start=0"
  pub b_req : text_of (Cast (c.McClassBSessionReq 1 1000 3 4 8695250 5))
      ≡ codes "McClassBSessionReq id=1 time=1000 periodicity=3 timeout=4 freq=8695250 dr=5"
  pub b_ans : text_of (Cast (c.McClassBSessionAns 1 false false false (Some 77)))
      ≡ codes "McClassBSessionAns id=1 bits=0 start=77"
  pub b_undefined : text_of (Cast (c.McClassBSessionAns 2 true false false None))
      ≡ codes "McClassBSessionAns id=2 bits=16 start=-"
  pub b_freq : text_of (Cast (c.McClassBSessionAns 2 false true false None))
      ≡ codes "McClassBSessionAns id=2 bits=8 start=-"
  pub b_dr : text_of (Cast (c.McClassBSessionAns 2 false false true None))
      ≡ codes "McClassBSessionAns id=2 bits=4 start=-"
  pub b_all : text_of (Cast (c.McClassBSessionAns 2 true true true None))
      ≡ codes "McClassBSessionAns id=2 bits=28 start=-"
  pub b_now : text_of (Cast (c.McClassBSessionAns 1 false false false (Some 0)))
      ≡ codes "McClassBSessionAns id=1 bits=0 start=0"
