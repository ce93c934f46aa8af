-- Payloads worked out: reserved bits are read as if they were 0; payloads of several commands; where reading stops.
use Rattle.std.specs.Prelude.{◌≡◌, ℕ, pos, negsuc, true, false, List, [], ◌∷◌, replicate, Some, None, Ok, Err}
use Rattle.wire_base.specs.declared.refusal.Direction.{Direction}
use Rattle.wire_base.specs.declared.refusal.Direction.TheVariants.{Down, Up}
use Rattle.wire_base.specs.declared.refusal.Why.TheVariants.{Port, UnknownCommand, Short, TooLong}
use Rattle.sync_wire.specs.declared.cmd.Cmd.{Cmd as SyncCmd}
use Rattle.sync_wire.specs.declared.cmd.Cmd.TheVariants as s
use Rattle.cast_wire.specs.declared.cmd.Cmd.{Cmd as CastCmd}
use Rattle.cast_wire.specs.declared.cmd.Cmd.TheVariants as c
use Rattle.cast_wire.specs.WorkedSpellings.{key, at_0, at_3}
use Rattle.package_grammar.specs.declared.command.Command.TheVariants.{Sync, Cast}
use Rattle.package_grammar.specs.Reading.{reading_of, counted}

-- a payload is read as one command
abbrev pub IsSync : (port : ℕ) → Direction → (bytes : List ℕ) → SyncCmd → Type 0
IsSync port direction bytes cmd = reading_of port direction bytes ≡ Ok (Sync cmd ∷ [])

abbrev pub IsCast : (port : ℕ) → Direction → (bytes : List ℕ) → CastCmd → Type 0
IsCast port direction bytes cmd = reading_of port direction bytes ≡ Ok (Cast cmd ∷ [])

-- each command that has reserved bits, with all of them set
pub record ReservedBits : Type 0 where
  pub time_req : IsSync 202 Up
      (0x01 ∷ 0x44 ∷ 0x33 ∷ 0x22 ∷ 0x11 ∷ 0xf3 ∷ [])
      (s.AppTimeReq 0x11223344 true 3)
  pub time_req_of_right : IsSync 202 Up
      (0x01 ∷ 0x07 ∷ 0x00 ∷ 0x00 ∷ 0x00 ∷ 0xef ∷ [])
      (s.AppTimeReq 7 false 15)
  pub time_ans : IsSync 202 Down
      (0x01 ∷ 0x46 ∷ 0x00 ∷ 0x00 ∷ 0x00 ∷ 0xf3 ∷ [])
      (s.AppTimeAns (pos 70) 3)
  pub time_ans_back : IsSync 202 Down
      (0x01 ∷ 0xba ∷ 0xff ∷ 0xff ∷ 0xff ∷ 0xff ∷ [])
      (s.AppTimeAns (negsuc 69) 15)
  pub period_req : IsSync 202 Down (0x02 ∷ 0xfc ∷ []) (s.DeviceAppTimePeriodicityReq 12)
  pub period_ans : IsSync 202 Up
      (0x02 ∷ 0xff ∷ 0x44 ∷ 0x33 ∷ 0x22 ∷ 0x11 ∷ [])
      (s.DeviceAppTimePeriodicityAns true 0x11223344)
  pub period_ans_fine : IsSync 202 Up
      (0x02 ∷ 0xfe ∷ 0x01 ∷ 0x00 ∷ 0x00 ∷ 0x00 ∷ [])
      (s.DeviceAppTimePeriodicityAns false 1)
  pub resync : IsSync 202 Down (0x03 ∷ 0xfd ∷ []) (s.ForceDeviceResyncReq 5)
  pub image_ans : IsSync 203 Up
      (0x04 ∷ 0xff ∷ 0x44 ∷ 0x33 ∷ 0x22 ∷ 0x11 ∷ [])
      (s.DevUpgradeImageAns 3 (Some 0x11223344))
  pub image_ans_of_none : IsSync 203 Up (0x04 ∷ 0xfe ∷ []) (s.DevUpgradeImageAns 2 None)
  pub delete_image_ans : IsSync 203 Up (0x05 ∷ 0xfe ∷ []) (s.DevDeleteImageAns 2)
  pub status_req : IsCast 201 Down (0x01 ∷ 0xfd ∷ []) (c.FragSessionStatusReq 2 true)
  pub status_req_of_some : IsCast 201 Down (0x01 ∷ 0xfa ∷ []) (c.FragSessionStatusReq 1 false)
  pub status_ans : IsCast 201 Up
      (0x01 ∷ 0x02 ∷ 0x81 ∷ 0x03 ∷ 0xff ∷ [])
      (c.FragSessionStatusAns 2 0x0102 3 true)
  pub status_ans_with_rows : IsCast 201 Up
      (0x01 ∷ 0xff ∷ 0x7f ∷ 0xff ∷ 0xfe ∷ [])
      (c.FragSessionStatusAns 1 0x3fff 255 false)
  pub setup_req : IsCast 201 Down
      (0x02 ∷ 0xd2 ∷ 0x02 ∷ 0x01 ∷ 0x0d ∷ 0xdd ∷ 0x06 ∷ 0x44 ∷ 0x33 ∷ 0x22 ∷ 0x11 ∷ [])
      (c.FragSessionSetupReq 1 2 0x0102 13 3 5 6 0x11223344)
  pub setup_ans : IsCast 201 Up (0x02 ∷ 0xb0 ∷ []) (c.FragSessionSetupAns 2 false false false false)
  pub wrong_descriptor : IsCast 201 Up
      (0x02 ∷ 0xf8 ∷ [])
      (c.FragSessionSetupAns 3 true false false false)
  pub index_unsupported : IsCast 201 Up
      (0x02 ∷ 0x34 ∷ [])
      (c.FragSessionSetupAns 0 false true false false)
  pub no_memory : IsCast 201 Up (0x02 ∷ 0x32 ∷ []) (c.FragSessionSetupAns 0 false false true false)
  pub encoding_unsupported : IsCast 201 Up
      (0x02 ∷ 0x71 ∷ [])
      (c.FragSessionSetupAns 1 false false false true)
  pub delete_req : IsCast 201 Down (0x03 ∷ 0xfe ∷ []) (c.FragSessionDeleteReq 2)
  pub delete_ans : IsCast 201 Up (0x03 ∷ 0xfe ∷ []) (c.FragSessionDeleteAns 2 true)
  pub deleted : IsCast 201 Up (0x03 ∷ 0xf9 ∷ []) (c.FragSessionDeleteAns 1 false)
  pub group_status_req : IsCast 200 Down (0x01 ∷ 0xf9 ∷ []) (c.McGroupStatusReq 9)
  pub group_status_ans : IsCast 200 Up
      (0x01 ∷ 0xc9 ∷ 0xfc ∷ 0x44 ∷ 0x33 ∷ 0x22 ∷ 0x11 ∷ 0xff ∷ 0x0a ∷ 0x00 ∷ 0x00 ∷ 0x00 ∷ [])
      (c.McGroupStatusAns 4 9 (at_0 ∷ at_3 ∷ []))
  pub no_group : IsCast 200 Up (0x01 ∷ 0xf0 ∷ []) (c.McGroupStatusAns 7 0 [])
  pub group_setup_req : IsCast 200 Down
      (0x02 ∷ 0xfe ∷ 0x44 ∷ 0x33 ∷ 0x22 ∷ 0x11 ∷ 0x00 ∷ 0x01 ∷ 0x02 ∷ 0x03 ∷ 0x04 ∷ 0x05
      ∷ 0x06 ∷ 0x07 ∷ 0x08 ∷ 0x09 ∷ 0x0a ∷ 0x0b ∷ 0x0c ∷ 0x0d ∷ 0x0e ∷ 0xff ∷ 0x05 ∷ 0x00
      ∷ 0x00 ∷ 0x00 ∷ 0x04 ∷ 0x03 ∷ 0x02 ∷ 0x01 ∷ [])
      (c.McGroupSetupReq 2 0x11223344 key 5 0x01020304)
  pub group_setup_ans : IsCast 200 Up (0x02 ∷ 0xff ∷ []) (c.McGroupSetupAns 3 true)
  pub group_set_up : IsCast 200 Up (0x02 ∷ 0xfa ∷ []) (c.McGroupSetupAns 2 false)
  pub group_delete_req : IsCast 200 Down (0x03 ∷ 0xfd ∷ []) (c.McGroupDeleteReq 1)
  pub group_delete_ans : IsCast 200 Up (0x03 ∷ 0xfd ∷ []) (c.McGroupDeleteAns 1 true)
  pub group_deleted : IsCast 200 Up (0x03 ∷ 0xfa ∷ []) (c.McGroupDeleteAns 2 false)
  pub c_req : IsCast 200 Down
      (0x04 ∷ 0xfd ∷ 0x44 ∷ 0x33 ∷ 0x22 ∷ 0x11 ∷ 0xf4 ∷ 0xd2 ∷ 0xad ∷ 0x84 ∷ 0x05 ∷ [])
      (c.McClassCSessionReq 1 0x11223344 4 0x84add2 5)
  pub c_ans : IsCast 200 Up
      (0x04 ∷ 0xe1 ∷ 0x03 ∷ 0x02 ∷ 0x01 ∷ [])
      (c.McClassCSessionAns 1 false false false (Some 0x010203))
  pub c_undefined : IsCast 200 Up (0x04 ∷ 0xf2 ∷ []) (c.McClassCSessionAns 2 true false false None)
  pub c_freq : IsCast 200 Up (0x04 ∷ 0xea ∷ []) (c.McClassCSessionAns 2 false true false None)
  pub c_dr : IsCast 200 Up (0x04 ∷ 0xe7 ∷ []) (c.McClassCSessionAns 3 false false true None)
  pub b_req : IsCast 200 Down
      (0x05 ∷ 0xfd ∷ 0x44 ∷ 0x33 ∷ 0x22 ∷ 0x11 ∷ 0xb4 ∷ 0xd2 ∷ 0xad ∷ 0x84 ∷ 0x05 ∷ [])
      (c.McClassBSessionReq 1 0x11223344 3 4 0x84add2 5)
  pub b_ans : IsCast 200 Up
      (0x05 ∷ 0xe1 ∷ 0x03 ∷ 0x02 ∷ 0x01 ∷ [])
      (c.McClassBSessionAns 1 false false false (Some 0x010203))
  pub b_undefined : IsCast 200 Up (0x05 ∷ 0xf2 ∷ []) (c.McClassBSessionAns 2 true false false None)
  pub b_freq : IsCast 200 Up (0x05 ∷ 0xea ∷ []) (c.McClassBSessionAns 2 false true false None)
  pub b_dr : IsCast 200 Up (0x05 ∷ 0xe7 ∷ []) (c.McClassBSessionAns 3 false false true None)

pub record WorkedMessages : Type 0 where
  pub none : reading_of 201 Down [] ≡ Ok []
  pub two : reading_of 201 Down (0x01 ∷ 0x01 ∷ 0x03 ∷ 0x00 ∷ [])
      ≡ Ok (Cast (c.FragSessionStatusReq 0 true) ∷ Cast (c.FragSessionDeleteReq 0) ∷ [])
  -- a fragment takes all that is left
  pub fragment_last : reading_of 201 Down (0x03 ∷ 0x01 ∷ 0x08 ∷ 0x01 ∷ 0x00 ∷ 0x11 ∷ [])
      ≡ Ok (Cast (c.FragSessionDeleteReq 1) ∷ Cast (c.DataFragment 0 1 (0x11 ∷ [])) ∷ [])
  -- it has one byte at least, and no device sends one
  pub no_fragment : reading_of 201 Down (0x01 ∷ 0x01 ∷ 0x08 ∷ 0x01 ∷ 0x00 ∷ [])
      ≡ Err (record { at = 5; why = Short })
  pub not_up : reading_of 201 Up (0x08 ∷ 0x01 ∷ 0x00 ∷ 0x11 ∷ [])
      ≡ Err (record { at = 0; why = UnknownCommand })
  -- a command that is unknown is refused at its own place, and one that is cut at the end of the payload
  pub unknown_behind : reading_of 201 Down (0x03 ∷ 0x01 ∷ 0x09 ∷ 0x00 ∷ [])
      ≡ Err (record { at = 2; why = UnknownCommand })
  pub cut : reading_of 203 Down (0x01 ∷ 0x02 ∷ 0x0f ∷ [])
      ≡ Err (record { at = 3; why = Short })
  pub group_cut : reading_of 200 Up (0x01 ∷ 0x49 ∷ 0x00 ∷ 0x44 ∷ 0x33 ∷ 0x22 ∷ 0x11 ∷ 0x03 ∷ [])
      ≡ Err (record { at = 8; why = Short })
  pub start_cut : reading_of 200 Up (0x04 ∷ 0x01 ∷ 0x03 ∷ 0x02 ∷ [])
      ≡ Err (record { at = 4; why = Short })
  -- each port has its own commands, and PackageVersionReq is one of all four
  pub of_202_alone : reading_of 203 Down (0x06 ∷ [])
      ≡ Err (record { at = 0; why = UnknownCommand })
  pub none_of_202 : reading_of 202 Down (0x04 ∷ [])
      ≡ Err (record { at = 0; why = UnknownCommand })
  pub none_of_200 : reading_of 200 Down (0x06 ∷ 0x00 ∷ [])
      ≡ Err (record { at = 0; why = UnknownCommand })
  pub version_200 : reading_of 200 Down (0x00 ∷ []) ≡ Ok (Cast c.PackageVersionReq ∷ [])
  pub version_201 : reading_of 201 Down (0x00 ∷ []) ≡ Ok (Cast c.PackageVersionReq ∷ [])
  pub version_202 : reading_of 202 Down (0x00 ∷ []) ≡ Ok (Sync s.PackageVersionReq ∷ [])
  pub version_203 : reading_of 203 Down (0x00 ∷ []) ≡ Ok (Sync s.PackageVersionReq ∷ [])
  pub version_ans_200 : reading_of 200 Up (0x00 ∷ 0x02 ∷ 0x01 ∷ []) ≡ Ok (Cast (c.PackageVersionAns 2 1) ∷ [])
  pub version_ans_203 : reading_of 203 Up (0x00 ∷ 0x04 ∷ 0x01 ∷ []) ≡ Ok (Sync (s.PackageVersionAns 4 1) ∷ [])
  -- a status of 3 needs the next version after it
  pub no_version : reading_of 203 Up (0x04 ∷ 0x03 ∷ 0x02 ∷ 0x00 ∷ 0x00 ∷ [])
      ≡ Err (record { at = 5; why = Short })
  pub no_next : reading_of 203 Up (0x04 ∷ 0x02 ∷ []) ≡ Ok (Sync (s.DevUpgradeImageAns 2 None) ∷ [])
  -- ports 200 to 203
  pub lowest_port : reading_of 199 Down (0x00 ∷ []) ≡ Err (record { at = 0; why = Port })
  pub highest_port : reading_of 204 Down (0x00 ∷ []) ≡ Err (record { at = 0; why = Port })
  -- at most 242 bytes
  pub too_long : reading_of 202 Down (replicate 243 0) ≡ Err (record { at = 242; why = TooLong })
  pub other_port_first : reading_of 204 Down (replicate 243 0) ≡ Err (record { at = 0; why = Port })
  pub too_long_first : reading_of 202 Down (replicate 243 0x7f) ≡ Err (record { at = 242; why = TooLong })
  pub most : counted (reading_of 202 Down (replicate 242 0)) ≡ Ok 242
