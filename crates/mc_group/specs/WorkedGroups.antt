-- Groups, worked out (TS005-1.0.0).
use Rattle.std.specs.Prelude.{◌≡◌, ℕ, true, false, List, [], ◌∷◌, replicate, Option, Some, None}
use Rattle.mc_keys.specs.declared.root_kind.RootKind.TheVariants.{V10, V11}
use Rattle.mc_keys.specs.WorkedKeys.{worked_gen_app_key, worked_wrapped, worked_key, worked_key_1_1}
use Rattle.cast_wire.specs.declared.group_list.GroupAddress.{GroupAddress}
use Rattle.cast_wire.specs.declared.cmd.Cmd.TheVariants.{McGroupStatusAns}
use Rattle.mc_group.specs.declared.group.Group.{Group}
use Rattle.mc_group.specs.Groups.{max_groups, group_at, group_of, group_app_s_key, group_net_s_key, is_for, status_answer}

-- a group with this address, for the frame counts 3 to 9
abbrev pub worked_group : (addr : ℕ) → Group
worked_group addr = record { addr = addr; key = replicate 16 0; min = 3; max = 10 }

-- the groups 0 and 2 of three
abbrev pub worked_table : List (Option Group)
worked_table = Some (worked_group 0x11223344) ∷ None ∷ Some (worked_group 0x55667788) ∷ []

-- the groups 0 to 3, of addresses 10 to 13
abbrev pub full_table : List (Option Group)
full_table = Some (worked_group 10) ∷ Some (worked_group 11) ∷ Some (worked_group 12) ∷ Some (worked_group 13) ∷ []

-- a group as an answer lists it
abbrev pub told : (id addr : ℕ) → GroupAddress
told id addr = record { id = id; addr = addr }

pub record WorkedGroups : Type 0 where
  pub most : max_groups ≡ 4
  pub there : group_at worked_table 2 ≡ Some (worked_group 0x55667788)
  pub free : group_at worked_table 1 ≡ None
  pub outside : group_at worked_table 3 ≡ None
  -- a frame is for a group that has its address, from the least count on and below the most
  pub below : is_for (group_at worked_table 0) 0x11223344 2 ≡ false
  pub least : is_for (group_at worked_table 0) 0x11223344 3 ≡ true
  pub last : is_for (group_at worked_table 0) 0x11223344 9 ≡ true
  pub most_count : is_for (group_at worked_table 0) 0x11223344 10 ≡ false
  pub other_address : is_for (group_at worked_table 0) 0x55667788 5 ≡ false
  pub address_below : is_for (group_at worked_table 2) 0x11223344 5 ≡ false
  pub first_byte : is_for (group_at worked_table 0) 0x11223345 5 ≡ false
  pub last_byte : is_for (group_at worked_table 0) 0x12223344 5 ≡ false
  pub no_group : is_for (group_at worked_table 1) 0x11223344 5 ≡ false
  -- all groups are counted, and those that are there and asked for are listed in rising order
  pub all : status_answer worked_table 15 ≡ McGroupStatusAns 2 5 (record { id = 0; addr = 0x11223344 } ∷ record { id = 2; addr = 0x55667788 } ∷ [])
  pub second : status_answer worked_table 6 ≡ McGroupStatusAns 2 4 (record { id = 2; addr = 0x55667788 } ∷ [])
  pub none : status_answer worked_table 10 ≡ McGroupStatusAns 2 0 []
  pub four : status_answer full_table 15
      ≡ McGroupStatusAns 4 15 (told 0 10 ∷ told 1 11 ∷ told 2 12 ∷ told 3 13 ∷ [])
  pub last_two : status_answer full_table 12 ≡ McGroupStatusAns 4 12 (told 2 12 ∷ told 3 13 ∷ [])

-- the key that a setup unwraps under the device's GenAppKey, and under the same bytes as its AppKey
pub record WorkedSetup : Type 0 where
  pub key : group_of worked_gen_app_key V10 0x11223344 worked_wrapped 3 10
      ≡ record { addr = 0x11223344; key = worked_key; min = 3; max = 10 }
  pub key_1_1 : group_of worked_gen_app_key V11 0x11223344 worked_wrapped 3 10
      ≡ record { addr = 0x11223344; key = worked_key_1_1; min = 3; max = 10 }
  -- the two session keys of the first group
  pub app_s_key : group_app_s_key (record { addr = 0x11223344; key = worked_key; min = 3; max = 10 })
      ≡ 0x10 ∷ 0x76 ∷ 0xbb ∷ 0xc2 ∷ 0xea ∷ 0x64 ∷ 0xf6 ∷ 0xe7 ∷ 0x58 ∷ 0x05 ∷ 0x68 ∷ 0x87 ∷ 0x98 ∷ 0x92 ∷ 0x8a ∷ 0xba ∷ []
  pub net_s_key : group_net_s_key (record { addr = 0x11223344; key = worked_key; min = 3; max = 10 })
      ≡ 0x9f ∷ 0x04 ∷ 0x20 ∷ 0xfe ∷ 0xdd ∷ 0xea ∷ 0x37 ∷ 0xd9 ∷ 0xf0 ∷ 0x57 ∷ 0xe1 ∷ 0xa2 ∷ 0x1f ∷ 0x2c ∷ 0xd4 ∷ 0xca ∷ []
