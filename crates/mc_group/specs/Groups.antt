-- The multicast groups of a device (TS005-1.0.0): a place for each id that is configured, with its group where one was set up.
use Rattle.std.specs.Prelude.{ℕ, ◌^◌, ◌==◌, Bool, false, ◌&&◌, nat_le, nat_lt, if◌then◌else◌, List, Option, Some, None, is_some, count_by, slice_index_or}
use Rattle.std.specs.Int.{bit_at}
use Rattle.std.specs.Option.{option_map}
use Rattle.std.specs.List.{filter_map, range_with_len, sum_by}
use Rattle.mc_keys.specs.Keys.{mc_ke_key, mc_key, mc_app_s_key, mc_net_s_key}
use Rattle.mc_keys.specs.Roots.{root_of}
use Rattle.mc_keys.specs.declared.root_kind.RootKind.{RootKind}
use Rattle.cast_wire.specs.declared.group_list.GroupAddress.{GroupAddress}
use Rattle.cast_wire.specs.declared.cmd.Cmd.{Cmd}
use Rattle.cast_wire.specs.declared.cmd.Cmd.TheVariants.{McGroupStatusAns}
use Rattle.mc_group.specs.declared.group.Group.{Group}

-- a device has at most 4 groups (TS005-1.0.0, McGroupID)
abbrev pub max_groups : ℕ
max_groups = 4

-- the group of an id, where it is there
abbrev pub group_at : List (Option Group) → (id : ℕ) → Option Group
group_at table id = slice_index_or table id None

-- what a McGroupSetupReq makes of its fields: the key unwrapped under the device's GenAppKey, or under its AppKey where
-- that makes the root key
abbrev pub group_of : (gen_app_key : List ℕ) → RootKind → (addr : ℕ) (wrapped : List ℕ) (min max : ℕ) → Group
group_of gen_app_key root addr wrapped min max =
    record { addr = addr; key = mc_key (mc_ke_key (root_of root gen_app_key)) wrapped; min = min; max = max }

-- McAppSKey and McNetSKey of a group
abbrev pub group_app_s_key : Group → List ℕ
group_app_s_key group = mc_app_s_key group.key group.addr

abbrev pub group_net_s_key : Group → List ℕ
group_net_s_key group = mc_net_s_key group.key group.addr

-- a frame is for the group that is there: its address is the group's, and its count within the group's range
abbrev pub is_for : Option Group → (addr count : ℕ) → Bool
is_for None addr count = false
is_for (Some group) addr count = group.addr == addr && nat_le group.min count && nat_lt count group.max

-- the id and address of a group that is there and whose bit in the mask asks for it
abbrev pub answer_for : List (Option Group) → (mask id : ℕ) → Option GroupAddress
answer_for table mask id = if bit_at mask id == 1 then option_map (λ group. record { id = id; addr = group.addr }) (group_at table id) else None

-- those of all ids from 0 to 3, in rising order
abbrev pub answers : List (Option Group) → (mask : ℕ) → List GroupAddress
answers table mask = filter_map (answer_for table mask) (range_with_len 0 4)

-- McGroupStatusAns: how many groups are there, a bit for each that is answered, and these
abbrev pub status_answer : List (Option Group) → (mask : ℕ) → Cmd
status_answer table mask = McGroupStatusAns (count_by is_some table) (sum_by (λ answer. 2 ^ answer.id) (answers table mask)) (answers table mask)
