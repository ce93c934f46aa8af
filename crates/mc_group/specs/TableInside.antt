-- What the fields of a group table keep true.
use Rattle.std.specs.Prelude.{◌≡◌, ℕ, ◌≤◌, List, [], Option, Some, length, slice_index_or}
use Rattle.mc_group.specs.declared.group.Group.{Group}
use Rattle.mc_group.specs.declared.table.SessionKeys.{SessionKeys}
use Rattle.mc_group.specs.Groups.{max_groups, group_at, group_app_s_key, group_net_s_key}

-- the keys at no place
abbrev pub no_keys : SessionKeys
no_keys = record { app_s = []; net_s = [] }

-- the session keys of a group
abbrev pub keys_of : Group → SessionKeys
keys_of group = record { app_s = group_app_s_key group; net_s = group_net_s_key group }

pub record IsTable (places : List (Option Group)) (keys : List SessionKeys) : Type 0 where
  -- there are not too many ids
  pub few : length places ≤ max_groups
  -- at a group's id are its session keys
  pub keyed : (id : ℕ) (group : Group) → group_at places id ≡ Some group → slice_index_or keys id no_keys ≡ keys_of group
