-- The configuration of a device together with the size of its sessions.
use Rattle.std.specs.Prelude.{ℕ, Bool, List, Option}
use Rattle.mc_keys.specs.declared.root_kind.RootKind.{RootKind}
use Rattle.session_store.specs.Size.{Size, size_for, large_size}
use Rattle.device_core.specs.declared.config.Class.{Class}
use Rattle.device_core.specs.declared.config.DeviceConfig.{DeviceConfig}

-- the fields of `DeviceConfig`, and the size
pub record Configuration : Type 0 where
  pub class : Class
  pub hw : ℕ
  pub formats : ℕ
  pub rows : ℕ
  pub offset : ℕ
  pub key : List ℕ
  pub root : RootKind
  pub descriptor : Option ℕ
  pub sessions : ℕ
  pub groups : ℕ
  pub area : ℕ
  pub held : Bool
  pub span : ℕ
  pub size : Size

-- the configuration of a device of this size
abbrev pub configured : Size → DeviceConfig → Configuration
configured size config = record {
  class = config.class;
  hw = config.hw;
  formats = config.formats;
  rows = config.rows;
  offset = config.offset;
  key = config.key;
  root = config.root;
  descriptor = config.descriptor;
  sessions = config.sessions;
  groups = config.groups;
  area = config.area;
  held = config.held;
  span = config.span;
  size = size;
}

-- with sessions of the least size that has its rows for any file
abbrev pub at_least_size : DeviceConfig → Configuration
at_least_size config = configured (size_for config.rows) config

-- with sessions that have room for any file
abbrev pub at_full_size : DeviceConfig → Configuration
at_full_size config = configured large_size config
