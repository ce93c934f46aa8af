-- The configuration that worked rows begin with.
use Rattle.std.specs.Prelude.{ℕ, false, None, replicate}
use Rattle.mc_keys.specs.declared.root_kind.RootKind.TheVariants.{V10}
use Rattle.session_store.specs.Size.{large_size}
use Rattle.device_core.specs.declared.config.Class.{Class}
use Rattle.device_core.specs.Configuration.{Configuration}

-- a device of hardware 1, whose clock is so many seconds ahead
abbrev pub worked_config : Class → (offset : ℕ) → Configuration
worked_config class offset = record {
  class = class;
  hw = 1;
  rows = 2;
  offset = offset;
  key = replicate 16 0;
  root = V10;
  formats = 2;
  descriptor = None;
  sessions = 4;
  groups = 4;
  area = 262382;
  held = false;
  span = 0;
  size = large_size;
}
