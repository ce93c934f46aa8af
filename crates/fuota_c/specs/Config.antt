-- What a device of C is configured with.
use Rattle.std.specs.Prelude.{ℕ, ◌^◌, Bool, true, false, ◌&&◌, nat_lt, List, length, Option, Some, None}
use Rattle.mc_keys.specs.declared.root_kind.RootKind.{RootKind}
use Rattle.mc_keys.specs.declared.root_kind.RootKind.TheVariants.{V10, V11}
use Rattle.device_core.specs.declared.config.Class.{Class}
use Rattle.device_core.specs.declared.config.Class.TheVariants.{A, C}
use Rattle.device_core.specs.declared.config.DeviceConfig.{DeviceConfig}
use Rattle.device_core.specs.Configuration.{at_full_size}
use Rattle.device_core.specs.HeldDevice.{can_reserve}
use Rattle.fuota_c.specs.declared.config.ConfigFields.{ConfigFields}

abbrev pub class_of : (is_class_c : Bool) → Class
class_of true = C
class_of false = A

abbrev pub root_of : (is_v11 : Bool) → RootKind
root_of true = V11
root_of false = V10

abbrev pub where_told : {X : Type 0} → (has : Bool) → X → Option X
where_told true x = Some x
where_told false x = None

abbrev pub config_of : ConfigFields → DeviceConfig
config_of fields = record {
  class = class_of fields.is_class_c;
  hw = fields.hw;
  formats = fields.formats;
  rows = fields.rows;
  offset = fields.offset;
  key = fields.key;
  root = root_of fields.is_v11;
  descriptor = where_told fields.has_descriptor fields.descriptor;
  sessions = fields.sessions;
  groups = fields.groups;
  area = fields.area;
  held = false;
  span = 0;
}

-- the same, of a device whose sessions are held in flash, each in so many bytes
abbrev pub held_config_of : ConfigFields → (span : ℕ) → DeviceConfig
held_config_of fields span = record (config_of fields) { held = true; span = span }

-- each number is within its bounds, and a flash of these bytes has room
abbrev pub fits : DeviceConfig → (bytes : List ℕ) → Bool
fits config bytes = nat_lt (length bytes) (2 ^ 32) && can_reserve (at_full_size config) (length bytes)
