-- What a server has to do, as C says it, and the server that is made from it.
use Rattle.std.specs.Prelude.{◌≡◌, ◌⊎◌, ℕ, suc, Bool, true, false, List, length, map, Option, Some, None}
use Rattle.image_slots.specs.Image.{is_image}
use Rattle.mc_keys.specs.declared.root_kind.RootKind.{RootKind}
use Rattle.mc_keys.specs.declared.root_kind.RootKind.TheVariants.{V10, V11}
use Rattle.campaign_server.specs.declared.plan.Field.{Field}
use Rattle.campaign_server.specs.declared.plan.Field.TheVariants as field
use Rattle.campaign_server.specs.declared.plan.Kind.{Kind}
use Rattle.campaign_server.specs.declared.plan.Kind.TheVariants as kind
use Rattle.campaign_server.specs.declared.plan.PlanDevice.{PlanDevice}
use Rattle.campaign_server.specs.declared.plan.PlanGroup.{PlanGroup}
use Rattle.campaign_server.specs.declared.plan.PlanWindow.{PlanWindow}
use Rattle.campaign_server.specs.Plan.{Plan, bad_field, max_devices}
use Rattle.campaign_server.specs.Server.{ServerState, first_server}
use Rattle.c_base.specs.Answer.{done, range, no_memory, refused}
use Rattle.fuota_server_c.specs.declared.plan.PlanDeviceFields.{PlanDeviceFields}
use Rattle.fuota_server_c.specs.declared.plan.PlanFields.{PlanFields}

-- ---- the plan

abbrev pub kind_of : (is_class_b : Bool) → (periodicity : ℕ) → Kind
kind_of true periodicity = kind.B periodicity
kind_of false periodicity = kind.C

abbrev pub where_told : {X : Type 0} → (has : Bool) → X → Option X
where_told true x = Some x
where_told false x = None

abbrev pub group_of : PlanFields → Option PlanGroup
group_of fields = where_told fields.has_group (record {
  id = fields.id;
  addr = fields.addr;
  key = fields.key;
  min = fields.min;
  max = fields.max;
})

abbrev pub window_of : PlanFields → Option PlanWindow
window_of fields = where_told fields.has_window (record {
  kind = kind_of fields.is_class_b fields.periodicity;
  start = fields.start;
  timeout = fields.timeout;
  freq = fields.freq;
  dr = fields.dr;
})

abbrev pub root_of : (is_v11 : Bool) → RootKind
root_of true = V11
root_of false = V10

abbrev pub device_of : PlanDeviceFields → PlanDevice
device_of fields = record { key = fields.key; root = root_of fields.is_v11 }

abbrev pub plan_of : PlanFields → List PlanDeviceFields → Plan
plan_of fields devices = record {
  frag_size = fields.frag_size;
  parity = fields.parity;
  index = fields.index;
  group = group_of fields;
  window = window_of fields;
  devices = map device_of devices;
}

-- the most devices that are copied out of C's
abbrev pub most_copied : ℕ
most_copied = suc max_devices

-- ---- the server

abbrev pub field_number : Field → ℕ
field_number field.FragSize = 1
field_number field.Parity = 2
field_number field.Group = 3
field_number field.Window = 4
field_number field.Devices = 5
field_number field.Index = 6

-- a server at its start, of a plan of which no field is wrong
abbrev pub IsFirst : (image : List ℕ) → Plan → ServerState → Type 0
IsFirst image plan x = (x ≡ first_server image plan) × (bad_field (length image) plan ≡ None)

-- the first field that is wrong has this number
pub record IsWrong (image : List ℕ) (plan : Plan) (number : ℕ) : Type 0 where
  pub field : Field
  pub first : bad_field (length image) plan ≡ Some field
  pub told : number ≡ field_number field

-- there is none: the image is no image file, a field is wrong, or memory was missing
abbrev pub IsNoServer : (image : List ℕ) → Plan → (old new answer : ℕ) → Type 0
IsNoServer image plan old new answer =
    ((answer ≡ refused) × (is_image image ≡ false) × (new ≡ old))
    ⊎ (((answer ≡ range) × (is_image image ≡ true) × IsWrong image plan new)
    ⊎ ((answer ≡ no_memory) × (is_image image ≡ true) × (new ≡ old)))

abbrev pub IsNewServer : (image : List ℕ) → Plan → Option ServerState → (old new answer : ℕ) → Type 0
IsNewServer image plan (Some x) old new answer =
    (answer ≡ done) × (is_image image ≡ true) × IsFirst image plan x × (new ≡ old)
IsNewServer image plan None old new answer = IsNoServer image plan old new answer
