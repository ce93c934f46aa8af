-- What a device's fields keep true.
use Rattle.std.specs.Prelude.{◌≡◌, ◌⊎◌, ◌<◌, ◌≤◌, List, length, Option, Some, None}
use Rattle.mc_group.specs.declared.group.Group.{Group}
use Rattle.mc_group.specs.Groups.{max_groups}
use Rattle.image_slots.specs.HeldSlots.{HeldSlots}
use Rattle.device_core.specs.declared.class_session.ClassSession.{ClassSession}
use Rattle.device_core.specs.declared.class_session.Kind.{Kind}
use Rattle.device_core.specs.declared.class_session.Kind.TheVariants.{ClassC, ClassB}
use Rattle.device_core.specs.Configuration.{Configuration}
use Rattle.device_core.specs.Device.{layout_of}
use Rattle.device_core.specs.HeldSessions.{HeldStore}

-- the fields of a class session are within their bits
abbrev pub KindFits : Kind → Type 0
KindFits ClassC = Unit {0}
KindFits (ClassB periodicity) = periodicity < 8

-- the numbers of a class session are within their fields
abbrev pub SessionFits : Option ClassSession → Type 0
SessionFits None = Unit {0}
SessionFits (Some session) = (session.id < max_groups) × (session.timeout < 16) × KindFits session.kind

-- groups, sessions and slots are as the configuration says, but for what `raise` makes known, and the class session is one
pub record IsDevice {F : Type 0} (config : Configuration) (groups : List (Option Group)) (session : Option ClassSession)
    (sessions : HeldStore F) (slots : HeldSlots) : Type 0 where
  pub few_places : config.groups ≤ max_groups
  pub places : length groups ≡ config.groups
  pub layout : sessions.layout ≡ layout_of config
  pub held : sessions.held ≡ config.held
  pub slots_area : slots.area ≡ config.area
  pub hw : slots.hw ≡ config.hw
  pub formats : (slots.slots.formats ≡ config.formats) ⊎ (slots.slots.formats ≡ 2)
  pub session_fits : SessionFits session
