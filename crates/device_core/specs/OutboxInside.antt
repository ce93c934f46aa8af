-- What the fields of an outbox keep true.
use Rattle.std.specs.Prelude.{◌≤◌, List, length}
use Rattle.std.specs.List.{AllByRecursion}
use Rattle.device_core.specs.declared.uplink.Uplink.{Uplink}
use Rattle.device_core.specs.Device.{outbox_size}
use Rattle.device_core.specs.Saving.{UplinkFits}

pub record IsOutbox (uplinks : List Uplink) : Type 0 where
  pub few : length uplinks ≤ outbox_size
  pub fit : AllByRecursion UplinkFits uplinks
