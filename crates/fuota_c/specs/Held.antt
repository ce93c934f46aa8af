-- The types of what a handle holds.
use Rattle.fuota_c.specs.contracts.sized_receiver.Receiver as receiver
use Rattle.flash_session.specs.contracts.cells.CellFlash as cells
use Rattle.flash_session.specs.contracts.cells.CellFlashFlash.TheImpl as cells_flash
use Rattle.device_core.specs.contracts.device.Device as device
use denote.RattleType.{RattleType}

abbrev pub receiver_row : RattleType
receiver_row = receiver.the_row

-- a device over no cells
abbrev pub device_row : RattleType
device_row = device.the_row cells.the_row cells_flash.ghosts
