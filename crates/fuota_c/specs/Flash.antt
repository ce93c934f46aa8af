-- What power makes of a device for C.
use Rattle.std.specs.Prelude.{◌≡◌, ℕ, true, false, Result, Ok, Err}
use Rattle.flash_session.specs.Flashes.{Cells}
use Rattle.flash_session.specs.declared.fault.OpenFault.{OpenFault}
use Rattle.device_core.specs.HeldDevice.{HeldDevice}
use Rattle.device_core.specs.HeldPower.{Powers}
use Rattle.c_base.specs.Answer.{done, nothing, flash}
use Rattle.fuota_c.specs.Device.{seen_cells}

abbrev pub opened_number : Result (Unit {0}) OpenFault → ℕ
opened_number (Ok x) = done
opened_number (Err fault) = flash

-- the sessions in its flash are opened; where they are in memory, nothing changes
pub record PowersOrNot (x y : HeldDevice Cells) (answer : ℕ) : Type 0 where
  pub powers : x.sessions.held ≡ true → (result : Result (Unit {0}) OpenFault) × (answer ≡ opened_number result) × Powers seen_cells x y result
  pub quiet : x.sessions.held ≡ false → (answer ≡ nothing) × (y ≡ x)
