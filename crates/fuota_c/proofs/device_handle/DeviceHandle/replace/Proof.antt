-- `replace` puts the parts of a handle into the struct for C.
use Rattle.c_base.proofs.Structs.{swaps}
use Rattle.fuota_c.proofs.Forms.{device_form}
use Rattle.fuota_c.specs.contracts.device_handle.DeviceHandle.replace.Key.{name as #self}
use Rattle.fuota_c.proofs.device_handle.DeviceHandle.replace.Statement.{statement}
use Rattle.fuota_c.proofs.device_handle.DeviceHandle.replace.Code as code

pub replace_spec : {M : Type 1} → statement M
replace_spec 𝓤 𝓛 𝓜 𝓡 wired = swaps device_form 𝓤 𝓛 𝓜 𝓡 #self (code.unfolded 𝓤 𝓛.H 𝓜 𝓡 wired)
