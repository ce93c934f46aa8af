-- `replace` puts the parts of a handle into the struct for C.
use Rattle.c_base.proofs.Structs.{swaps}
use Rattle.fuota_server_c.proofs.Forms.{server_form}
use Rattle.fuota_server_c.specs.contracts.server_handle.ServerHandle.replace.Key.{name as #self}
use Rattle.fuota_server_c.proofs.server_handle.ServerHandle.replace.Statement.{statement}
use Rattle.fuota_server_c.proofs.server_handle.ServerHandle.replace.Code as code

pub replace_spec : {M : Type 1} → statement M
replace_spec 𝓤 𝓛 𝓜 𝓡 wired = swaps server_form 𝓤 𝓛 𝓜 𝓡 #self (code.unfolded 𝓤 𝓛.H 𝓜 𝓡 wired)
