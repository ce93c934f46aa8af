-- `get_mut` lends what the struct for C holds.
use Rattle.c_base.proofs.Structs.{lends}
use Rattle.fuota_c.proofs.Forms.{receiver_form}
use Rattle.fuota_c.specs.contracts.receiver_handle.ReceiverHandle.get_mut.Key.{name as #self}
use Rattle.fuota_c.proofs.receiver_handle.ReceiverHandle.get_mut.Statement.{statement}
use Rattle.fuota_c.proofs.receiver_handle.ReceiverHandle.get_mut.Code as code

pub get_mut_spec : {M : Type 1} → statement M
get_mut_spec 𝓤 𝓛 𝓜 𝓡 wired = lends receiver_form 𝓤 𝓛 𝓜 𝓡 #self (code.unfolded 𝓤 𝓛.H 𝓜 𝓡 wired)
