-- What the struct for C holds, in the form of a handle.
use Rattle.std.proofs.Common.{refl}
use Rattle.c_base.proofs.Handles.{Form}
use Rattle.fuota_server_c.specs.Held.{server_row}
use Rattle.fuota_server_c.specs.contracts.server_handle.ServerHandle as server

abbrev pub server_form : Form server_row
server_form = record {
  type = server.the_type;
  parts = λ d. record { at = d.at; alloc = d.alloc; held = d.held };
  of = λ q. record { at = q.at; alloc = q.alloc; held = q.held };
  same = λ q. refl;
}
