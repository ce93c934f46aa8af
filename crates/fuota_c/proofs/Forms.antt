-- What the structs for C hold, in the form of a handle.
use Rattle.std.proofs.Common.{refl}
use Rattle.c_base.proofs.Handles.{Form}
use Rattle.fuota_c.specs.Held.{receiver_row, device_row}
use Rattle.fuota_c.specs.contracts.receiver_handle.ReceiverHandle as receiver
use Rattle.fuota_c.specs.contracts.device_handle.DeviceHandle as device

abbrev pub receiver_form : Form receiver_row
receiver_form = record {
  type = receiver.the_type;
  parts = λ d. record { at = d.at; alloc = d.alloc; held = d.held };
  of = λ q. record { at = q.at; alloc = q.alloc; held = q.held };
  same = λ q. refl;
}

abbrev pub device_form : Form device_row
device_form = record {
  type = device.the_type;
  parts = λ d. record { at = d.at; alloc = d.alloc; held = d.held };
  of = λ q. record { at = q.at; alloc = q.alloc; held = q.held };
  same = λ q. refl;
}
