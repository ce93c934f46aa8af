-- Bytes that the radio heard: what is foreign is counted, and a frame of the group that is heard comes to it.
use Rattle.std.proofs.Common.{◌≡◌, ℕ, ◌+◌, ◌^◌, ◌<◌, ◌≤◌, inl, List, length, Some, Result, Ok, Err, refl}
use Rattle.wire_base.specs.Payload.{max_payload}
use Rattle.package_grammar.specs.declared.downlink.To.TheVariants as to
use Rattle.package_grammar.specs.declared.downlink.Downlink.{Downlink}
use Rattle.mc_group.specs.declared.group.Group.{Group}
use Rattle.mc_frames.specs.declared.session.Keys.{Keys}
use Rattle.mc_frames.specs.declared.fault.FrameFault.{FrameFault}
use Rattle.mc_frames.specs.Frames.{frame_of}
use Rattle.mc_frames.specs.Opening.{Holds, opening}
use Rattle.mc_frames.proofs.Apart.{held_is_faultless, read_from}
use Rattle.mc_frames.proofs.Faults.{no_fault}
use Rattle.device_core.specs.declared.delivered.Aired.TheVariants.{Foreign}
use Rattle.device_core.specs.Device.{DeviceState, after_deaf, with_counts}
use Rattle.device_core.specs.Deliver.{delivery}
use Rattle.device_core.specs.Firmware.{after_due_reboot}
use Rattle.device_core.specs.Radio.{heard_group, session_keys, brought, aired, after_frame, radio}

foreign_by : (t word mark : ℕ) (down : Result Downlink FrameFault) (fault : FrameFault) (device : DeviceState)
    → (after_frame t word mark down device).answer ≡ Foreign fault
    → (after_frame t word mark down device).device ≡ with_counts after_deaf (after_due_reboot t device)
foreign_by t word mark (Ok down) fault device is = absurd cc
foreign_by t word mark (Err other) fault device is = refl

pub foreign_counted : (t word mark : ℕ) (bytes : List ℕ) (fault : FrameFault) (device : DeviceState)
    → (radio t word mark bytes device).answer ≡ Foreign fault
    → (radio t word mark bytes device).device ≡ with_counts after_deaf (after_due_reboot t device)
unfolding radio
foreign_counted t word mark bytes fault device = foreign_by t word mark (brought device bytes) fault device

-- what bytes hold is what they are opened to
opened_to : (keys : Keys) (addr min max : ℕ) (bytes : List ℕ) (count port : ℕ) (payload : List ℕ) → addr < 2 ^ 32
    → Holds keys addr min max bytes count port payload
    → opening keys addr min max bytes ≡ Ok (record { count = count; port = port; payload = payload })
opened_to keys addr min max bytes count port payload fits holds =
    let none = no_fault keys addr min max bytes (held_is_faultless fits holds) in
    let is_read = read_from holds in
    rw (none, is_read.count_is, is_read.port_is, is_read.payload_is) refl

-- a frame with a due count comes to its group as its payload
pub frame_delivered : (t word mark count port : ℕ) (payload : List ℕ) (group : Group) (device : DeviceState)
    → heard_group device.groups device.class_session ≡ Some group
    → group.addr < 2 ^ 32 → length payload ≤ max_payload → 0 < port
    → group.min ≤ count → count < group.max → count < group.min + 65536
    → radio t word mark (frame_of (session_keys group) group.addr 0x00 count port payload) device
    ≡ aired (delivery t word mark (record { to = to.Group group.addr count; port = port; payload = payload }) device)
unfolding radio brought
frame_delivered t word mark count port payload group device hears fits short some from below near =
    let bytes = frame_of (session_keys group) group.addr 0x00 count port payload in
    let holds : Holds (session_keys group) group.addr group.min group.max bytes count port payload = record {
      control = 0x00;
      control_is = inl refl;
      bytes_are = refl;
      payload_fits = short;
      port_is = some;
      from = from;
      near = near;
      below = below;
    } in
    rw (hears, opened_to (session_keys group) group.addr group.min group.max bytes count port payload fits holds) refl
