-- Bytes that the radio heard come to a device as a multicast frame (LoRaWAN 1.0.x, 4; which group is heard, and what happens to
-- other bytes, is this project's profile).
use Rattle.std.specs.Prelude.{ℕ, List, Option, Some, None, Result, Ok, Err}
use Rattle.package_grammar.specs.declared.downlink.To.TheVariants as to
use Rattle.package_grammar.specs.declared.downlink.Downlink.{Downlink}
use Rattle.mc_group.specs.declared.group.Group.{Group}
use Rattle.mc_group.specs.Groups.{group_at, group_app_s_key, group_net_s_key}
use Rattle.mc_frames.specs.declared.session.Keys.{Keys}
use Rattle.mc_frames.specs.declared.fault.FrameFault.{FrameFault}
use Rattle.mc_frames.specs.declared.opening.Opened.{Opened}
use Rattle.mc_frames.specs.Opening.{opening, fault_without_group}
use Rattle.device_core.specs.declared.class_session.ClassSession.{ClassSession}
use Rattle.device_core.specs.declared.delivered.Delivered.{Delivered}
use Rattle.device_core.specs.declared.delivered.Aired.{Aired}
use Rattle.device_core.specs.declared.delivered.Aired.TheVariants.{Foreign, Heard}
use Rattle.device_core.specs.Device.{DeviceState, after_deaf, with_counts}
use Rattle.device_core.specs.Deliver.{Outcome, delivery}
use Rattle.device_core.specs.Firmware.{after_due_reboot}

-- ---- the frame

-- the group that is heard: that of the class session, where it is there
abbrev pub heard_group : List (Option Group) → Option ClassSession → Option Group
heard_group groups None = None
heard_group groups (Some session) = group_at groups session.id

-- McAppSKey and McNetSKey of a group
abbrev pub session_keys : Group → Keys
session_keys group = record { app_s = group_app_s_key group; net_s = group_net_s_key group }

-- what was opened of a frame, as a payload to the group with its whole count
abbrev pub payload_to : (addr : ℕ) → Result Opened FrameFault → Result Downlink FrameFault
payload_to addr (Ok opened) =
    Ok (record { to = to.Group addr opened.count; port = opened.port; payload = opened.payload })
payload_to addr (Err fault) = Err fault

-- what bytes bring to a group, or the first fault; where no group is heard, any address is another
abbrev pub brought_to : Option Group → List ℕ → Result Downlink FrameFault
brought_to None bytes = Err (fault_without_group bytes)
brought_to (Some group) bytes =
    payload_to group.addr (opening (session_keys group) group.addr group.min group.max bytes)

-- the payload that bytes of the air bring to the group that is heard, or why they bring none
unfoldable pub brought : DeviceState → List ℕ → Result Downlink FrameFault
brought device bytes = brought_to (heard_group device.groups device.class_session) bytes

-- ---- the call

-- bytes that were a frame did what their payload does
abbrev pub aired : Outcome Delivered → Outcome Aired
aired made = record { device = made.device; answer = Heard made.answer }

-- a payload is delivered; other bytes change only the counter of what was not heard, and a reboot that is due is carried out
abbrev pub after_frame : (t word mark : ℕ) → Result Downlink FrameFault → DeviceState → Outcome Aired
after_frame t word mark (Ok down) device = aired (delivery t word mark down device)
after_frame t word mark (Err fault) device =
    record { device = with_counts after_deaf (after_due_reboot t device); answer = Foreign fault }

-- what bytes of the air do
unfoldable pub radio : (t word mark : ℕ) → List ℕ → DeviceState → Outcome Aired
radio t word mark bytes device = after_frame t word mark (brought device bytes) device
