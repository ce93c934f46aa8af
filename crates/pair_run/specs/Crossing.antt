-- What goes across on the air (this project's profile): the frame of a payload to a group, at a device that hears no group with
-- that address.
use Rattle.std.specs.Prelude.{◌≡◌, ℕ, ◌^◌, ◌<◌, List, Some}
use Rattle.mc_group.specs.declared.group.Group.{Group}
use Rattle.package_grammar.specs.declared.downlink.To.TheVariants as to
use Rattle.package_grammar.specs.declared.downlink.Downlink.{Downlink}
use Rattle.device_core.specs.Device.{DeviceState}
use Rattle.device_core.specs.Events.{Receives, HearsBytes, event_step}
use Rattle.device_core.specs.Radio.{heard_group}
use Rattle.campaign_server.specs.declared.plan.PlanGroup.{PlanGroup}
use Rattle.campaign_server.specs.Framing.{frame_for}

-- the group that a device hears, if it hears one, has another address
abbrev pub IsOtherAddress : DeviceState → (addr : ℕ) → Type 0
IsOtherAddress device addr =
    (group : Group) → heard_group device.groups device.class_session ≡ Some group → group.addr ≡ addr → ⊥

-- such a device hears the frame as little as the payload: both make the same of it
abbrev pub FramesCrossAsPayloads : Type 0
FramesCrossAsPayloads = (t word line count port : ℕ) (payload : List ℕ) (group : PlanGroup) (device : DeviceState)
    → group.addr < 2 ^ 32 → IsOtherAddress device group.addr
    → let down : Downlink = record { to = to.Group group.addr count; port = port; payload = payload } in
    event_step device (HearsBytes t word line (frame_for (Some group) down)) ≡ event_step device (Receives t word line down)
