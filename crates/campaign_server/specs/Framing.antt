-- Payloads to the plan's group as frames (LoRaWAN 1.0.x, 4; TS005-1.0.0, the group's session keys).
use Rattle.std.specs.Prelude.{ℕ, Bool, false, ◌&&◌, ◌==◌, nat_lt, List, [], Option, Some}
use Rattle.mc_keys.specs.Keys.{mc_app_s_key, mc_net_s_key}
use Rattle.mc_frames.specs.declared.session.Keys.{Keys}
use Rattle.mc_frames.specs.Frames.{frame_of}
use Rattle.package_grammar.specs.declared.downlink.To.{To}
use Rattle.package_grammar.specs.declared.downlink.To.TheVariants as to
use Rattle.package_grammar.specs.declared.downlink.Downlink.{Downlink}
use Rattle.campaign_server.specs.declared.plan.PlanGroup.{PlanGroup}

-- a payload is to the plan's group
abbrev pub is_to_group : Option PlanGroup → To → Bool
is_to_group (Some group) (to.Group addr count) = addr == group.addr
is_to_group group receivers = false

-- a payload that has a frame: it is to the plan's group, and its port isn't 0, which is that of MAC commands
abbrev pub has_frame : Option PlanGroup → Downlink → Bool
has_frame group down = is_to_group group down.to && nat_lt 0 down.port

-- McAppSKey and McNetSKey of the group
abbrev pub session_keys : PlanGroup → Keys
session_keys group = record { app_s = mc_app_s_key group.key group.addr; net_s = mc_net_s_key group.key group.addr }

-- the frame of a payload to the group, with FCtrl 00
abbrev pub group_frame : PlanGroup → (count port : ℕ) → List ℕ → List ℕ
group_frame group count port payload = frame_of (session_keys group) group.addr 0x00 count port payload

-- the same for any payload; none where it is not to the group
abbrev pub frame_to : Option PlanGroup → To → (port : ℕ) → List ℕ → List ℕ
frame_to (Some group) (to.Group addr count) port payload = group_frame group count port payload
frame_to group receivers port payload = []

abbrev pub frame_for : Option PlanGroup → Downlink → List ℕ
frame_for group down = frame_to group down.to down.port down.payload
