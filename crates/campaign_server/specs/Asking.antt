-- What the server asks of a device at each stage (TS004, TS005 and TS006, 1.0.0; the order is this project's profile).
use Rattle.std.specs.Prelude.{ℕ, ◌^◌, true, List, length, Option, Some, None}
use Rattle.frag_encoder.specs.Encoding.{nb_frag_of, padding_of}
use Rattle.image_slots.specs.Image.{firmware_of}
use Rattle.mc_keys.specs.Keys.{mc_ke_key}
use Rattle.mc_keys.specs.Roots.{root_of}
use Rattle.cast_wire.specs.declared.cmd.Cmd.{Cmd}
use Rattle.cast_wire.specs.declared.cmd.Cmd.TheVariants.{McGroupSetupReq, FragSessionSetupReq, McClassCSessionReq, McClassBSessionReq, FragSessionStatusReq}
use Rattle.sync_wire.specs.declared.cmd.Cmd.TheVariants.{DevVersionReq, DevUpgradeImageReq, DevRebootCountdownReq}
use Rattle.package_grammar.specs.declared.command.Command.{Command}
use Rattle.package_grammar.specs.declared.command.Command.TheVariants.{Sync, Cast}
use Rattle.package_grammar.specs.declared.downlink.To.TheVariants.{Unicast}
use Rattle.campaign_server.specs.declared.plan.PlanGroup.{PlanGroup}
use Rattle.campaign_server.specs.declared.plan.PlanWindow.{PlanWindow}
use Rattle.campaign_server.specs.declared.plan.PlanDevice.{PlanDevice}
use Rattle.campaign_server.specs.declared.plan.Kind.{Kind}
use Rattle.campaign_server.specs.declared.plan.Kind.TheVariants as kind
use Rattle.campaign_server.specs.declared.stage.Stage.{Stage}
use Rattle.campaign_server.specs.declared.stage.Stage.TheVariants.{At, Updated, Refused}
use Rattle.campaign_server.specs.declared.stage.Request.{Request}
use Rattle.campaign_server.specs.declared.stage.Request.TheVariants.{Version, Group, Fragments, Window, Status, Image, Reboot, Check}
use Rattle.campaign_server.specs.Plan.{Plan, own_id}
use Rattle.campaign_server.specs.Wrapping.{wrapped_key}
use Rattle.campaign_server.specs.Server.{ServerState, DownlinkCommand, ledger}
use Rattle.wire_base.specs.Numbered.{numbered}

-- ---- the requests

-- the place of a request in the order of a campaign
abbrev pub request_rank : Request → ℕ
request_rank Version = 0
request_rank Group = 1
request_rank Fragments = 2
request_rank Window = 3
request_rank Status = 4
request_rank Image = 5
request_rank Reboot = 6
request_rank Check = 7

-- the group, its key wrapped for the device: under the root key of its GenAppKey, or of its AppKey
abbrev pub group_request : PlanDevice → PlanGroup → Cmd
group_request device group =
    let key = wrapped_key (mc_ke_key (root_of device.root device.key)) group.key in
    McGroupSetupReq group.id group.addr key group.min group.max

-- the group may feed the session where there is one
abbrev pub mask_of : Option PlanGroup → ℕ
mask_of None = 0
mask_of (Some group) = 2 ^ group.id

-- the session: BlockAckDelay 0, and the firmware version as what the file is
abbrev pub fragments_request : Plan → (image : List ℕ) → Cmd
fragments_request plan image =
    let size = plan.frag_size in
    let nb_frag = nb_frag_of (length image) size in
    let padding = padding_of (length image) size in
    FragSessionSetupReq plan.index (mask_of plan.group) nb_frag size 0 0 padding (firmware_of image)

-- the class session of the group with an id
abbrev pub window_request_of : (id : ℕ) → PlanWindow → Kind → Cmd
window_request_of id window kind.C = McClassCSessionReq id window.start window.timeout window.freq window.dr
window_request_of id window (kind.B periodicity) =
    McClassBSessionReq id window.start periodicity window.timeout window.freq window.dr

-- McClassCSessionReq or McClassBSessionReq
abbrev pub window_request : (id : ℕ) → PlanWindow → Cmd
window_request id window = window_request_of id window window.kind

-- ---- the table

-- a request that needs something of the plan, where that is there
abbrev pub cast_of : {A : Type 0} → (A → Cmd) → Option A → Option Command
cast_of request None = None
cast_of request (Some x) = Some (Cast (request x))

-- the request of a stage, to a device; none at updated or refused
unfoldable pub request_at : Plan → (image : List ℕ) → PlanDevice → Stage → Option Command
request_at plan image device (At Version) = Some (Sync DevVersionReq)
request_at plan image device (At Group) = cast_of (λ group. group_request device group) plan.group
request_at plan image device (At Fragments) = Some (Cast (fragments_request plan image))
request_at plan image device (At Window) =
    cast_of (λ window. window_request (own_id plan.group) window) plan.window
request_at plan image device (At Status) = Some (Cast (FragSessionStatusReq plan.index true))
request_at plan image device (At Image) = Some (Sync DevUpgradeImageReq)
request_at plan image device (At Reboot) = Some (Sync (DevRebootCountdownReq 0))
request_at plan image device (At Check) = Some (Sync DevVersionReq)
request_at plan image device Updated = None
request_at plan image device (Refused request bits) = None

-- ---- the call

-- what a device is asked at its stage
abbrev pub command_for : Plan → (image : List ℕ) → Option PlanDevice → Option Stage → Option Command
command_for plan image (Some device) (Some stage) = request_at plan image device stage
command_for plan image device stage = None

abbrev pub by_unicast : Option Command → Option DownlinkCommand
by_unicast None = None
by_unicast (Some command) = Some (record { to = Unicast; command = command })

-- what the server asks of a device, by unicast
unfoldable pub request_of : ServerState → (dev : ℕ) → Option DownlinkCommand
request_of server dev = by_unicast (command_for server.plan server.image (numbered server.plan.devices dev) (ledger server dev))
