-- What a device has to be for a request to lead on, and where it leads (this project's profile).
use Rattle.std.specs.Prelude.{◌≡◌, ℕ, ◌<◌, true, if◌then◌else◌, List, length, Some, is_some}
use Rattle.frag_encoder.specs.Encoding.{nb_frag_of, padding_of}
use Rattle.frag_session.specs.declared.setups.SetupReq.{SetupReq}
use Rattle.frag_session.specs.declared.answers.Verdict.TheVariants.{Complete}
use Rattle.frag_session.specs.Session.{Session, seen_of}
use Rattle.frag_session.specs.Setup.{setup_bits}
use Rattle.image_slots.specs.declared.view.ImageState.TheVariants.{Valid}
use Rattle.image_slots.specs.Image.{is_for, firmware_of}
use Rattle.class_windows.specs.Sessions.{error_bits}
use Rattle.mc_group.specs.Groups.{group_at}
use Rattle.device_core.specs.Device.{DeviceState, limits_of, room_of}
use Rattle.device_core.specs.Fragments.{setup_of}
use Rattle.device_core.specs.SessionTable.{session_at}
use Rattle.campaign_server.specs.declared.plan.PlanWindow.{PlanWindow}
use Rattle.campaign_server.specs.declared.stage.Request.{Request}
use Rattle.campaign_server.specs.declared.stage.Request.TheVariants.{Version, Group, Fragments, Window, Status, Image, Reboot, Check}
use Rattle.campaign_server.specs.declared.stage.Stage.{Stage}
use Rattle.campaign_server.specs.declared.stage.Stage.TheVariants.{At, Updated}
use Rattle.campaign_server.specs.Asking.{mask_of}
use Rattle.campaign_server.specs.Plan.{Plan, own_id}
use Rattle.campaign_server.specs.Server.{ServerState}

-- the session that the server asks for
abbrev pub setup_for : Plan → (image : List ℕ) → SetupReq
setup_for plan image =
    let size = plan.frag_size in
    setup_of plan.index (mask_of plan.group) (nb_frag_of (length image) size) size 0 0 (padding_of (length image) size)
    (firmware_of image)

-- the device has room, formats and descriptor for the session
abbrev pub TakesSession : ServerState → DeviceState → Type 0
TakesSession server device =
    setup_bits (limits_of device.config) (room_of device.config) (setup_for server.plan server.image) ≡ 0

-- the window's group is there, and frequency and data rate are possible
pub record TakesWindow (plan : Plan) (device : DeviceState) : Type 0 where
  pub window : PlanWindow
  pub planned : plan.window ≡ Some window
  pub possible : error_bits (is_some (group_at device.groups (own_id plan.group))) window.freq window.dr ≡ 0

-- the session has its file whole, and misses nothing
pub record HasFile (index : ℕ) (device : DeviceState) : Type 0 where
  pub session : Session
  pub there : session_at device.sessions index ≡ Some session
  pub mark : ℕ
  pub whole : (seen_of session).verdict ≡ Complete mark
  pub nothing : (seen_of session).missing ≡ 0

-- a device for this request: its hardware is one of the image's; it has the group's id; it takes the session; it takes the
-- window; its file is whole; the image is next; nothing is asked of it; it runs the image's version
abbrev pub Suits : Request → ServerState → DeviceState → Type 0
Suits Version server device = is_for server.image device.config.hw ≡ true
Suits Group server device = own_id server.plan.group < length device.groups
Suits Fragments server device = TakesSession server device
Suits Window server device = TakesWindow server.plan device
Suits Status server device = HasFile server.plan.index device
Suits Image server device = device.slots.next ≡ Valid (firmware_of server.image)
Suits Reboot server device = Unit {0}
Suits Check server device = device.slots.version ≡ firmware_of server.image

-- the stage that follows
abbrev pub stage_after_request : Plan → Request → Stage
stage_after_request plan Version = At (if is_some plan.group then Group else Fragments)
stage_after_request plan Group = At Fragments
stage_after_request plan Fragments = At (if is_some plan.group then Window else Status)
stage_after_request plan Window = At Status
stage_after_request plan Status = At Image
stage_after_request plan Image = At Reboot
stage_after_request plan Reboot = At Check
stage_after_request plan Check = Updated
