-- What each command makes of a device: one row a command (TS003, TS004, TS005 and TS006, 1.0.0).
use Rattle.std.specs.Prelude.{ℕ, ◌+◌, Bool, true, false, ◌==◌, if◌then◌else◌, List, [], ◌∷◌}
use Rattle.frag_session.specs.declared.answers.Via.{Via}
use Rattle.frag_session.specs.declared.answers.Via.TheVariants as via
use Rattle.package_grammar.specs.declared.command.Command.{Command}
use Rattle.package_grammar.specs.declared.command.Command.TheVariants.{Sync, Cast}
use Rattle.sync_wire.specs.declared.cmd.Cmd.TheVariants as s
use Rattle.cast_wire.specs.declared.cmd.Cmd.TheVariants as c
use Rattle.mc_group.specs.Groups.{group_of}
use Rattle.device_core.specs.Device.{DeviceState}
use Rattle.device_core.specs.declared.arrival.Arrival.{Arrival}
use Rattle.device_core.specs.Answers.{DeviceStep, no_answer, one_answer, after_answers}
use Rattle.device_core.specs.Clock.{answer_step, periodicity_step, resync_step}
use Rattle.device_core.specs.Fragments.{status_step, setup_of, setup_step, delete_step, fragment_step}
use Rattle.device_core.specs.Groups.{groups_step, group_setup_step, group_delete_step}
use Rattle.device_core.specs.declared.class_session.ClassSession.{ClassSession}
use Rattle.device_core.specs.declared.class_session.Kind.TheVariants.{ClassC, ClassB}
use Rattle.device_core.specs.ClassSessions.{class_session_step}
use Rattle.device_core.specs.Firmware.{version_step, upgrade_step, delete_image_step, reboot_time_step, countdown_step}

-- the identifier of the package of a port
abbrev pub identifier_of : (port : ℕ) → ℕ
identifier_of port =
    if port == 200 then 2
    else if port == 201 then 3
    else if port == 202 then 1
    else 4

-- the step of a command that acts; a command of the other direction makes nothing
unfoldable pub command_step : Arrival → DeviceState → Command → DeviceStep
-- every package: its identifier, and version 1
command_step here device (Sync s.PackageVersionReq) =
    one_answer here device (Sync (s.PackageVersionAns (identifier_of here.port) 1))
command_step here device (Cast c.PackageVersionReq) =
    one_answer here device (Cast (c.PackageVersionAns (identifier_of here.port) 1))
-- TS003
command_step here device (Sync (s.AppTimeAns correction token)) = answer_step device correction token
command_step here device (Sync (s.DeviceAppTimePeriodicityReq period)) = periodicity_step here device
command_step here device (Sync (s.ForceDeviceResyncReq count)) = resync_step here device count
-- TS004
command_step here device (Cast (c.FragSessionStatusReq index all)) = status_step here device index all
command_step here device (Cast (c.FragSessionSetupReq index mask nb_frag frag_size algo delay padding descriptor)) =
    setup_step here device (setup_of index mask nb_frag frag_size algo delay padding descriptor)
command_step here device (Cast (c.FragSessionDeleteReq index)) = delete_step here device index
command_step here device (Cast (c.DataFragment index n part)) = fragment_step here device index n part
-- TS005
command_step here device (Cast (c.McGroupStatusReq mask)) = groups_step here device mask
command_step here device (Cast (c.McGroupSetupReq id addr key min max)) =
    group_setup_step here device id (group_of device.config.key device.config.root addr key min max)
command_step here device (Cast (c.McGroupDeleteReq id)) = group_delete_step here device id
command_step here device (Cast (c.McClassCSessionReq id time timeout freq dr)) =
    let session : ClassSession = record { id = id; kind = ClassC; time = time; timeout = timeout } in
    class_session_step here device session freq dr
command_step here device (Cast (c.McClassBSessionReq id time periodicity timeout freq dr)) =
    let session : ClassSession = record { id = id; kind = ClassB periodicity; time = time; timeout = timeout } in
    class_session_step here device session freq dr
-- TS006
command_step here device (Sync s.DevVersionReq) = version_step here device
command_step here device (Sync (s.DevRebootTimeReq time)) = reboot_time_step here device time
command_step here device (Sync (s.DevRebootCountdownReq count)) = countdown_step here device count
command_step here device (Sync s.DevUpgradeImageReq) = upgrade_step here device
command_step here device (Sync (s.DevDeleteImageReq version)) = delete_image_step here device version
command_step here device command = no_answer device

-- by multicast only DataFragment and FragSessionStatusReq act (this project's profile)
abbrev pub acts : Via → Command → Bool
acts via.Unicast command = true
acts (via.Group g) (Cast (c.DataFragment index n part)) = true
acts (via.Group g) (Cast (c.FragSessionStatusReq index all)) = true
acts (via.Group g) command = false

-- the step of a command: one that does not act is skipped, without an answer
unfoldable pub step : Arrival → DeviceState → Command → DeviceStep
step here device command = if acts here.via command then command_step here device command else no_answer device

-- the device after the commands of a message, one after another
unfoldable pub after_commands : Arrival → DeviceState → List Command → DeviceState
after_commands here device [] = device
after_commands here device (c ∷ cs) = after_commands here (after_answers (step here device c)) cs

-- how many uplinks a command makes at most; one that is skipped has its weight too
abbrev pub weight : Command → ℕ
weight (Cast (c.DataFragment index n part)) = 0
weight (Sync (s.AppTimeAns correction token)) = 0
weight (Sync (s.ForceDeviceResyncReq count)) = count
weight command = 1

-- how many uplinks commands may make at most, all together
abbrev pub weights : List Command → ℕ
weights [] = 0
weights (c ∷ cs) = weight c + weights cs
