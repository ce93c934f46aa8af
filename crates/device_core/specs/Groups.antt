-- Multicast groups of the device (TS005-1.0.0, McGroupStatusReq, McGroupSetupReq and McGroupDeleteReq).
use Rattle.std.specs.Prelude.{ℕ, true, false, ◌==◌, nat_le, if◌then◌else◌, length, slice_set, Option, Some, None, is_none}
use Rattle.package_grammar.specs.declared.command.Command.TheVariants.{Cast}
use Rattle.cast_wire.specs.declared.cmd.Cmd.TheVariants.{McGroupSetupAns, McGroupDeleteAns}
use Rattle.mc_group.specs.declared.group.Group.{Group}
use Rattle.mc_group.specs.Groups.{group_at, status_answer}
use Rattle.device_core.specs.declared.class_session.ClassSession.{ClassSession}
use Rattle.device_core.specs.Device.{DeviceState}
use Rattle.device_core.specs.declared.arrival.Arrival.{Arrival}
use Rattle.device_core.specs.Answers.{DeviceStep, one_answer}

-- McGroupStatusReq: the number of groups, and those asked for with their addresses
unfoldable pub groups_step : Arrival → DeviceState → (mask : ℕ) → DeviceStep
groups_step here device mask = one_answer here device (Cast (status_answer device.groups mask))

-- McGroupSetupReq: IDerror where the id is not configured, else the group replaces what the id had
unfoldable pub group_setup_step : Arrival → DeviceState → (id : ℕ) → Group → DeviceStep
group_setup_step here device id group =
    if nat_le (length device.groups) id
    then one_answer here device (Cast (McGroupSetupAns id true))
    else one_answer here (record device { groups = slice_set device.groups id (Some group) })
    (Cast (McGroupSetupAns id false))

-- a class session ends with its group
abbrev pub without_group : (id : ℕ) → Option ClassSession → Option ClassSession
without_group id None = None
without_group id (Some session) = if session.id == id then None else Some session

-- McGroupDeleteReq: McGroupUndefined where the id has no group
unfoldable pub group_delete_step : Arrival → DeviceState → (id : ℕ) → DeviceStep
group_delete_step here device id =
    if is_none (group_at device.groups id)
    then one_answer here device (Cast (McGroupDeleteAns id true))
    else one_answer here
    (record device { groups = slice_set device.groups id None; class_session = without_group id device.class_session })
    (Cast (McGroupDeleteAns id false))
