-- Clock synchronization on the device (TS003-1.0.0).
use Rattle.std.specs.Prelude.{ℕ, ℤ, Bool, true, false, replicate}
use Rattle.package_grammar.specs.declared.command.Command.{Command}
use Rattle.package_grammar.specs.declared.command.Command.TheVariants.{Sync}
use Rattle.sync_wire.specs.declared.cmd.Cmd.TheVariants.{AppTimeReq, DeviceAppTimePeriodicityAns}
use Rattle.clock_sync.specs.Clock.{Clock, device_time, after_answer}
use Rattle.device_core.specs.Device.{DeviceState}
use Rattle.device_core.specs.declared.arrival.Arrival.{Arrival}
use Rattle.device_core.specs.Answers.{DeviceStep, answer_at_once, no_answer, one_answer}

-- AppTimeReq: the device's time, and the token of the answer that is taken
abbrev pub time_request : Clock → (t : ℕ) → (required : Bool) → Command
time_request clock t required = Sync (AppTimeReq (device_time clock t) required clock.token)

-- AppTimeAns: taken only with the clock's token
unfoldable pub answer_step : DeviceState → ℤ → (token : ℕ) → DeviceStep
answer_step device correction token = no_answer (record device { clock = after_answer correction token device.clock })

-- DeviceAppTimePeriodicityReq: NotSupported and the device's time (this project's profile)
unfoldable pub periodicity_step : Arrival → DeviceState → DeviceStep
periodicity_step here device =
    one_answer here device (Sync (DeviceAppTimePeriodicityAns true (device_time device.clock here.moment.t)))

-- ForceDeviceResyncReq: so many AppTimeReq at once, all alike (this project's profile)
unfoldable pub resync_step : Arrival → DeviceState → (count : ℕ) → DeviceStep
resync_step here device count =
    let request = answer_at_once here (time_request device.clock here.moment.t false) in
    record { device = device; answers = replicate count request }
