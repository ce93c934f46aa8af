-- Firmware management on the device (TS006-1.0.0). Moments are in seconds of its clock.
use Rattle.std.specs.Prelude.{ℕ, ◌+◌, ◌-◌, ◌%◌, ◌^◌, Bool, false, ◌==◌, nat_lt, if◌then◌else◌, Option, Some, None}
use Rattle.package_grammar.specs.declared.command.Command.TheVariants.{Sync}
use Rattle.sync_wire.specs.declared.cmd.Cmd.{Cmd}
use Rattle.sync_wire.specs.declared.cmd.Cmd.TheVariants.{DevVersionAns, DevRebootTimeAns, DevRebootCountdownAns, DevUpgradeImageAns, DevDeleteImageAns}
use Rattle.image_slots.specs.declared.view.ImageState.{ImageState}
use Rattle.image_slots.specs.declared.view.ImageState.TheVariants as image
use Rattle.clock_sync.specs.Clock.{device_time}
use Rattle.image_slots.specs.Slots.{after_swap, delete_bits, after_delete, after_raise}
use Rattle.device_core.specs.Device.{DeviceState}
use Rattle.device_core.specs.declared.arrival.Arrival.{Arrival}
use Rattle.device_core.specs.Answers.{DeviceStep, one_answer}

-- ---- images

-- DevVersionReq: what runs, and on which hardware
unfoldable pub version_step : Arrival → DeviceState → DeviceStep
version_step here device = one_answer here device (Sync (DevVersionAns device.slots.version device.config.hw))

-- DevUpgradeImageReq: 0 none, 1 corrupt, 2 incompatible, 3 valid with its version
abbrev pub upgrade_answer : ImageState → Cmd
upgrade_answer image.None = DevUpgradeImageAns 0 None
upgrade_answer image.Corrupt = DevUpgradeImageAns 1 None
upgrade_answer image.Incompatible = DevUpgradeImageAns 2 None
upgrade_answer (image.Valid version) = DevUpgradeImageAns 3 (Some version)

-- DevUpgradeImageReq is answered by what is next
unfoldable pub upgrade_step : Arrival → DeviceState → DeviceStep
upgrade_step here device = one_answer here device (Sync (upgrade_answer device.slots.next))

-- DevDeleteImageReq (the bits are this project's profile)
unfoldable pub delete_image_step : Arrival → DeviceState → (version : ℕ) → DeviceStep
delete_image_step here device version =
    one_answer here (record device { slots = after_delete version device.slots })
    (Sync (DevDeleteImageAns (delete_bits device.slots.next version)))

-- ---- reboots

-- 0 sets the device's time, all ones cancels, any other number sets a moment of its own
abbrev pub chosen_moment : (number ones now moment : ℕ) → Option ℕ
chosen_moment number ones now moment = if number == 0 then Some now else if number == ones then None else Some moment

-- DevRebootTimeReq: at a time; answered with the same, and a later command replaces the moment
unfoldable pub reboot_time_step : Arrival → DeviceState → (time : ℕ) → DeviceStep
reboot_time_step here device time =
    let now = device_time device.clock here.moment.t in
    one_answer here (record device { reboot = chosen_moment time (2 ^ 32 - 1) now time }) (Sync (DevRebootTimeAns time))

-- DevRebootCountdownReq: so many seconds from now
unfoldable pub countdown_step : Arrival → DeviceState → (count : ℕ) → DeviceStep
countdown_step here device count =
    let now = device_time device.clock here.moment.t in
    one_answer here (record device { reboot = chosen_moment count (2 ^ 24 - 1) now ((now + count) % 2 ^ 32) })
    (Sync (DevRebootCountdownAns count))

-- a moment is reached: the device's time is it, or less than 2^31 s past it
abbrev pub is_reached : (now moment : ℕ) → Bool
is_reached now moment = nat_lt ((now + (2 ^ 32 - moment)) % 2 ^ 32) (2 ^ 31)

-- a reboot is set, and its moment has come
abbrev pub is_due : (now : ℕ) → Option ℕ → Bool
is_due now None = false
is_due now (Some moment) = is_reached now moment

-- a reboot that is due clears its moment, and runs a valid next (this project's profile)
unfoldable pub after_due_reboot : (t : ℕ) → DeviceState → DeviceState
after_due_reboot t device =
    if is_due (device_time device.clock t) device.reboot
    then record device { reboot = None; slots = after_swap device.slots }
    else device

-- both image formats are known from now on, and next is what its bytes are then (this project's profile)
unfoldable pub after_migration : DeviceState → DeviceState
after_migration device = record device { slots = after_raise device.config.hw device.slots }
