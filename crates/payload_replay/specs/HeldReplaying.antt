-- What a replay holds, and after which lines it stands.
use Rattle.std.specs.Prelude.{ℕ, List}
use Rattle.flash_session.specs.Flashes.{Cells}
use Rattle.device_core.specs.HeldDevice.{HeldDevice, DeviceStands}
use Rattle.report_lines.specs.After.{GoesBehind}
use Rattle.payload_replay.specs.HeldHeaded.{HeldHeaded, HeadedStands}
use Rattle.payload_replay.specs.Replay.{Reaches}

-- it stands after these lines
abbrev pub ReplayingStands : HeldHeaded (HeldDevice Cells) → List (List ℕ) → Type 0
ReplayingStands held lines = HeadedStands Reaches DeviceStands held lines

-- it hears a line, whatever lines it stood after
abbrev pub HearsReplayed : HeldHeaded (HeldDevice Cells) → List ℕ → HeldHeaded (HeldDevice Cells) → Type 0
HearsReplayed old line new = GoesBehind ReplayingStands old line new
