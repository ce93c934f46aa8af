-- What a capture holds while it is heard line by line, and after which lines it stands.
use Rattle.std.specs.Prelude.{◌≡◌, ℕ, List, ◌++◌, codes}
use Rattle.flash_session.specs.Flashes.{Cells}
use Rattle.device_core.specs.HeldDevice.{HeldDevice, DeviceStands}
use Rattle.report_lines.specs.After.{GoesBehind}
use Rattle.payload_replay.specs.HeldHeaded.{HeldHeaded, HeadedStands}
use Rattle.payload_replay.specs.Capture.{Caught, CatchesAll}

-- the text so far, its first line included, and the device
pub record HeldCaught : Type 0 where
  pub text : List ℕ
  pub device : HeldDevice Cells

-- it stands for what was caught
pub record CaughtStands (held : HeldCaught) (all : Caught) : Type 0 where
  pub text : held.text ≡ codes "fuota capture 1\n" ++ all.text
  pub device : DeviceStands held.device all.device

-- for anything it stood for, it stands for what a step makes of that
abbrev pub CaughtBecomes : (old new : HeldCaught) → (step : Caught → Caught) → Type 0
CaughtBecomes old new step = (all : Caught) → CaughtStands old all → CaughtStands new (step all)

-- it stands after these lines
abbrev pub CapturingStands : HeldHeaded HeldCaught → List (List ℕ) → Type 0
CapturingStands held lines = HeadedStands CatchesAll CaughtStands held lines

-- it hears a line, whatever lines it stood after
abbrev pub HearsCaptured : HeldHeaded HeldCaught → List ℕ → HeldHeaded HeldCaught → Type 0
HearsCaptured old line new = GoesBehind CapturingStands old line new
