-- The file that a device recovered, or why it has none (this project's profile).
use Rattle.std.specs.Prelude.{ℕ, List, Option, Some, None, Result, Ok, Err}
use Rattle.frag_session.specs.declared.answers.Verdict.{Verdict}
use Rattle.frag_session.specs.declared.answers.Verdict.TheVariants as verdict
use Rattle.frag_session.specs.Session.{Seen, view_of}
use Rattle.device_core.specs.Device.{DeviceState}
use Rattle.wire_base.specs.Numbered.{numbered}
use Rattle.campaign_world.specs.declared.recovery.NoFile.{NoFile}
use Rattle.campaign_world.specs.declared.recovery.NoFile.TheVariants as no_file
use Rattle.campaign_world.specs.World.{WorldState}

-- the file of a session that is decided as complete, or where the session stands
abbrev pub file_by : Verdict → (file : List ℕ) → Result (List ℕ) NoFile
file_by verdict.Receiving file = Err no_file.Receiving
file_by (verdict.Complete mark) file = Ok file
file_by (verdict.NoRows mark) file = Err no_file.NoRows
file_by (verdict.Conflict mark) file = Err no_file.Conflict

-- of what a session shows
abbrev pub file_of : Option Seen → Result (List ℕ) NoFile
file_of None = Err no_file.None
file_of (Some seen) = file_by seen.verdict seen.file

-- the session of a device is that of the server's index, which is the first
abbrev pub recovery_by : Option DeviceState → Result (List ℕ) NoFile
recovery_by None = Err no_file.None
recovery_by (Some device) = file_of (view_of device.sessions.first)

-- what `recover` answers of a device, by its ID
unfoldable pub recovery : WorldState → (id : ℕ) → Result (List ℕ) NoFile
recovery world id = recovery_by (numbered world.devices id)
