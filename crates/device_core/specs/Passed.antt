-- The sessions that a payload's commands pass, as a stop may leave them (this project's profile).
use Rattle.std.specs.Prelude.{◌⊎◌, ℕ, ◌+◌, nat_lt, if◌then◌else◌, List, [], ◌∷◌, ◌++◌, length, None, Result, Ok, Err}
use Rattle.wire_base.specs.declared.refusal.Direction.TheVariants.{Down}
use Rattle.cast_wire.specs.declared.cmd.Cmd.TheVariants as c
use Rattle.package_grammar.specs.declared.command.Command.{Command}
use Rattle.package_grammar.specs.declared.command.Command.TheVariants.{Cast}
use Rattle.package_grammar.specs.declared.downlink.Downlink.{Downlink}
use Rattle.package_grammar.specs.Reading.{Reading, reading_of}
use Rattle.mc_frames.specs.declared.fault.FrameFault.{FrameFault}
use Rattle.session_store.specs.Size.{SizedLayout}
use Rattle.session_store.specs.HeldPlaces.{TableLies}
use Rattle.device_core.specs.declared.arrival.Arrival.{Arrival}
use Rattle.device_core.specs.Answers.{after_answers}
use Rattle.device_core.specs.ClassSessions.{hears}
use Rattle.device_core.specs.Deliver.{arrival}
use Rattle.device_core.specs.Device.{DeviceState, outbox_size}
use Rattle.device_core.specs.Firmware.{after_due_reboot}
use Rattle.device_core.specs.Radio.{brought}
use Rattle.device_core.specs.SessionTable.{SessionTable, with_session}
use Rattle.device_core.specs.Step.{acts, command_step, step, weights}

-- between: a setup and a deletion first end the session that is there
abbrev pub tables_between : SessionTable → Command → List SessionTable
tables_between table (Cast (c.FragSessionSetupReq index mask nb_frag frag_size algo delay padding descriptor)) =
    with_session table index None ∷ []
tables_between table (Cast (c.FragSessionDeleteReq index)) = with_session table index None ∷ []
tables_between table command = []

-- those before a command that acts, between, and after it
unfoldable pub command_tables : Arrival → DeviceState → Command → List SessionTable
command_tables here device command =
    device.sessions ∷ tables_between device.sessions command ++ (command_step here device command).device.sessions ∷ []

-- the tables of sessions that a command passes through: one where it does not act
unfoldable pub step_tables : Arrival → DeviceState → Command → List SessionTable
step_tables here device command =
    if acts here.via command then command_tables here device command else device.sessions ∷ []

-- those of commands, one after another
unfoldable pub tables_of : Arrival → DeviceState → List Command → List SessionTable
tables_of here device [] = []
tables_of here device (command ∷ others) =
    step_tables here device command ++ tables_of here (after_answers (step here device command)) others

-- those of a message, where the outbox has room for its weights
unfoldable pub message_tables : Arrival → DeviceState → List Command → List SessionTable
message_tables here device cs =
    if nat_lt outbox_size (length device.outbox + weights cs) then [] else tables_of here device cs

-- those of what is read of a payload
unfoldable pub read_tables : Arrival → DeviceState → Reading → List SessionTable
read_tables here device (Ok cs) = message_tables here device cs
read_tables here device (Err refusal) = []

-- those of a payload that is heard
unfoldable pub heard_tables : (t word mark : ℕ) → Downlink → DeviceState → List SessionTable
heard_tables t word mark down device =
    if hears device t down.to
    then read_tables (arrival t word mark down device) device (reading_of down.port Down down.payload)
    else []

-- those of a payload, a reboot that is due before it
abbrev pub tables_passed : (t word mark : ℕ) → Downlink → DeviceState → List SessionTable
tables_passed t word mark down device = heard_tables t word mark down (after_due_reboot t device)

-- those of the payload that bytes brought, if they did
abbrev pub frame_tables : (t word mark : ℕ) → Result Downlink FrameFault → DeviceState → List SessionTable
frame_tables t word mark (Ok down) device = tables_passed t word mark down device
frame_tables t word mark (Err fault) device = []

-- those of bytes that the radio heard
abbrev pub tables_aired : (t word mark : ℕ) → List ℕ → DeviceState → List SessionTable
tables_aired t word mark bytes device = frame_tables t word mark (brought device bytes) device

-- one of these is there, so that opening gives it
abbrev pub LiesOneOf : SizedLayout → List SessionTable → List ℕ → Type 0
LiesOneOf layout [] c = ⊥
LiesOneOf layout (table ∷ others) c = TableLies layout table c ⊎ LiesOneOf layout others c
