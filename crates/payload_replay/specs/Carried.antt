-- What the commands in captured lines make of a session, one after another. (TS004-1.0.0, FragSessionSetupReq,
-- FragSessionDeleteReq and DataFragment.)
use Rattle.std.specs.Prelude.{ℕ, ◌+◌, Bool, true, not, ◌==◌, nat_lt, if◌then◌else◌, List, [], ◌∷◌, ◌++◌, map, Option, None, Result, Ok, Err}
use Rattle.wire_base.specs.declared.refusal.Direction.TheVariants.{Down}
use Rattle.frag_session.specs.declared.answers.Via.TheVariants.{Unicast}
use Rattle.frag_session.specs.Session.{Session, after_setup, after_fragment}
use Rattle.cast_wire.specs.declared.cmd.Cmd.TheVariants.{FragSessionSetupReq, FragSessionDeleteReq, DataFragment}
use Rattle.package_grammar.specs.declared.command.Command.{Command}
use Rattle.package_grammar.specs.declared.command.Command.TheVariants.{Cast}
use Rattle.package_grammar.specs.Reading.{Reading, reading_of}
use Rattle.device_core.specs.Configuration.{Configuration}
use Rattle.device_core.specs.Device.{outbox_size, limits_of, room_of}
use Rattle.device_core.specs.Fragments.{setup_of}
use Rattle.device_core.specs.Step.{weights}
use Rattle.report_lines.specs.declared.faults.LineWhy.{LineWhy}
use Rattle.payload_replay.specs.PayloadLines.{payload_of}

-- ---- the commands in the lines

-- a command, and the number of its line
pub record CarriedCommand : Type 0 where
  pub line : ℕ
  pub command : Command

abbrev pub carried : ℕ → Command → CarriedCommand
carried n command = record { line = n; command = command }

-- of a payload: all its commands, where it is read and they ask for no more answers than the outbox holds, else none
abbrev pub carried_by : ℕ → Reading → List CarriedCommand
carried_by n (Err refusal) = []
carried_by n (Ok commands) = if nat_lt outbox_size (weights commands) then [] else map (carried n) commands

-- the commands of a line's payload, which a device hears on port 201
abbrev pub carried_in : ℕ → Result (List ℕ) LineWhy → List CarriedCommand
carried_in n (Err cause) = []
carried_in n (Ok payload) = carried_by n (reading_of 201 Down payload)

-- of the lines that come after so many, in their order
unfoldable pub carried_after : ℕ → List (List ℕ) → List CarriedCommand
carried_after lines [] = []
carried_after lines (line ∷ rest) = carried_in (lines + 1) (payload_of lines line) ++ carried_after (lines + 1) rest

-- ---- what a session is after them

-- after a command at a line: a setup, a deletion or a fragment of its index changes it, and nothing else does
unfoldable pub after_command : Configuration → (index line : ℕ) → Option Session → Command → Option Session
after_command config index line s (Cast (FragSessionSetupReq i mask nb_frag frag_size algo delay padding descriptor)) =
    if i == index
    then after_setup (limits_of config) (room_of config) s (setup_of i mask nb_frag frag_size algo delay padding descriptor)
    else s
after_command config index line s (Cast (FragSessionDeleteReq i)) = if i == index then None else s
after_command config index line s (Cast (DataFragment i n part)) =
    if i == index then after_fragment s Unicast n part line else s
after_command config index line s command = s

-- after commands, one after another
unfoldable pub session_behind : Configuration → (index : ℕ) → Option Session → List CarriedCommand → Option Session
session_behind config index s [] = s
session_behind config index s (c ∷ cs) = session_behind config index (after_command config index c.line s c.command) cs

-- a command neither sets up nor deletes a session of this index
abbrev pub leaves : (index : ℕ) → Command → Bool
leaves index (Cast (FragSessionSetupReq i mask nb_frag frag_size algo delay padding descriptor)) = not (i == index)
leaves index (Cast (FragSessionDeleteReq i)) = not (i == index)
leaves index command = true
