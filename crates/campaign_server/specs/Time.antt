-- Clock synchronization at the server (TS003-1.0.0).
use Rattle.std.specs.Prelude.{ℕ, ◌/◌, if◌then◌else◌, List, [], ◌∷◌, Option, Some, None}
use Rattle.clock_sync.specs.Clock.{correction_of, is_answer_needed}
use Rattle.sync_wire.specs.declared.cmd.Cmd.TheVariants.{AppTimeReq, AppTimeAns}
use Rattle.package_grammar.specs.declared.command.Command.{Command}
use Rattle.package_grammar.specs.declared.command.Command.TheVariants.{Sync}

-- the answer to a command that asks for the time and needs one, at t ms of true time
abbrev pub time_answer_to : (t : ℕ) → Command → Option Command
time_answer_to t (Sync (AppTimeReq time required token)) =
    let correction = correction_of (t / 1000) time in
    if is_answer_needed required correction then Some (Sync (AppTimeAns correction token)) else None
time_answer_to t command = None

-- of two answers the first that is there
abbrev pub first_answer : Option Command → Option Command → Option Command
first_answer None later = later
first_answer (Some answer) later = Some answer

-- the answer to the first command of an uplink that needs one
unfoldable pub time_answer : (t : ℕ) → List Command → Option Command
time_answer t [] = None
time_answer t (c ∷ cs) = first_answer (time_answer_to t c) (time_answer t cs)
