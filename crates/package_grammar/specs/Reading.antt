-- What a payload says, as a function. The relations of Grammar alone say what it must answer, and the law `reading_is_exact`
-- holds it to them: nobody has to believe how it goes over the bytes.
use Rattle.std.specs.Prelude.{ℕ, zero, suc, Bool, not, ◌&&◌, ◌||◌, nat_le, nat_lt, if◌then◌else◌, List, [], ◌∷◌, length, Some, None, Result, Ok, Err}
use Rattle.wire_base.specs.declared.refusal.Direction.{Direction}
use Rattle.wire_base.specs.declared.refusal.Refusal.{Refusal}
use Rattle.wire_base.specs.declared.refusal.Why.TheVariants.{Port, UnknownCommand, Short, TooLong}
use Rattle.wire_base.specs.Numbers.{number_at}
use Rattle.wire_base.specs.Payload.{max_payload}
use Rattle.wire_base.specs.Found.{Found}
use Rattle.wire_base.specs.Tests.{where_spelled}
use Rattle.sync_wire.specs.declared.cmd.Cmd.{Cmd as SyncCmd}
use Rattle.sync_wire.specs.Reading as sync
use Rattle.sync_wire.specs.Tests as sync_tests
use Rattle.cast_wire.specs.declared.cmd.Cmd.{Cmd as CastCmd}
use Rattle.cast_wire.specs.Reading as cast
use Rattle.cast_wire.specs.Tests as cast_tests
use Rattle.package_grammar.specs.declared.command.Command.{Command}
use Rattle.package_grammar.specs.declared.command.Command.TheVariants.{Sync, Cast}
use Rattle.package_grammar.specs.Grammar.{row}

-- a payload's commands, or where and why reading it stops
abbrev pub Reading : Type 0
Reading = Result (List Command) Refusal

-- ---- one command

abbrev pub sync_found : Found SyncCmd → Found Command
sync_found None = None
sync_found (Some (cmd, next)) = Some (Sync cmd, next)

abbrev pub cast_found : Found CastCmd → Found Command
cast_found None = None
cast_found (Some (cmd, next)) = Some (Cast cmd, next)

-- what the identifier at a place names there
unfoldable pub named_at : ℕ → Direction → List ℕ → ℕ → Found Command
named_at port direction bytes at =
    if nat_le port 201 then cast_found (cast.reading port direction bytes at)
    else sync_found (sync.reading port direction bytes at)

abbrev pub is_whole : Command → Bool
is_whole (Sync cmd) = sync_tests.is_whole cmd
is_whole (Cast cmd) = cast_tests.is_whole cmd

-- the command at a place: what is named there, where it is spelled
unfoldable pub command_at : ℕ → Direction → List ℕ → ℕ → Found Command
command_at port direction bytes at =
    where_spelled row is_whole port direction bytes at (named_at port direction bytes at)

-- the tables have this identifier for that port and direction
unfoldable pub is_known : ℕ → Direction → (cid : ℕ) → Bool
is_known port direction cid = sync_tests.is_known port direction cid || cast_tests.is_known port direction cid

-- the refusal of a place where no command is spelled
unfoldable pub stop_at : ℕ → Direction → List ℕ → ℕ → Refusal
stop_at port direction bytes at =
    if is_known port direction (number_at bytes at 1)
    then record { at = length bytes; why = Short }
    else record { at = at; why = UnknownCommand }

-- ---- a payload

-- one command more in front
abbrev pub with_first : Command → Reading → Reading
with_first command (Ok commands) = Ok (command ∷ commands)
with_first command (Err refusal) = Err refusal

-- what is read where a command is found, and what where none is
abbrev pub goes_on : Refusal → (ℕ → Reading) → Found Command → Reading
goes_on stop behind None = Err stop
goes_on stop behind (Some (command, next)) = with_first command (behind next)

-- the commands from a place on, in at most so many steps: each takes one byte at least
unfoldable pub read_from : (steps : ℕ) → ℕ → Direction → List ℕ → ℕ → Reading
read_from zero port direction bytes at = Ok []
read_from (suc steps) port direction bytes at =
    if nat_le (length bytes) at then Ok []
    else goes_on (stop_at port direction bytes at) (λ next. read_from steps port direction bytes next)
    (command_at port direction bytes at)

abbrev pub is_port : ℕ → Bool
is_port port = nat_le 200 port && nat_le port 203

-- what a payload says
unfoldable pub reading_of : ℕ → Direction → List ℕ → Reading
reading_of port direction bytes =
    if not (is_port port) then Err (record { at = 0; why = Port })
    else if nat_lt max_payload (length bytes) then Err (record { at = max_payload; why = TooLong })
    else read_from (length bytes) port direction bytes 0

-- how many commands they are
abbrev pub counted : Reading → Result ℕ Refusal
counted (Ok commands) = Ok (length commands)
counted (Err refusal) = Err refusal
