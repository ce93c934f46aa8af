-- A canonical spelling is a message of its one command.
use Rattle.std.proofs.lemmas.Nat.{ones_le_self}
use Rattle.std.proofs.Common.{◌++◌, Some, None, ℕ, ◌+◌, ◌≤◌, [], ◌∷◌, length, refl, append-nil, length-append, zero-add, lit≤, arith}
use Rattle.wire_base.specs.declared.refusal.Direction.{Direction}
use Rattle.wire_base.specs.Rows.{Lies, IsListed, PartsFit, spelling}
use Rattle.wire_base.specs.Numbers.{number_bytes}
use Rattle.sync_wire.specs.declared.cmd.Cmd.{Cmd as SyncCmd}
use Rattle.sync_wire.specs.declared.cmd.Cmd.TheVariants as s
use Rattle.sync_wire.specs.Table as sync
use Rattle.sync_wire.proofs.Spellings as formed_sync
use Rattle.cast_wire.specs.declared.cmd.Cmd.{Cmd as CastCmd}
use Rattle.cast_wire.specs.declared.cmd.Cmd.TheVariants as c
use Rattle.cast_wire.specs.Table as cast
use Rattle.cast_wire.proofs.Spellings as formed_cast
use Rattle.cast_wire.proofs.Writes.{length-group_bytes}
use Rattle.package_grammar.specs.declared.command.Command.{Command}
use Rattle.package_grammar.specs.declared.command.Command.TheVariants.{Sync, Cast}
use Rattle.package_grammar.specs.Grammar.{row, IsPort, IsValid, IsMessage, canonical}
use Rattle.package_grammar.proofs.Tables.{sync_port, cast_port}

-- no command of the clock or of firmware takes more
pub sync_short : (cmd : SyncCmd) → length (spelling (sync.row cmd)) ≤ 22
sync_short (s.DevUpgradeImageAns status None) = lit≤ tt
sync_short (s.DevUpgradeImageAns status (Some next)) = lit≤ tt
sync_short _ = lit≤ tt

cast_fits : (cmd : CastCmd) → PartsFit (cast.row cmd).parts → cast.IsWhole cmd → length (spelling (cast.row cmd)) ≤ 242
cast_fits (c.DataFragment index n part) fields whole = omega (arith, length-append part [], whole.1)
cast_fits (c.McGroupStatusAns total mask groups) fields whole = omega (arith, length-group_bytes groups, whole, ones_le_self mask, fields.0.1.0)
cast_fits (c.McGroupSetupReq id addr key min max) fields whole = omega (arith, length-append key (number_bytes 4 min ++ (number_bytes 4 max ++ [])), whole)
cast_fits (c.McClassCSessionAns id undefined freq_error dr_error None) fields whole = lit≤ tt
cast_fits (c.McClassCSessionAns id undefined freq_error dr_error (Some start)) fields whole = lit≤ tt
cast_fits (c.McClassBSessionAns id undefined freq_error dr_error None) fields whole = lit≤ tt
cast_fits (c.McClassBSessionAns id undefined freq_error dr_error (Some start)) fields whole = lit≤ tt
cast_fits _ fields whole = lit≤ tt

-- a valid command is spelled in a payload
pub fits : (command : Command) → IsValid command → length (canonical command) ≤ 242
fits (Sync cmd) valid = omega (arith, sync_short cmd)
fits (Cast cmd) valid = cast_fits cmd valid.fields valid.whole

ports : (command : Command) (port : ℕ) (dir : Direction) → IsListed (row command) port dir → IsPort port
ports (Sync cmd) port dir listed = let p = sync_port cmd port dir listed in record { low = omega (arith, p.0); high = p.1 }
ports (Cast cmd) port dir listed = let p = cast_port cmd port dir listed in record { low = p.0; high = omega (arith, p.1) }

lies_alone : (command : Command) (port : ℕ) (dir : Direction) → IsValid command → IsListed (row command) port dir
    → Lies (row command) ([] ++ (canonical command ++ [])) 0 (0 + length (canonical command))
lies_alone (Sync cmd) port dir valid listed = (formed_sync.written cmd port dir [] [] (record { fields = valid.fields; whole = valid.whole }) listed).lies
lies_alone (Cast cmd) port dir valid listed = (formed_cast.written cmd port dir [] [] (record { fields = valid.fields; whole = valid.whole }) listed (λ _. refl)).lies

pub message_of : (command : Command) (port : ℕ) (dir : Direction) → IsValid command → IsListed (row command) port dir → IsMessage (command ∷ []) port dir (canonical command)
message_of command port dir valid listed =
    let lies : Lies (row command) (canonical command) 0 (length (canonical command)) = rw (append-nil (canonical command), zero-add (length (canonical command))) at (lies_alone command port dir valid listed) in
    record {
      port_is = ports command port dir listed;
      fits = fits command valid;
      all = (length (canonical command), record { listed = listed; lies = lies; whole = valid.whole }, refl);
    }
