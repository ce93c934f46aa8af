-- How long an answer of a device is.
use Rattle.std.proofs.lemmas.Nat.{ones-le}
use Rattle.std.proofs.Common.{◌≡◌, Some, None, ℕ, ◌≤◌, length, lit≤, arith}
use Rattle.wire_base.specs.declared.refusal.Direction.TheVariants.{Down, Up}
use Rattle.wire_base.specs.Rows.{PartsFit, spelling}
use Rattle.cast_wire.specs.declared.cmd.Cmd.{Cmd as CastCmd}
use Rattle.cast_wire.specs.declared.cmd.Cmd.TheVariants as c
use Rattle.cast_wire.specs.Table as cast
use Rattle.cast_wire.proofs.Writes.{length-group_bytes}
use Rattle.package_grammar.specs.declared.command.Command.{Command}
use Rattle.package_grammar.specs.declared.command.Command.TheVariants.{Sync, Cast}
use Rattle.package_grammar.specs.Grammar.{canonical}
use Rattle.package_grammar.proofs.Written.{sync_short}
use Rattle.device_core.specs.Sendable.{IsSendable}

never : Up ≡ Down → ⊥
never is = absurd cc

cast_short : (cmd : CastCmd) → PartsFit (cast.row cmd).parts → cast.IsWhole cmd → Up ≡ (cast.row cmd).direction → length (spelling (cast.row cmd)) ≤ 22
cast_short (c.DataFragment index n part) fields whole up = absurd (never up)
cast_short (c.McGroupStatusAns total mask groups) fields whole up = omega (arith, length-group_bytes groups, whole, ones-le 4 mask fields.0.1.0)
cast_short (c.McGroupSetupReq id addr key min max) fields whole up = absurd (never up)
cast_short (c.McClassCSessionAns id undefined freq_error dr_error None) fields whole up = lit≤ tt
cast_short (c.McClassCSessionAns id undefined freq_error dr_error (Some start)) fields whole up = lit≤ tt
cast_short (c.McClassBSessionAns id undefined freq_error dr_error None) fields whole up = lit≤ tt
cast_short (c.McClassBSessionAns id undefined freq_error dr_error (Some start)) fields whole up = lit≤ tt
cast_short _ fields whole up = lit≤ tt

pub short : (port : ℕ) (command : Command) → IsSendable port command → length (canonical command) ≤ 22
short port (Sync cmd) sendable = sync_short cmd
short port (Cast cmd) sendable = cast_short cmd sendable.valid.fields sendable.valid.whole sendable.listed.direction_is
