-- Commands that a device may send, those that may come to it, and its uplinks.
use Rattle.std.specs.Prelude.{◌≡◌, ℕ}
use Rattle.wire_base.specs.declared.refusal.Direction.TheVariants.{Down, Up}
use Rattle.wire_base.specs.Rows.{IsListed}
use Rattle.package_grammar.specs.declared.command.Command.{Command}
use Rattle.package_grammar.specs.Grammar.{row, IsValid, canonical}
use Rattle.device_core.specs.declared.uplink.Uplink.{Uplink}

-- a valid command that the table of that port has for this direction
pub record IsSendable (port : ℕ) (command : Command) : Type 0 where
  pub valid : IsValid command
  pub listed : IsListed (row command) port Up

-- a valid command that the table of that port has for devices
pub record IsReceivable (port : ℕ) (command : Command) : Type 0 where
  pub valid : IsValid command
  pub listed : IsListed (row command) port Down

-- an uplink is the canonical spelling of one command that may be sent on its port
pub record IsUplink (uplink : Uplink) : Type 0 where
  pub command : Command
  pub sendable : IsSendable uplink.port command
  pub bytes : uplink.payload ≡ canonical command
