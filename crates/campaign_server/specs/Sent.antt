-- Commands as the server sends them.
use Rattle.std.specs.Prelude.{◌≡◌, ℕ, Option, Result, Ok, Err}
use Rattle.std.specs.Option.{option_map}
use Rattle.wire_base.specs.declared.refusal.Direction.TheVariants.{Down}
use Rattle.wire_base.specs.Rows.{IsListed}
use Rattle.package_grammar.specs.declared.command.Command.{Command}
use Rattle.package_grammar.specs.declared.downlink.Downlink.{Downlink}
use Rattle.package_grammar.specs.declared.downlink.To.TheVariants.{Unicast}
use Rattle.package_grammar.specs.Grammar.{row, IsValid}
use Rattle.campaign_server.specs.Server.{DownlinkCommand, port_of, downlink_of}

-- a valid command of the one port that the tables give it, for devices
pub record IsSent (port : ℕ) (command : Command) : Type 0 where
  pub valid : IsValid command
  pub listed : IsListed (row command) port Down
  pub own : port ≡ port_of command

-- what goes down, in bytes
abbrev pub down_of : Option DownlinkCommand → Option Downlink
down_of down = option_map downlink_of down

abbrev pub result_of : {E : Type 0} → Result DownlinkCommand E → Result Downlink E
result_of (Ok down) = Ok (downlink_of down)
result_of (Err e) = Err e

abbrev pub answer_of : {E : Type 0} → Result (Option DownlinkCommand) E → Result (Option Downlink) E
answer_of (Ok down) = Ok (down_of down)
answer_of (Err e) = Err e

-- ---- to one device

-- a command to one device, in bytes
abbrev pub unicast_of : Command → Downlink
unicast_of command = downlink_of (record { to = Unicast; command = command })
