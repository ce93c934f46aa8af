use Rattle.std.proofs.Common.{sym, ◌∙◌}
use Rattle.package_grammar.proofs.OneByte.{version_named, device_version_named, upgrade_named}
use Rattle.package_grammar.proofs.names.name_at.Goals as goal

pub returns-in-0 : goal.returns-in-0
returns-in-0 c = version_named c.args.port c.args.dir c.args.bytes.now c.args.at c.in-Down.is (c.is_port.ensures.0 c.if-is_port.true) c.requires (sym c.u8_at.ensures ∙ c.in-0.is)

pub returns-in-1 : goal.returns-in-1
returns-in-1 c = device_version_named c.args.port c.args.dir c.args.bytes.now c.args.at c.in-Down.is c.if-port-eq-FIRMWARE_PORT.true c.requires (sym c.u8_at.ensures ∙ c.in-1.is)

pub returns-in-4 : goal.returns-in-4
returns-in-4 c = upgrade_named c.args.port c.args.dir c.args.bytes.now c.args.at c.in-Down.is c.if-port-eq-FIRMWARE_PORT-2.true c.requires (sym c.u8_at.ensures ∙ c.in-4.is)
