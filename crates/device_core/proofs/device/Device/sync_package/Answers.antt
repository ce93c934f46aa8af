use Rattle.std.proofs.Common.{refl}
use Rattle.package_grammar.specs.declared.command.Command.TheVariants.{Sync}
use Rattle.sync_wire.specs.declared.cmd.Cmd.TheVariants.{PackageVersionAns}
use Rattle.device_core.specs.Answers.{answer_at_once}
use Rattle.device_core.proofs.Sending.{step_of}
use Rattle.device_core.proofs.device.Device.sync_package.Goals as goal

pub returns : goal.returns
returns g c =
    step_of c.args.self.now c.args.self.now c.send.new.self (answer_at_once c.args.here (Sync (PackageVersionAns c.identifier_of.result 1))) _ c.send.ensures refl refl
    (λ table. rw (c.identifier_of.ensures) refl)
