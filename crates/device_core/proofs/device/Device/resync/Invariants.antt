use Rattle.std.proofs.Common.{◌≡◌, replicate}
use Rattle.package_grammar.specs.declared.command.Command.TheVariants.{Sync}
use Rattle.device_core.specs.Answers.{answer_at_once}
use Rattle.device_core.specs.HeldDevice.{held_with_answers}
use Rattle.device_core.proofs.device.Device.resync.Given as goal

abbrev pub invariant-requests : goal.invariant-requests
invariant-requests g l = l.self ≡ held_with_answers l.fn.self (replicate l.counter (answer_at_once l.here (Sync l.request)))
