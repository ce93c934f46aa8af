use Rattle.std.proofs.Common.{None, ℕ, arith}
use Rattle.std.proofs.lemmas.List.FromFn.{fill_by_all}
use Rattle.device_core.specs.SavingInside.{place_in}
use Rattle.device_core.proofs.device.saving.take_groups.Goals as goal

pub returns-clause-groups : goal.returns-clause-groups
returns-clause-groups c =
    fill_by_all (λ (id : ℕ). place_in c.args.saved.now id) c.loop-id.groups c.args.number None c.loop-id.invariant.size
    (λ k less. c.loop-id.invariant.read k (omega (arith, less)))
