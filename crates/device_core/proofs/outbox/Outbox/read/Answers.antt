use Rattle.std.proofs.Common.{ℕ, ◌+◌, ◌*◌, ◌<◌, min, get_or, arith}
use Rattle.device_core.specs.SavingInside.{uplink_at}
use Rattle.device_core.proofs.SavedUplinks.{if_none, spelled_of, fit_more, read_more}
use Rattle.device_core.proofs.outbox.Outbox.read.Goals as goal

pub returns-in_err-uplink_at-clause-none : goal.returns-in_err-uplink_at-clause-none
returns-in_err-uplink_at-clause-none c =
    let less : c.loop-k.k < min (get_or c.args.saved.now 203 0) 8 = omega arith in
    if_none c.from_residual.result (λ all. c.in_err-uplink_at.ensures.none
    (spelled_of (λ (k : ℕ). uplink_at c.args.saved.now (204 + 32 * k)) (min (get_or c.args.saved.now 203 0) 8) c.loop-k.k less all))

pub loop-k-preserved : goal.loop-k-preserved
loop-k-preserved c = record {
  uplinks = read_more c.args.saved.now c.loop-k.k c.loop-k.uplinks.items c.push.new.self.items c.in_ok-uplink_at.field-0
      c.push.ensures.items c.in_ok-uplink_at.ensures.uplink c.loop-k.invariant.uplinks;
  fit = rw c.push.ensures.items
      (fit_more c.loop-k.uplinks.items c.in_ok-uplink_at.field-0 c.loop-k.invariant.fit c.in_ok-uplink_at.ensures.spelled);
  size = omega (arith, c.push.ensures.len, c.loop-k.invariant.size);
}
