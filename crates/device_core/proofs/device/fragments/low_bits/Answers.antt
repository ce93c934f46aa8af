use Rattle.std.proofs.Common.{◌+◌, ◌<◌, ◌≤◌, ◌^◌, sym, arith}
use Rattle.std.proofs.Math.Nat.{mod-eq_of_lt}
use Rattle.std.proofs.Math.Pow.{pow_mono}
use Rattle.device_core.proofs.device.fragments.low_bits.Goals as goal

pub returns-else-delay-lt28 : goal.returns-else-delay-lt28
returns-else-delay-lt28 c =
    let wide : 32 ≤ c.args.delay + 4 = omega arith in
    let power : 2 ^ 32 ≤ 2 ^ (c.args.delay + 4) = pow_mono wide in
    let below : c.args.word < 2 ^ (c.args.delay + 4) = omega (arith, power) in
    sym (mod-eq_of_lt below)
