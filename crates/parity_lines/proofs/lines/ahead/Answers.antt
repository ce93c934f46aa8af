use Rattle.std.proofs.Common.{◌≡◌, ℕ, ◌+◌, ◌*◌, ◌/◌, ◌%◌, ◌^◌, ◌<◌, bit_xor, arith}
use Rattle.std.proofs.lemmas.Nat.{xor_lt, shl_whole}
use Rattle.parity_lines.proofs.Ahead.{stretches}
use Rattle.parity_lines.proofs.lines.ahead.Goals as goal

pub returns-clause-each : goal.returns-clause-each
returns-clause-each c =
    let x : ℕ = c.args.x in
    let sums : ℕ = bit_xor x (x / 2 ^ 5) in
    let small : sums < 2 ^ 23 = xor_lt 23 x (x / 2 ^ 5) c.requires.state (omega (arith, c.requires.state)) in
    let whole : sums * 2 ^ 23 % 2 ^ 64 ≡ sums * 2 ^ 23 = shl_whole sums 23 23 64 small (omega arith) in
    stretches x (x + sums * 2 ^ 23 % 2 ^ 64) c.requires.state (omega (arith, whole))
