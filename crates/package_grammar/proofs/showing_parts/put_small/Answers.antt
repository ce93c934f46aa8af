use Rattle.std.proofs.Common.{arith, string_bytes}
use Rattle.package_grammar.proofs.Digits.{digit_put}
use Rattle.package_grammar.proofs.showing_parts.put_small.Goals as goal

pub returns-then-number-lt10 : goal.returns-then-number-lt10
returns-then-number-lt10 c =
    let one = c.if-number-lt10.true in
    let is = c.from.ensures in
    digit_put c.push.result c.args.number c.from.result (string_bytes c.args.text.now) (string_bytes c.push.new.self)
    one is (c.push.ensures.ascii (omega (arith, one, is))) c.push.ensures.bytes
