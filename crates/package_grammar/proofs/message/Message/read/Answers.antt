use Rattle.std.proofs.Common.{refl, ◌+◌, arith}
use Rattle.package_grammar.specs.Grammar.{IsPort, IsRead}
use Rattle.package_grammar.proofs.Cursor.{one_more, read_whole, stopped, few_left, foreign, too_long}
use Rattle.package_grammar.proofs.message.Message.read.Goals as goal

pub returns-then-not-is_port-clause-reading : goal.returns-then-not-is_port-clause-reading
returns-then-not-is_port-clause-reading c =
    let off : IsPort c.args.port → ⊥ = λ on. let is = c.is_port.ensures.1 on in let isnt = c.if-not-is_port.true in absurd cc in
    rw (c.port.ensures, foreign c.args.port c.args.direction c.args.bytes.now off) refl

pub returns-then-bytes-gt-MAX_PAYLOAD-clause-reading : goal.returns-then-bytes-gt-MAX_PAYLOAD-clause-reading
returns-then-bytes-gt-MAX_PAYLOAD-clause-reading c =
    rw (c.too_long.ensures, too_long c.args.port c.args.direction c.args.bytes.now (c.is_port.ensures.0 c.if-not-is_port.false) c.if-bytes-gt-MAX_PAYLOAD.true) refl

pub loop-at-preserved-in-Some : goal.loop-at-preserved-in-Some
loop-at-preserved-in-Some c = one_more c.args.port c.args.direction c.args.bytes.now c.loop-at.at (c.loop-at.at + 1) c.in-Some.ensures.0 c.loop-at.invariant c.in-Some.ensures.1

pub loop-at-preserved : goal.loop-at-preserved
loop-at-preserved c = one_more c.args.port c.args.direction c.args.bytes.now c.loop-at.at c.in-Ok.next c.in-Ok._command c.loop-at.invariant c.in-Ok.ensures.found

pub returns-in-Err-clause-reading : goal.returns-in-Err-clause-reading
returns-in-Err-clause-reading c =
    let read : IsRead c.args.port c.args.bytes.now = (c.is_port.ensures.0 c.if-not-is_port.false, omega arith) in
    rw (stopped c.args.port c.args.direction c.args.bytes.now c.loop-at.at c.read_one.result c.in-Err.refusal read c.loop-at-test.true c.loop-at.invariant c.read_one.ensures.only c.in-Err.is c.in-Err.ensures.stops) refl

pub invariant_of-result : goal.invariant_of-result
invariant_of-result c =
    let read : IsRead c.args.port c.args.bytes.now = (c.is_port.ensures.0 c.if-not-is_port.false, omega arith) in
    (read_whole c.args.port c.args.direction c.args.bytes.now c.loop-at.at read c.loop-at-test.false c.loop-at.invariant).1

pub returns-clause-reading : goal.returns-clause-reading
returns-clause-reading c =
    let read : IsRead c.args.port c.args.bytes.now = (c.is_port.ensures.0 c.if-not-is_port.false, omega arith) in
    rw (read_whole c.args.port c.args.direction c.args.bytes.now c.loop-at.at read c.loop-at-test.false c.loop-at.invariant).0 refl

pub returns-clause-few : goal.returns-clause-few
returns-clause-few c =
    let read : IsRead c.args.port c.args.bytes.now = (c.is_port.ensures.0 c.if-not-is_port.false, omega arith) in
    few_left c.args.port c.args.direction c.args.bytes.now 0 (read_whole c.args.port c.args.direction c.args.bytes.now c.loop-at.at read c.loop-at-test.false c.loop-at.invariant).1
