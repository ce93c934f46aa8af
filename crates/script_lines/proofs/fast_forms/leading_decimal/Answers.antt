use Rattle.std.proofs.Common.{rules}
use Rattle.script_lines.proofs.CutWords.{front_is}
use Rattle.script_lines.proofs.fast_forms.leading_decimal.Goals as goal

pub returns-clause-decimal : goal.returns-clause-decimal
returns-clause-decimal c =
    let held = c.loop-end.invariant in
    front_is c.args.bytes.now c.loop-end.end c.loop-end.number held.0 held.1 held.2 (search rules) (λ more. search rules)
