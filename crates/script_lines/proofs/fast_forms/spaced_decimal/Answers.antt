use Rattle.std.proofs.Common.{rules}
use Rattle.script_lines.proofs.HeldWords.{decimal_first}
use Rattle.script_lines.proofs.fast_forms.spaced_decimal.Goals as goal

pub returns : goal.returns
returns c = decimal_first c.args.bytes.now _ c.in_ok-found.found.end c.in_ok-found.found.number (search rules) (search rules) c.in_ok-found.ensures.decimal (search rules)
