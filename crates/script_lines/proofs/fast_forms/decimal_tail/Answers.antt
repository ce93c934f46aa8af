use Rattle.std.proofs.Common.{rules}
use Rattle.script_lines.proofs.HeldWords.{decimal_alone, decimal_before_word}
use Rattle.script_lines.proofs.fast_forms.decimal_tail.Goals as goal

pub returns-then-found-bytes : goal.returns-then-found-bytes
returns-then-found-bytes c = decimal_alone c.args.bytes.now c.in_ok-found.found.end c.in_ok-found.found.number (search rules) c.in_ok-found.ensures.decimal

pub returns : goal.returns
returns c =
    decimal_before_word c.args.bytes.now c.in_ok-found.found.end c.in_ok-found.found.number _ (search rules) (search rules) c.in_ok-found.ensures.decimal (search rules)
