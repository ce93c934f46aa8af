use Rattle.std.proofs.Common.{rules}
use Rattle.script_lines.proofs.HeldWords.{hex_before_word}
use Rattle.script_lines.proofs.fast_forms.hex_tail.Goals as goal

pub returns-in_ok-random-in-Some : goal.returns-in_ok-random-in-Some
returns-in_ok-random-in-Some c = hex_before_word c.args.bytes.now _ c.in-Some.end _ c.in-Some.ensures.some (search rules) (search rules)
