use Rattle.std.proofs.Common.{◌∙◌}
use Rattle.script_lines.proofs.HexWords.{even_read}
use Rattle.script_lines.proofs.hex_bytes.is_hex.Goals as goal

pub returns-then-digits-eq0 : goal.returns-then-digits-eq0
returns-then-digits-eq0 c = c.are_hex_digits.ensures ∙ even_read c.args.digits.now c.if-digits-eq0.true
