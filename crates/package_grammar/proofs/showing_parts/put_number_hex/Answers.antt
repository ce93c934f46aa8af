use Rattle.package_grammar.proofs.Digits.{hex_is_text}
use Rattle.package_grammar.proofs.showing_parts.put_number_hex.Goals as goal

pub unreachable-requires-in-Err-from_utf8 : goal.unreachable-requires-in-Err-from_utf8
unreachable-requires-in-Err-from_utf8 c =
    let text = hex_is_text c.to_be_bytes.result in
    c.in-Err-from_utf8.ensures.cases.0 (rw (← c.in-Ok.ensures.written) at text)
