use Rattle.package_grammar.proofs.Appended.{five_put}
use Rattle.package_grammar.proofs.showing_parts.put_group_key.Goals as goal

pub returns : goal.returns
returns c = five_put _ _ _ _ _ _ _ _ _ _ _ _ c.in_ok-put_word.ensures c.in_ok-put_text.ensures c.in_ok-put_number_hex.ensures c.in_ok-put_text-2.ensures c.put_bytes_hex.ensures
