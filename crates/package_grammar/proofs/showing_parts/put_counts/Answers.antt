use Rattle.package_grammar.proofs.Appended.{four_put}
use Rattle.package_grammar.proofs.showing_parts.put_counts.Goals as goal

pub returns : goal.returns
returns c = four_put _ _ _ _ _ _ _ _ _ _ c.in_ok-put_word.ensures c.in_ok-put_number.ensures c.in_ok-put_word-2.ensures c.put_truth.ensures
