use Rattle.package_grammar.proofs.Appended.{three_put}
use Rattle.package_grammar.proofs.showing_parts.put_class_c.Goals as goal

pub returns : goal.returns
returns c = three_put _ _ _ _ _ _ _ _ c.in_ok-put_word.ensures c.in_ok-put_number.ensures c.put_session.ensures
