use Rattle.package_grammar.proofs.Appended.{two_put}
use Rattle.package_grammar.proofs.showing_parts.put_group_setup.Goals as goal

pub returns : goal.returns
returns c = two_put _ _ _ _ _ _ c.in_ok-put_group_key.ensures c.put_frames.ensures
