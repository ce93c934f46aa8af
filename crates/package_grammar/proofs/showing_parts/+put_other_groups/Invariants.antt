use Rattle.std.proofs.Common.{length}
use Rattle.package_grammar.proofs.showing_parts.+put_other_groups.Given as goal

abbrev pub decreases-put_other_groups : goal.decreases-put_other_groups
decreases-put_other_groups l = length l.groups.now
