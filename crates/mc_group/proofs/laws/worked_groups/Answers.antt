use Rattle.mc_group.proofs.WorkedGroups.{groups, setup}
use Rattle.mc_group.proofs.laws.worked_groups.Goals as goal

pub returns-clause-groups : goal.returns-clause-groups
returns-clause-groups c = groups

pub returns-clause-setup : goal.returns-clause-setup
returns-clause-setup c = setup
