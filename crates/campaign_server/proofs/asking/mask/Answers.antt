use Rattle.std.proofs.Common.{subst, arith}
use Rattle.campaign_server.specs.ServerInside.{GroupFits}
use Rattle.campaign_server.proofs.Plans.{few_masks}
use Rattle.campaign_server.proofs.asking.mask.Goals as goal

pub returns-in-Some-clause-few : goal.returns-in-Some-clause-few
returns-in-Some-clause-few c = let few = few_masks _ (subst GroupFits c.in-Some.is c.requires).1 in omega (arith, few)
