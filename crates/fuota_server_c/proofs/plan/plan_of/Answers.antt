use Rattle.std.proofs.Common.{rules}
use Rattle.fuota_server_c.proofs.Copied.{first_of}
use Rattle.fuota_server_c.proofs.plan.plan_of.Goals as goal

pub returns : goal.returns
returns c = search (rules, first_of)
