use Rattle.std.proofs.Common.{None}
use Rattle.fuota_run.proofs.NeverFailing.{ends_surely}
use Rattle.fuota_run.proofs.sure.run_surely.Goals as goal

pub returns : goal.returns
returns c = ends_surely _ _ None None _ c.run.ensures.ends
