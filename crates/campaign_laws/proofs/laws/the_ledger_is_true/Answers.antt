use Rattle.campaign_laws.proofs.Ledger.{the_ledger_is_true}
use Rattle.campaign_laws.proofs.laws.the_ledger_is_true.Goals as goal

pub returns : goal.returns
returns c = the_ledger_is_true
