use Rattle.package_grammar.proofs.WorkedPayloads.{reserved, messages}
use Rattle.package_grammar.proofs.laws.worked_payloads.Goals as goal

pub returns-clause-reserved : goal.returns-clause-reserved
returns-clause-reserved c = reserved

pub returns-clause-messages : goal.returns-clause-messages
returns-clause-messages c = messages
