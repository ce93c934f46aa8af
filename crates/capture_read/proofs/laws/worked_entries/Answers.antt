use Rattle.capture_read.proofs.WorkedEntries.{entries, refusals, limit, json, ports}
use Rattle.capture_read.proofs.laws.worked_entries.Goals as goal

pub returns-clause-entries : goal.returns-clause-entries
returns-clause-entries c = entries

pub returns-clause-refusals : goal.returns-clause-refusals
returns-clause-refusals c = refusals

pub returns-clause-limit : goal.returns-clause-limit
returns-clause-limit c = limit

pub returns-clause-json : goal.returns-clause-json
returns-clause-json c = json

pub returns-clause-ports : goal.returns-clause-ports
returns-clause-ports c = ports
