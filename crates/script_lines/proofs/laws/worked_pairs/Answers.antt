use Rattle.script_lines.proofs.WorkedPairs.{forms, none}
use Rattle.script_lines.proofs.laws.worked_pairs.Goals as goal

pub returns-clause-forms : goal.returns-clause-forms
returns-clause-forms c = forms

pub returns-clause-none : goal.returns-clause-none
returns-clause-none c = none
