use Rattle.script_lines.proofs.WorkedLines.{forms, none, lines, numbers}
use Rattle.script_lines.proofs.laws.worked_lines.Goals as goal

pub returns-clause-forms : goal.returns-clause-forms
returns-clause-forms c = forms

pub returns-clause-none : goal.returns-clause-none
returns-clause-none c = none

pub returns-clause-lines : goal.returns-clause-lines
returns-clause-lines c = lines

pub returns-clause-numbers : goal.returns-clause-numbers
returns-clause-numbers c = numbers
