use Rattle.class_windows.proofs.WorkedWindows.{windows, slots, answers}
use Rattle.class_windows.proofs.laws.worked_windows.Goals as goal

pub returns-clause-windows : goal.returns-clause-windows
returns-clause-windows c = windows

pub returns-clause-slots : goal.returns-clause-slots
returns-clause-slots c = slots

pub returns-clause-answers : goal.returns-clause-answers
returns-clause-answers c = answers
