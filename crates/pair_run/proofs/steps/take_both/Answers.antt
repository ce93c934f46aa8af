use Rattle.report_lines.proofs.Outcomes.{on_err}
use Rattle.pair_run.proofs.Sides.{quiet_keeps}
use Rattle.pair_run.proofs.steps.take_both.Goals as goal

pub returns-clause-ends : goal.returns-clause-ends
returns-clause-ends c = on_err c.take-2.result (λ keeps. (quiet_keeps _ _ c.args.form.now c.requires.quiet c.in_ok-take.ensures.taken, keeps))
    c.take-2.ensures.ends
