use Rattle.std.proofs.Common.{◌∙◌, None, sym, arith}
use Rattle.report_lines.specs.declared.faults.LineWhy.TheVariants as why
use Rattle.report_lines.proofs.Outcomes.{on_ok, on_ok_then}
use Rattle.campaign_world.proofs.FormCauses as causes
use Rattle.campaign_world.proofs.Lines.{cause_stands, line_refused, line_taken, line_answer}
use Rattle.campaign_world.proofs.world.World.line.Goals as goal

pub returns-then-self-ge-MAX_LINES-clause-step : goal.returns-then-self-ge-MAX_LINES-clause-step
returns-then-self-ge-MAX_LINES-clause-step c = λ world stands unkept. line_refused _ _ world c.args.line.now why.Limit _ stands
    (cause_stands _ world c.args.line.now _ stands (rw (← c.self.view_is) (λ devices count. causes.many_lines _ _ (omega arith))))
    c.refused.ensures.fault c.refused.ensures.kept

pub returns-then-line-gt-MAX_LINE-clause-step : goal.returns-then-line-gt-MAX_LINE-clause-step
returns-then-line-gt-MAX_LINE-clause-step c = λ world stands unkept. line_refused _ _ world c.args.line.now why.Limit _ stands
    (cause_stands _ world c.args.line.now _ stands (rw (← c.self.view_is) (λ devices count. causes.long_line _ _ (omega arith))))
    c.refused-then-line-gt-MAX_LINE.ensures.fault c.refused-then-line-gt-MAX_LINE.ensures.kept

pub returns-in_default-read-clause-step : goal.returns-in_default-read-clause-step
returns-in_default-read-clause-step c = λ world stands unkept. line_refused _ _ world c.args.line.now why.Syntax _ stands
    (cause_stands _ world c.args.line.now _ stands (rw (← c.self.view_is) (λ devices count. causes.of_form _ _ _ _ (omega arith) (omega arith) c.form-read.ensures
    (causes.no_form _ _ c.in_default-read.is))))
    c.refused-in_default-read.ensures.fault c.refused-in_default-read.ensures.kept

pub returns-in-Some-first_cause-clause-step : goal.returns-in-Some-first_cause-clause-step
returns-in-Some-first_cause-clause-step c = λ world stands unkept. line_refused _ _ world c.args.line.now c.in-Some-first_cause.why _ stands
    (cause_stands _ world c.args.line.now _ stands (λ devices count. causes.of_form _ _ _ _ (rw (← c.self.view_is) (omega arith)) (omega arith) c.form-read.ensures
    (causes.the_form _ _ _ _ c.in-Some-read.is (causes.some_form _ _ _ (sym c.in-Some-first_cause.is ∙ c.first_cause.ensures devices count)))))
    c.refused-in-Some-first_cause.ensures.fault c.refused-in-Some-first_cause.ensures.kept

pub returns-in-None-clause-step : goal.returns-in-None-clause-step
returns-in-None-clause-step c = λ world stands unkept. line_answer world c.args.line.now c.take.new.self c.take.result
    (on_ok c.take.result (λ ok.
    let fine = cause_stands _ world c.args.line.now None stands
    (λ devices count. causes.of_form _ _ _ _ (rw (← c.self.view_is) (omega arith)) (omega arith) c.form-read.ensures
    (causes.the_form _ _ _ _ c.in-Some-read.is (causes.some_form _ _ _ (sym c.in-None.is ∙ c.first_cause.ensures devices count)))) in (
      fine,
      line_taken _ _ world c.args.line.now c.in-Some-read.form stands (sym c.form-read.ensures ∙ c.in-Some-read.is) fine (on_ok_then c.take.result ok c.take.ensures.taken),
      on_ok_then c.take.result ok c.take.ensures.kept ∙ unkept,
    )))
    c.take.ensures.memory
