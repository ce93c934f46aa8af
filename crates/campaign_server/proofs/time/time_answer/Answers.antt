use Rattle.std.proofs.Common.{sym, ◌∙◌}
use Rattle.campaign_server.proofs.Times.{answers_first, answers_later, answers_none}
use Rattle.campaign_server.proofs.time.time_answer.Goals as goal

pub returns-in-Some-time_answer_to : goal.returns-in-Some-time_answer_to
returns-in-Some-time_answer_to c =
    answers_first c.args.t c.loop-command.message c.next.new.self c.args.message.commands c.in-Some.command _ c.in-Some.ensures.takes c.loop-command.invariant
    (sym c.in-Some-time_answer_to.is ∙ c.time_answer_to.ensures)

pub loop-command-preserved : goal.loop-command-preserved
loop-command-preserved c =
    answers_later c.args.t c.loop-command.message c.next.new.self c.args.message.commands c.in-Some.command c.in-Some.ensures.takes c.loop-command.invariant
    (sym c.in_default-time_answer_to.is ∙ c.time_answer_to.ensures)

pub returns : goal.returns
returns c = answers_none c.args.t c.loop-command.message.commands c.args.message.commands c.in_default.ensures.takes.0 c.loop-command.invariant
