use Rattle.script_lines.proofs.Heard.{heard_last}
use Rattle.script_lines.proofs.hearing.hear_last.Goals as goal

pub returns-then-finish : goal.returns-then-finish
returns-then-finish g c = λ first stream so_far.
    heard_last g.W.HearsLine.hears first c.args.hearer.now c.line-then-finish.new.self c.args.lines.now c.finish.new.self stream c.line.result.now
    so_far (c.if-finish.ensures.lines stream so_far.stands) c.line.ensures c.line-then-finish.ensures
