use Rattle.std.proofs.Common.{take, subst}
use Rattle.script_lines.specs.declared.pieces.Cut.{Cut}
use Rattle.script_lines.specs.HeldLines.{GoesOn}
use Rattle.script_lines.proofs.Heard.{heard_line, heard_whole}
use Rattle.script_lines.proofs.hearing.hear_next.Goals as goal

pub returns-in-Some-clause-heard : goal.returns-in-Some-clause-heard
returns-in-Some-clause-heard g c = λ first stream so_far.
    heard_whole g.W.HearsLine.hears first c.args.hearer.now c.line.new.self c.args.lines.now stream c.args.piece.now c.in-Some.end so_far c.in-Some.ensures c.line.ensures

pub returns-in_default-Line-clause-heard : goal.returns-in_default-Line-clause-heard
returns-in_default-Line-clause-heard g c = λ first stream so_far.
    let on = subst (λ (cut : Cut). GoesOn c.args.lines.now c.take.new.self (take c.take.result.0 c.args.piece.now) cut stream) c.in_default-Line.is-1 (c.take.ensures.lines stream so_far.stands) in
    heard_line g.W.HearsLine.hears first c.args.hearer.now c.line-in_default-Line-2.new.self c.args.lines.now c.take.new.self stream (take c.take.result.0 c.args.piece.now) c.line-in_default-Line.result.now
    so_far on c.line-in_default-Line.ensures c.line-in_default-Line-2.ensures
