use Rattle.std.proofs.Common.{rules}
use Rattle.fuota_run_c.proofs.Filled.{answer_short, answer_long, answer_absent}
use Rattle.fuota_run_c.proofs.answering.answer.Goals as goal

pub returns-then-not-is_too_long : goal.returns-then-not-is_too_long
returns-then-not-is_too_long c = search (rules, answer_short)

pub returns-then-is_too_long : goal.returns-then-is_too_long
returns-then-is_too_long c = search (rules, answer_long)

pub returns : goal.returns
returns c = search (rules, answer_absent)
