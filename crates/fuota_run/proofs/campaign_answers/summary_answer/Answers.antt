use Rattle.std.proofs.Common.{List, ℕ, ◌++◌, codes, ap, ◌∙◌}
use Rattle.std.specs.Fmt.{decimal}
use Rattle.fuota_run.proofs.BehindScript.{summary_behind}
use Rattle.fuota_run.proofs.campaign_answers.summary_answer.Goals as goal

pub returns-in-Ok-summary_text : goal.returns-in-Ok-summary_text
returns-in-Ok-summary_text c = λ so_far is.
    summary_behind c.args.world.now c.args.seed c.in-Ok.summary.items c.in-Ok-summary_text.text.items so_far c.in-Ok.ensures.summary (λ e kept. let s = c.in-Ok.ensures.same e kept in cc)
    (c.in-Ok-summary_text.ensures ∙ ap (λ (s : List ℕ). codes "generate " ++ decimal c.args.seed ++ (codes "\n" ++ s)) c.deref.ensures.value) is
