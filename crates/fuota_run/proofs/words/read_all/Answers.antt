use Rattle.std.proofs.Common.{sym, ap, ◌∙◌}
use Rattle.fuota_run.specs.Words.{seen_asked}
use Rattle.fuota_run.proofs.AnswerLemmas.{if_ok_map}
use Rattle.fuota_run.proofs.CommandLine.{asked_ok, asked_err}
use Rattle.fuota_run.proofs.words.read_all.Goals as goal

pub returns-in-Ok : goal.returns-in-Ok
returns-in-Ok c = c.found_in.ensures ∙ sym (asked_ok _ _ c.in-Ok.matches c.in_ok-command.ensures.shape c.in-Ok.ensures.kinds c.in-Ok.ensures.matches)

pub returns-in-Err : goal.returns-in-Err
returns-in-Err c = if_ok_map c.no_form.result
    (λ o is. ap seen_asked is.0 ∙ sym (asked_err _ _ c.in-Err.error c.in_ok-command.ensures.shape c.in-Err.ensures.kinds is.1)) c.no_form.ensures
