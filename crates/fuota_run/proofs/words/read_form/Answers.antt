use Rattle.std.proofs.Common.{Global, string_bytes, sym, ap, ◌∙◌}
use Rattle.clap.specs.Words.{Text, found_of, rows_of}
use Rattle.fuota_run.specs.Words.{asked_by, seen_asked}
use Rattle.fuota_run.proofs.AnswerLemmas.{if_ok_map}
use Rattle.fuota_run.proofs.OneForm.{asked_alone, asked_none_alone}
use Rattle.fuota_run.proofs.words.read_form.Goals as goal

pub returns-in-Ok : goal.returns-in-Ok
returns-in-Ok c program =
    c.asked_by.ensures
    ∙ ap (λ (keyword : Text). asked_by keyword (rows_of (found_of c.in-Ok.found))) c.as_str.ensures.value
    ∙ sym (asked_alone (string_bytes {Z = Global}) _ program _ c.in-Ok.found _ c.requires.named (sym c.index-words-0.is) c.in-Ok.ensures.kinds c.in-Ok.ensures.matches)

pub returns-in-Err : goal.returns-in-Err
returns-in-Err c program = if_ok_map c.no_form.result
    (λ o is. ap seen_asked is.0 ∙ sym (asked_none_alone (string_bytes {Z = Global}) _ program _ c.in-Err.error c.requires.named c.in-Err.ensures.kinds is.1)) c.no_form.ensures
