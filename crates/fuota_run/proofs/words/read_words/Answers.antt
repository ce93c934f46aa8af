use Rattle.std.proofs.Common.{◌≡◌, ◌≤◌, Global, IfOk, List, arith, length, option_map, string_bytes, subst, sym, ap, ◌∙◌}
use Rattle.clap.specs.Words.{Text, app_of}
use Rattle.fuota_run.specs.Words.{asked, form_named, seen_asked}
use Rattle.fuota_run.proofs.OneForm.{all_words, named_behind}
use Rattle.fuota_run.proofs.words.read_words.Goals as goal

pub read_form-requires-clause-named : goal.read_form-requires-clause-named
read_form-requires-clause-named c = named_behind (string_bytes {Z = Global}) _ _ _ (omega (arith, c.if-words-lt2.false)) (sym c.index-words-1.is)
    (ap form_named (sym c.as_str.ensures.value) ∙ sym c.in_ok-form.ensures ∙ ap (option_map app_of) c.in-Some.is)

pub returns-in-Some : goal.returns-in-Some
returns-in-Some c =
    let all = all_words (string_bytes {Z = Global}) c.args.words.now (omega (arith, c.if-words-lt2.false)) in
    subst (λ (words : List Text). IfOk c.read_form.result (λ o. seen_asked o ≡ asked words)) all.1 (c.read_form.ensures all.0)
