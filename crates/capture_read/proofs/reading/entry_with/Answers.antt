use Rattle.std.proofs.Common.{Result, sym, ap, ◌∙◌, subst}
use Rattle.serde_json.specs.Read.{read}
use Rattle.capture_read.specs.declared.answers.Entry.{Entry}
use Rattle.capture_read.specs.declared.answers.EntryFault.{EntryFault}
use Rattle.capture_read.specs.Entries.{entry_in, Answers}
use Rattle.capture_read.specs.Members.{value_of}
use Rattle.capture_read.proofs.Json.{entry_of_text, entry_of_bytes}
use Rattle.capture_read.proofs.reading.entry_with.Goals as goal

pub returns-in_default : goal.returns-in_default
returns-in_default c = record { entry = tt; refused = entry_of_bytes c.args.line.now c.in_default.ensures.cases.0 }

pub returns-in-Ok-object : goal.returns-in-Ok-object
returns-in-Ok-object c =
    let text = c.in-Ok.ensures.cases in
    let made = c.in-Ok-object.ensures in
    let is = ap read (sym text.0) ∙ ap value_of (sym c.in-Ok-new.ensures.ok) ∙ made.1 in
    subst (λ (said : Result Entry EntryFault). Answers said c.entry_in.result) (sym (entry_of_text c.args.line.now text.1 ∙ ap entry_in is)) (c.entry_in.ensures made.0 made.2)

pub returns-in-Err : goal.returns-in-Err
returns-in-Err c =
    let text = c.in-Ok.ensures.cases in
    let is = ap read (sym text.0) ∙ ap value_of (sym c.in-Ok-new.ensures.ok) in
    record { entry = tt; refused = entry_of_text c.args.line.now text.1 ∙ ap entry_in is ∙ c.in-Err.ensures }
