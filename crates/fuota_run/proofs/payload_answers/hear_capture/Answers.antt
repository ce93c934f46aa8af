use Rattle.std.proofs.Common.{Some, refl}
use Rattle.report_lines.specs.Texts.{seen_text}
use Rattle.payload_replay.specs.HeldCapturing.{CapturingStands, HearsCaptured}
use Rattle.report_lines.proofs.Behind.{behind_all}
use Rattle.fuota_run.specs.declared.forms.FileForm.TheVariants.{Capture}
use Rattle.fuota_run.specs.Words.{payloads}
use Rattle.fuota_run.specs.HeldAnswer.{answer_in}
use Rattle.fuota_run.proofs.AnswerLemmas.{sound_text, sound_unread, gives_file_long, if_ok_map}
use Rattle.fuota_run.proofs.payload_answers.hear_capture.Goals as goal

pub returns-in-Ok : goal.returns-in-Ok
returns-in-Ok g c = if_ok_map c.text_answer.result (λ r said.
    let heard = c.in-Ok.ensures.reads.found in
    let stands = behind_all HearsCaptured CapturingStands c.args.heard c.hear_source.new.hearer heard.0
    (λ before line after step. step) heard.3 c.requires.fresh in
    sound_text Capture (record { held = g.F.Files.held c.args.files.now; before = g.F.Files.faults c.args.files.now; after = g.F.Files.faults c.hear_source.new.files; left = g.F.Files.left c.hear_source.new.files }) c.args.name.now heard.0 (seen_text c.text.result) (answer_in r)
    heard.1 heard.2 c.in-Ok.ensures.reads.end (c.in-Ok.ensures.reads.quiet (λ e. cc)) (c.text.ensures heard.0 stands) said) c.text_answer.ensures

pub returns-in-Err : goal.returns-in-Err
returns-in-Err g c = if_ok_map c.unread_answer.result (λ r is.
    sound_unread (Some (payloads Capture c.args.name.now)) (record { held = g.F.Files.held c.args.files.now; before = g.F.Files.faults c.args.files.now; after = g.F.Files.faults c.hear_source.new.files; left = g.F.Files.left c.hear_source.new.files }) 1048576 c.in-Err.error (answer_in r) refl
    (λ n e. gives_file_long (g.F.Files.held c.args.files.now) Capture c.args.name.now c.requires.file (c.in-Err.ensures.reads.long n cc)) (λ n e. c.in-Err.ensures.reads.taken n cc)
    (λ n e. c.in-Err.ensures.reads.consumed n cc) (λ e. c.in-Err.ensures.reads.failed cc)
    (λ other. c.in-Err.ensures.reads.quiet (λ e. other cc)) is) c.unread_answer.ensures
