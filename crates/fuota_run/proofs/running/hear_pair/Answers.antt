use Rattle.std.proofs.Common.{inr, Some, refl, ap}
use Rattle.report_lines.specs.Texts.{seen_text}
use Rattle.pair_run.proofs.HeardPair.{script_heard}
use Rattle.fuota_run.specs.Words.{plays_two}
use Rattle.fuota_run.specs.HeldAnswer.{answer_in}
use Rattle.fuota_run.proofs.AnswerLemmas.{sound_read, sound_unread, if_ok_map}
use Rattle.fuota_run.proofs.PairAnswers.{gives_pair, gives_pair_long, pair_told}
use Rattle.fuota_run.proofs.running.hear_pair.Goals as goal

pub returns-in-Ok : goal.returns-in-Ok
returns-in-Ok g c = λ image_a image_b name_a name_b stands first second. if_ok_map c.text_answer.result (λ r said.
    let heard = c.in-Ok.ensures.reads.found in
    let script = heard.0 in
    let behind = script_heard script image_a image_b c.args.heard.now c.hear_source.new.hearer heard.3 stands c.requires.fresh in
    let told = pair_told c.hear_source.new.hearer image_a image_b script (seen_text c.report.result) (answer_in r)
    c.report.ensures.report (λ e kept. ap seen_text (c.report.ensures.same e kept)) behind said in
    sound_read (Some (plays_two name_a name_b c.args.name.now)) (record { held = g.F.Files.held c.args.files.now; before = g.F.Files.faults c.args.files.now; after = g.F.Files.faults c.hear_source.new.files; left = g.F.Files.left c.hear_source.new.files }) (answer_in r) refl
    (gives_pair (g.F.Files.held c.args.files.now) name_a name_b c.args.name.now image_a image_b script (answer_in r) first second heard.1 heard.2 told.0)
    told.1 c.in-Ok.ensures.reads.end (c.in-Ok.ensures.reads.quiet (λ e. cc))) c.text_answer.ensures

pub returns-in-Err : goal.returns-in-Err
returns-in-Err g c = λ image_a image_b name_a name_b stands first second. if_ok_map c.unread_answer.result (λ r is.
    sound_unread (Some (plays_two name_a name_b c.args.name.now)) (record { held = g.F.Files.held c.args.files.now; before = g.F.Files.faults c.args.files.now; after = g.F.Files.faults c.hear_source.new.files; left = g.F.Files.left c.hear_source.new.files }) 1048576 c.in-Err.error (answer_in r) refl
    (λ n e. gives_pair_long (g.F.Files.held c.args.files.now) name_a name_b c.args.name.now image_a image_b first second c.requires.script (c.in-Err.ensures.reads.long n cc)) (λ n e. c.in-Err.ensures.reads.taken n cc)
    (λ n e. inr (inr (c.in-Err.ensures.reads.consumed n cc))) (λ e. c.in-Err.ensures.reads.failed cc)
    (λ other. c.in-Err.ensures.reads.quiet (λ e. other cc)) is) c.unread_answer.ensures
