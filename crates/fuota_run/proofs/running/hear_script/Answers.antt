use Rattle.std.proofs.Common.{inr, Some, Ok, refl}
use Rattle.campaign_world.specs.World.{first_world}
use Rattle.campaign_world.specs.Said.{said_in}
use Rattle.campaign_world.specs.Script.{read_lines, campaign_of}
use Rattle.fuota_run.specs.Answer.{world_answer}
use Rattle.fuota_run.specs.Words.{plays}
use Rattle.fuota_run.specs.HeldAnswer.{answer_in, seen_answer}
use Rattle.campaign_world.proofs.HeardWorld.{script_heard}
use Rattle.fuota_run.proofs.BehindScript.{script_answered}
use Rattle.fuota_run.proofs.AnswerLemmas.{sound_read, sound_unread, gives_script, gives_script_long, says_played, world_made, if_ok_map}
use Rattle.fuota_run.proofs.running.hear_script.Goals as goal

pub returns-in-Ok : goal.returns-in-Ok
returns-in-Ok g c = λ image image_name stands read. if_ok_map c.answer_of.result (λ r said.
    let heard = c.in-Ok.ensures.reads.found in
    let script = heard.0 in
    let behind = script_heard script image c.args.heard.now c.hear_source.new.hearer heard.3 stands c.requires.fresh in
    let told = script_answered (world_answer c.args.what) image script (seen_answer c.world_answer.result)
    (c.world_answer.ensures (read_lines (Ok (first_world image)) (said_in script)) behind) in
    let made = says_played (world_answer c.args.what) (campaign_of image (said_in script)) _ (answer_in r) (world_made c.args.what) told said in
    sound_read (Some (plays c.args.what image_name c.args.name.now)) (record { held = g.F.Files.held c.args.files.now; before = g.F.Files.faults c.args.files.now; after = g.F.Files.faults c.hear_source.new.files; left = g.F.Files.left c.hear_source.new.files }) (answer_in r) refl
    (gives_script (g.F.Files.held c.args.files.now) c.args.what image_name c.args.name.now image script (answer_in r) read heard.1 heard.2 made.0)
    made.1 c.in-Ok.ensures.reads.end (c.in-Ok.ensures.reads.quiet (λ e. cc))) c.answer_of.ensures

pub returns-in-Err : goal.returns-in-Err
returns-in-Err g c = λ image image_name stands read. if_ok_map c.unread_answer.result (λ r is.
    sound_unread (Some (plays c.args.what image_name c.args.name.now)) (record { held = g.F.Files.held c.args.files.now; before = g.F.Files.faults c.args.files.now; after = g.F.Files.faults c.hear_source.new.files; left = g.F.Files.left c.hear_source.new.files }) 1048576 c.in-Err.error (answer_in r) refl
    (λ n e. gives_script_long (g.F.Files.held c.args.files.now) c.args.what image_name c.args.name.now image read c.requires.script (c.in-Err.ensures.reads.long n cc)) (λ n e. c.in-Err.ensures.reads.taken n cc)
    (λ n e. inr (c.in-Err.ensures.reads.consumed n cc)) (λ e. c.in-Err.ensures.reads.failed cc)
    (λ other. c.in-Err.ensures.reads.quiet (λ e. other cc)) is) c.unread_answer.ensures
