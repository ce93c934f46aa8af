use Rattle.std.proofs.Common.{[], Ok}
use Rattle.script_lines.proofs.Heard.{heard_none}
use Rattle.campaign_world.specs.World.{first_world}
use Rattle.campaign_world.specs.Said.{said_in}
use Rattle.campaign_world.specs.Script.{read_lines}
use Rattle.campaign_world.specs.HeardWorld.{HearsScriptLine}
use Rattle.campaign_world.proofs.HeardWorld.{script_heard}
use Rattle.fuota_run.specs.Answer.{summary_answer}
use Rattle.fuota_run.specs.HeldAnswer.{seen_answer}
use Rattle.fuota_run.proofs.BehindScript.{script_answered}
use Rattle.fuota_run.proofs.campaign_answers.seed_answer.Goals as goal

pub returns : goal.returns
returns c =
    let image = c.args.image.now in
    let script = c.args.script.now in
    let first = c.in-Ok.heard in
    let so_far = c.hear_piece.ensures first [] (record { stands = c.new-lines.ensures; heard = heard_none HearsScriptLine first }) in
    let behind = script_heard script image first c.hear_last.new.hearer (c.hear_last.ensures first script so_far) c.in-Ok.ensures.stands c.in-Ok.ensures.fresh in
    script_answered (summary_answer c.args.seed) image script (seen_answer c.summary_answer-answer.result)
    (c.summary_answer-answer.ensures (read_lines (Ok (first_world image)) (said_in script)) behind)
