use Rattle.fuota_run.proofs.running.script.Goals as goal

pub returns : goal.returns
returns g c = λ image_name read. c.hear_script-answer.ensures c.args.image.now image_name c.in_ok-heard.ensures.stands read
