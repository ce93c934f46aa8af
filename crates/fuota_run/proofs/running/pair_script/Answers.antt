use Rattle.fuota_run.proofs.running.pair_script.Goals as goal

pub returns : goal.returns
returns g c = λ name_a name_b first second.
    c.hear_pair-answer.ensures c.args.image_a.now c.args.image_b.now name_a name_b c.in_ok-heard.ensures.stands first second
