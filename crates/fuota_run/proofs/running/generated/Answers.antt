use Rattle.std.proofs.Common.{List, ℕ, ap, ◌∙◌, subst}
use Rattle.image_slots.specs.Image.{is_image}
use Rattle.campaign_generator.specs.Firmware.{image_of}
use Rattle.campaign_generator.specs.Script.{script_of}
use Rattle.campaign_generator.proofs.ImageFile.{image_files}
use Rattle.campaign_world.specs.Script.{campaign_of}
use Rattle.campaign_world.specs.Said.{said_in}
use Rattle.fuota_run.specs.Answer.{summary_answer, generate_answer}
use Rattle.fuota_run.specs.Ending.{IsPlayed}
use Rattle.fuota_run.specs.HeldAnswer.{answer_in, seen_answer}
use Rattle.fuota_run.proofs.AnswerLemmas.{sound_generated, says_played, summed_made, if_ok_map}
use Rattle.fuota_run.proofs.running.generated.Goals as goal

pub seed_answer-requires : goal.seed_answer-requires
seed_answer-requires c = ap is_image (c.deref.ensures.value ∙ c.in_ok-made.ensures.image) ∙ (image_files c.args.seed).file

pub returns : goal.returns
unfolding generate_answer
returns c = λ files quiet. if_ok_map c.answer_of.result (λ r said.
    let seed = c.args.seed in
    let tell = summary_answer seed in
    let here = subst (λ (i : List ℕ). IsPlayed tell (campaign_of i (said_in c.deref-2.result.now)) (seen_answer c.seed_answer.result))
    (c.deref.ensures.value ∙ c.in_ok-made.ensures.image) c.seed_answer.ensures in
    let told = subst (λ (s : List ℕ). IsPlayed tell (campaign_of (image_of seed) (said_in s)) (seen_answer c.seed_answer.result))
    (c.deref-2.ensures.value ∙ c.in_ok-made.ensures.script) here in
    sound_generated seed files (answer_in r) quiet
    (says_played tell (campaign_of (image_of seed) (said_in (script_of seed))) _ (answer_in r) (summed_made seed) told said)) c.answer_of.ensures
