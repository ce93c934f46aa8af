use Rattle.std.proofs.Common.{inl, ℕ, List, Some, refl, sym, subst}
use Rattle.fuota_run.specs.Words.{plays_two}
use Rattle.fuota_run.specs.Ending.{IsImageRead}
use Rattle.fuota_run.specs.HeldAnswer.{answer_in}
use Rattle.fuota_run.proofs.AnswerLemmas.{sound_image, sound_behind, image_behind, if_ok_map}
use Rattle.fuota_run.proofs.PairAnswers.{gives_first_long, gives_first_refused}
use Rattle.fuota_run.proofs.running.campaigns.Goals as goal

pub returns-in-Err : goal.returns-in-Err
returns-in-Err g c = if_ok_map c.image_answer.result (λ r is.
    let held = g.F.Files.held c.args.files.now in
    sound_image (Some (plays_two c.args.name_a.now c.args.name_b.now c.args.script_name.now)) (record { held = g.F.Files.held c.args.files.now; before = g.F.Files.faults c.args.files.now; after = g.F.Files.faults c.read_image.new.files; left = g.F.Files.left c.read_image.new.files })
    c.args.name_a.now c.in-Err.error (answer_in r) refl
    (gives_first_long held c.args.name_a.now c.args.name_b.now c.args.script_name.now c.requires.image_a)
    (gives_first_refused held c.args.name_a.now c.args.name_b.now c.args.script_name.now)
    (λ n t. inl t) c.in-Err.ensures.fault is) c.image_answer.ensures

pub returns-in-Ok : goal.returns-in-Ok
returns-in-Ok g c =
    let held = g.F.Files.held c.args.files.now in
    let now = g.F.Files.held c.read_image.new.files in
    let name = c.args.name_a.now in
    let read = image_behind held now name c.in-Ok.image_a.items c.in-Ok.ensures.held c.in-Ok.ensures.image in
    if_ok_map c.second_image.result (λ r sound.
    sound_behind (Some (plays_two name c.args.name_b.now c.args.script_name.now)) held now
    (g.F.Files.faults c.args.files.now) (g.F.Files.faults c.read_image.new.files) (g.F.Files.faults c.second_image.new.files)
    (g.F.Files.left c.second_image.new.files) (answer_in r) c.in-Ok.ensures.held c.in-Ok.ensures.quiet sound)
    (c.second_image.ensures name (subst (λ (i : List ℕ). IsImageRead now name i) (sym c.deref.ensures.value) read))
