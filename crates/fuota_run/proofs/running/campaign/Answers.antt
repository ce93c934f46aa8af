use Rattle.std.proofs.Common.{inl, ℕ, List, Some, refl, sym, subst}
use Rattle.fuota_run.specs.Words.{plays}
use Rattle.fuota_run.specs.Ending.{IsImageRead}
use Rattle.fuota_run.specs.HeldAnswer.{answer_in}
use Rattle.fuota_run.proofs.AnswerLemmas.{sound_image, sound_behind, image_behind, gives_image_long, gives_image_refused, if_ok_map}
use Rattle.fuota_run.proofs.running.campaign.Goals as goal

pub returns-in-Err : goal.returns-in-Err
returns-in-Err g c = if_ok_map c.image_answer.result (λ r is.
    let held = g.F.Files.held c.args.files.now in
    sound_image (Some (plays c.args.what c.args.image_name.now c.args.script_name.now)) (record { held = g.F.Files.held c.args.files.now; before = g.F.Files.faults c.args.files.now; after = g.F.Files.faults c.read_image.new.files; left = g.F.Files.left c.read_image.new.files })
    c.args.image_name.now c.in-Err.error (answer_in r) refl
    (gives_image_long held c.args.what c.args.image_name.now c.args.script_name.now c.requires.image)
    (gives_image_refused held c.args.what c.args.image_name.now c.args.script_name.now)
    (λ n t. inl t) c.in-Err.ensures.fault is) c.image_answer.ensures

pub returns-in-Ok : goal.returns-in-Ok
returns-in-Ok g c =
    let held = g.F.Files.held c.args.files.now in
    let now = g.F.Files.held c.read_image.new.files in
    let name = c.args.image_name.now in
    let read = image_behind held now name c.in-Ok.image.items c.in-Ok.ensures.held c.in-Ok.ensures.image in
    if_ok_map c.script.result (λ r sound.
    sound_behind (Some (plays c.args.what name c.args.script_name.now)) held now
    (g.F.Files.faults c.args.files.now) (g.F.Files.faults c.read_image.new.files) (g.F.Files.faults c.script.new.files)
    (g.F.Files.left c.script.new.files) (answer_in r) c.in-Ok.ensures.held c.in-Ok.ensures.quiet sound)
    (c.script.ensures name (subst (λ (i : List ℕ). IsImageRead now name i) (sym c.deref.ensures.value) read))
