-- A campaign is answered with its report, the recovery of a device with the image, and a seed with its summary.
use Rattle.std.proofs.Common.{◌≡◌, ℕ, ◌^◌, ◌<◌, List, All, Option, Ok, Err, refl, ap, ◌∙◌, subst}
use Rattle.std.proofs.lemmas.Bool.{le-ltb}
use Rattle.campaign_world.specs.World.{WorldState}
use Rattle.campaign_world.specs.Said.{said_in}
use Rattle.campaign_world.specs.Script.{campaign_of}
use Rattle.campaign_world.specs.Honest.{AreHonest}
use Rattle.campaign_world.specs.Report.{report_of}
use Rattle.campaign_world.specs.declared.recovery.NoFile.{NoFile}
use Rattle.campaign_world.specs.Recovery.{recovery}
use Rattle.campaign_laws.proofs.FormBytes.{script_fits}
use Rattle.campaign_laws.proofs.HeadlineLaw.{recovers}
use Rattle.campaign_laws.proofs.Seeds.{generated}
use Rattle.fuota_run.specs.declared.status.Status.TheVariants as status
use Rattle.fuota_run.specs.Outside.{Held}
use Rattle.fuota_run.specs.Words.{Invocation}
use Rattle.fuota_run.specs.declared.forms.ScriptForm.{ScriptForm}
use Rattle.fuota_run.specs.declared.forms.ScriptForm.TheVariants.{Campaign, Recover}
use Rattle.fuota_run.specs.Answer.{Answer, answer, not_complete, recovered, world_answer, summary_answer, played, script_answer, campaign_answer, generate_answer, IsAnswerTo, IsAnswer}
use Rattle.fuota_run.specs.Headline.{AreHandedIn, IsRecoveryAnswered, IsSeedAnswered}

-- the answer is the campaign's
told : (words : List (List ℕ)) (held : Held) (what : ScriptForm) (image script : List ℕ) (world : WorldState)
    → AreHandedIn words held what image script → campaign_of image (said_in script) ≡ Ok world
    → (a : Answer) → IsAnswer words held a → a ≡ world_answer what world
unfolding IsAnswer campaign_answer script_answer
told words held what image script world h is a given =
    let here : a ≡ campaign_answer what (held h.image_name) (held h.script_name) =
    subst (λ (o : Option Invocation). IsAnswerTo o held a) h.form given in
    here ∙ rw (h.image_held, le-ltb _ _ h.image_short, h.image_fine, h.script_held, le-ltb _ _ h.script_short, is) refl

pub answered : (words : List (List ℕ)) (held : Held) (image script : List ℕ) (world : WorldState)
    → AreHandedIn words held Campaign image script → campaign_of image (said_in script) ≡ Ok world
    → (a : Answer) → IsAnswer words held a → a ≡ answer status.Done (report_of world)
answered words held image script world h is a given = told words held Campaign image script world h is a given

recovered_file : (words : List (List ℕ)) (held : Held) (device : ℕ) (image script : List ℕ) (world : WorldState)
    (file : List ℕ) → AreHandedIn words held (Recover device) image script
    → campaign_of image (said_in script) ≡ Ok world → recovery world device ≡ Ok file → (a : Answer) → IsAnswer words held a
    → a ≡ answer status.Done file
recovered_file words held device image script world file h is there a given =
    told words held (Recover device) image script world h is a given ∙ ap (recovered device) there

recovered_image : (words : List (List ℕ)) (held : Held) (device : ℕ) (image script : List ℕ) (world : WorldState)
    (file : List ℕ) → All (λ b. b < 2 ^ 8) image → AreHandedIn words held (Recover device) image script
    → AreHonest 0 (said_in script) → campaign_of image (said_in script) ≡ Ok world → recovery world device ≡ Ok file → (a : Answer) → IsAnswer words held a
    → a ≡ answer status.Done image
recovered_image words held device image script world file bytes h honest is there a given =
    recovered_file words held device image script world file h is there a given
    ∙ ap (λ (x : List ℕ). answer status.Done x) (recovers image (said_in script) world device file bytes (script_fits script) honest is there)

no_file : (words : List (List ℕ)) (held : Held) (device : ℕ) (image script : List ℕ) (world : WorldState)
    (why : NoFile) → AreHandedIn words held (Recover device) image script
    → campaign_of image (said_in script) ≡ Ok world → recovery world device ≡ Err why → (a : Answer) → IsAnswer words held a
    → a ≡ not_complete device why
no_file words held device image script world why h is there a given =
    told words held (Recover device) image script world h is a given ∙ ap (recovered device) there

pub recovery_answered : IsRecoveryAnswered
recovery_answered = record { file_is = recovered_file; image_is = recovered_image; no_file = no_file }

-- a seed is answered with the summary of its campaign, of which no line is refused
pub seed_answered : IsSeedAnswered
unfolding IsAnswer generate_answer
seed_answered words held seed form =
    let its = generated seed in
    (its.0, its.1, λ a given. subst (λ (o : Option Invocation). IsAnswerTo o held a) form given ∙ ap (played (summary_answer seed)) its.1.accepted)
