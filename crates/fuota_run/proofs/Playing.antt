-- The answer for a campaign whose lines were all accepted.
use Rattle.std.proofs.Common.{◌≡◌, ℕ, List, ◌++◌, codes, Result, Ok, Err, ap, ◌∙◌}
use Rattle.std.specs.Fmt.{decimal}
use Rattle.report_lines.specs.declared.faults.LineError.{LineError}
use Rattle.report_lines.specs.declared.faults.LineError.TheVariants as error
use Rattle.campaign_world.specs.World.{WorldState}
use Rattle.campaign_world.specs.Script.{end_result}
use Rattle.campaign_world.specs.HeldWorld.{IsReport, IsSummary, IsEnded}
use Rattle.campaign_world.specs.Recovery.{recovery}
use Rattle.fuota_run.specs.declared.status.Status.TheVariants as status
use Rattle.fuota_run.specs.declared.forms.ScriptForm.TheVariants.{Campaign, Recover}
use Rattle.fuota_run.specs.Answer.{Answer, answer, recovered, world_answer, summary_answer}
use Rattle.fuota_run.specs.HeldAnswer.{IsRecovery}
use Rattle.fuota_run.specs.Ending.{IsPlayed}

abbrev pub done_with : Result (List ℕ) LineError → Result Answer LineError
done_with (Ok text) = Ok (answer status.Done text)
done_with (Err e) = Err e

-- the answer is a report
pub report_answered : (w : WorldState) (r : Result (List ℕ) LineError) → IsReport w r → IsPlayed (world_answer Campaign) (end_result (Ok w)) (done_with r)
report_answered w (Ok text) report = (w, report.0, ap (λ (t : List ℕ). answer status.Done t) report.1)
report_answered w (Err (error.Line fault)) report = report
report_answered w (Err error.Memory) report = tt

-- the answer is a recovery
pub recovery_answered : (device : ℕ) (w : WorldState) (r : Result Answer LineError) → end_result (Ok w) ≡ Ok w
    → IsRecovery (recovered device (recovery w device)) r → IsPlayed (world_answer (Recover device)) (end_result (Ok w)) r
recovery_answered device w (Ok x) is made = (w, is, made)
recovery_answered device w (Err (error.Line fault)) is made = absurd made
recovery_answered device w (Err error.Memory) is made = tt

-- a script that has not ended
pub unended_answered : (tell : WorldState → Answer) (w : WorldState) (e : LineError) → IsEnded w (Err e) → IsPlayed tell (end_result (Ok w)) (Err e)
unended_answered tell w (error.Line fault) is = is
unended_answered tell w error.Memory is = tt

-- the answer is a summary
pub summary_answered : (seed : ℕ) (w : WorldState) (summary text : List ℕ) → IsSummary w (Ok summary)
    → text ≡ codes "generate " ++ decimal seed ++ (codes "\n" ++ summary) → IsPlayed (summary_answer seed) (end_result (Ok w)) (Ok (answer status.Done text))
summary_answered seed w summary text sums is =
    (w, sums.0, ap (answer status.Done) (is ∙ ap (λ (s : List ℕ). codes "generate " ++ decimal seed ++ (codes "\n" ++ s)) sums.1))

pub unsummed_answered : (tell : WorldState → Answer) (w : WorldState) (e : LineError) → IsSummary w (Err e) → IsPlayed tell (end_result (Ok w)) (Err e)
unsummed_answered tell w (error.Line fault) is = is
unsummed_answered tell w error.Memory is = tt
