-- The answer after a script's lines.
use Rattle.std.proofs.Common.{◌≡◌, inl, inr, ℕ, List, ◌++◌, codes, Some, None, Result, Ok, Err, sym, subst}
use Rattle.std.specs.Fmt.{decimal}
use Rattle.report_lines.specs.declared.faults.LineFault.{LineFault}
use Rattle.report_lines.specs.declared.faults.LineError.{LineError}
use Rattle.report_lines.specs.declared.faults.LineError.TheVariants as error
use Rattle.campaign_world.specs.World.{WorldState, first_world}
use Rattle.campaign_world.specs.Said.{said_in}
use Rattle.campaign_world.specs.Script.{read_lines, end_result, campaign_of}
use Rattle.campaign_world.specs.HeldWorld.{HeldWorld, WorldStands, IsReport, IsSummary}
use Rattle.campaign_world.specs.HeardWorld.{WorldIsIf}
use Rattle.campaign_world.specs.Recovery.{recovery}
use Rattle.fuota_run.specs.declared.status.Status.TheVariants as status
use Rattle.fuota_run.specs.declared.forms.ScriptForm.{ScriptForm}
use Rattle.fuota_run.specs.declared.forms.ScriptForm.TheVariants.{Campaign, Recover}
use Rattle.fuota_run.specs.Answer.{Answer, answer, recovered, world_answer, summary_answer}
use Rattle.fuota_run.specs.Ending.{IsPlayed}
use Rattle.fuota_run.specs.HeldAnswer.{IsRecovery}
use Rattle.fuota_run.proofs.Playing.{report_answered, recovery_answered, summary_answered}

abbrev Outcome : Type 0
Outcome = Result WorldState LineFault

-- a report that was made is of a campaign, since after a refused line there is none
pub report_behind : (held : HeldWorld) (what : ScriptForm) (text : List ℕ) (so_far : Outcome) → what ≡ Campaign → ((w : WorldState) → WorldStands held w → held.kept ≡ None → IsReport w (Ok text))
    → ((e : LineError) → held.kept ≡ Some e → ⊥) → WorldIsIf held so_far → IsPlayed (world_answer what) (end_result so_far) (Ok (answer status.Done text))
report_behind held what text so_far form reports never (inl memory) = absurd (never error.Memory memory)
report_behind held what text (Err fault) form reports never (inr refused) = absurd (never (error.Line fault) refused)
report_behind held what text (Ok w) form reports never (inr stands) =
    subst (λ (f : ScriptForm). IsPlayed (world_answer f) (end_result (Ok w)) (Ok (answer status.Done text))) (sym form) (report_answered w (Ok text) (reports w stands.1 stands.0))

-- so is what a device recovered
pub recovery_behind : (held : HeldWorld) (what : ScriptForm) (device : ℕ) (r : Result Answer LineError) (so_far : Outcome) → what ≡ Recover device
    → ((w : WorldState) → WorldStands held w → held.kept ≡ None → end_result (Ok w) ≡ Ok w) → ((e : LineError) → held.kept ≡ Some e → ⊥)
    → ((w : WorldState) → WorldStands held w → IsRecovery (recovered device (recovery w device)) r) → WorldIsIf held so_far → IsPlayed (world_answer what) (end_result so_far) r
recovery_behind held what device r so_far form ends never recovers (inl memory) = absurd (never error.Memory memory)
recovery_behind held what device r (Err fault) form ends never recovers (inr refused) = absurd (never (error.Line fault) refused)
recovery_behind held what device r (Ok w) form ends never recovers (inr stands) =
    subst (λ (f : ScriptForm). IsPlayed (world_answer f) (end_result (Ok w)) r) (sym form) (recovery_answered device w r (ends w stands.1 stands.0) (recovers w stands.1))

-- and a summary
pub summary_behind : (held : HeldWorld) (seed : ℕ) (summary text : List ℕ) (so_far : Outcome) → ((w : WorldState) → WorldStands held w → held.kept ≡ None → IsSummary w (Ok summary))
    → ((e : LineError) → held.kept ≡ Some e → ⊥) → text ≡ codes "generate " ++ decimal seed ++ (codes "\n" ++ summary)
    → WorldIsIf held so_far → IsPlayed (summary_answer seed) (end_result so_far) (Ok (answer status.Done text))
summary_behind held seed summary text so_far sums never is (inl memory) = absurd (never error.Memory memory)
summary_behind held seed summary text (Err fault) sums never is (inr refused) = absurd (never (error.Line fault) refused)
summary_behind held seed summary text (Ok w) sums never is (inr stands) = summary_answered seed w summary text (sums w stands.1 stands.0) is

-- and it is the script's
pub script_answered : (tell : WorldState → Answer) (image script : List ℕ) (r : Result Answer LineError) → IsPlayed tell (end_result (read_lines (Ok (first_world image)) (said_in script))) r
    → IsPlayed tell (campaign_of image (said_in script)) r
unfolding campaign_of
script_answered tell image script r told = told
