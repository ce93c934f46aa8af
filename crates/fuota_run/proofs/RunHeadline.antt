-- What a run wrote whose words ask for a campaign, or for the recovery of a device.
use Rattle.std.proofs.Common.{◌≡◌, ℕ, List, Option, Some, None, IfSome, sym, ap, ◌∙◌, subst}
use Rattle.std.specs.Io.KnownBytes.{Appends}
use Rattle.campaign_world.specs.Said.{said_in}
use Rattle.campaign_world.specs.Honest.{AreHonest}
use Rattle.campaign_world.specs.Report.{report_of}
use Rattle.campaign_laws.specs.Fields.{AllFit}
use Rattle.campaign_laws.specs.Headline.{HasNoOther}
use Rattle.campaign_laws.proofs.FormBytes.{script_fits}
use Rattle.campaign_laws.proofs.HeadlineLaw.{headline}
use Rattle.campaign_laws.proofs.IndexedLines.{index_is}
use Rattle.campaign_laws.proofs.Ledger.{the_ledger_is_true}
use Rattle.campaign_laws.proofs.Verdicts.{verdicts}
use Rattle.fuota_run.specs.declared.status.Status.{Status}
use Rattle.fuota_run.specs.declared.status.Status.TheVariants as status
use Rattle.fuota_run.specs.Outside.{Held}
use Rattle.fuota_run.specs.Answer.{Answer, answer, IsAnswer}
use Rattle.fuota_run.specs.Ending.{AppendsAnswer, WhereNoneFails}
use Rattle.fuota_run.specs.Headline.{IsCampaignRun, IsWritten, IsRecoveryRun, IsReplayRun, IsSeedRun}
use Rattle.fuota_run.proofs.HeadlineAnswered.{answered, recovery_answered, seed_answered}
use Rattle.fuota_run.proofs.ReplayAnswered.{answered as replay_answered}
use Rattle.payload_replay.proofs.ReplayLaw.{replay_headline}

-- what holds of every Some
pub if_some_map : {T : Type 0} {P Q : T → Type 0} (o : Option T) → ((x : T) → P x → Q x) → IfSome o P → IfSome o Q
if_some_map (Some x) turns holds = turns x holds
if_some_map None turns holds = tt

-- what the answer makes true, where no call failed
pub where_none_map : {P Q : Held → Type 0} (held : Option Held) (files_before files_after out_before out_after : ℕ) (s : Status) → ((h : Held) → P h → Q h)
    → WhereNoneFails held files_before files_after out_before out_after s P → WhereNoneFails held files_before files_after out_before out_after s Q
where_none_map held files_before files_after out_before out_after s turns =
    if_some_map held (λ h exact quiet sound enough. turns h (exact quiet sound enough))

-- the answer that was appended is this one
pub written : (words : List (List ℕ)) (held : Held) (s : Status) (old new : Option (List ℕ)) (one : Answer)
    → AppendsAnswer (Some held) words s old new → ((a : Answer) → IsAnswer words held a → a ≡ one) → IsWritten one s old new
written words held s old new one given is =
    let here : given.0 ≡ one = is given.0 given.1 in
    (given.2 ∙ ap (λ (x : Answer). x.status) here, subst (λ (x : Answer). Appends old new x.text) here given.3)

pub campaign_run : (words : List (List ℕ)) (held : Held) (s : Status) (old new : Option (List ℕ)) → AppendsAnswer (Some held) words s old new → IsCampaignRun words held s old new
campaign_run words held s old new given image script world handed bytes accepted =
    let here = written words held s old new (answer status.Done (report_of world)) given
    (answered words held image script world handed accepted) in
    let index = index_is image 0 (said_in script) world (script_fits script) accepted in
    let fits = subst (λ (i : ℕ). AllFit i (said_in script)) (sym index) (script_fits script) in
    record {
      done = here.0;
      report = here.1;
      configured = λ id device there. headline.configured image (said_in script) world id device bytes accepted there;
      one = λ id device honest there.
          subst (λ (i : ℕ). HasNoOther i device.sessions) index
          (headline.one image (said_in script) world id device bytes fits (subst (λ (i : ℕ). AreHonest i (said_in script)) (sym index) honest) accepted there);
      headline = λ id stage device session is. record {
        served = headline.served image (said_in script) world id stage device session fits is;
        brought = headline.brought image (said_in script) world id stage device session fits is;
        recovered = headline.recovered image (said_in script) world id stage device session fits is;
        reported = headline.reported image (said_in script) world id stage device session fits is;
      };
      ledger = λ id honest at. the_ledger_is_true image (said_in script) world id bytes handed.image_fine fits
          (subst (λ (i : ℕ). AreHonest i (said_in script)) (sym index) honest) accepted at;
      verdicts = λ id device index s is. record {
        heard = verdicts.heard image (said_in script) world id device index s is;
        decided = verdicts.decided image (said_in script) world id device index s is;
        told = λ stage stage_is. verdicts.told image (said_in script) world id stage device index s is stage_is;
      };
    }

pub recovery_run : (words : List (List ℕ)) (held : Held) (s : Status) (old new : Option (List ℕ)) → AppendsAnswer (Some held) words s old new → IsRecoveryRun words held s old new
recovery_run words held s old new given device image script world handed accepted = record {
  file_is = λ file there. written words held s old new _ given
      (recovery_answered.file_is words held device image script world file handed accepted there);
  image_is = λ file bytes honest there. written words held s old new _ given
      (recovery_answered.image_is words held device image script world file bytes handed honest accepted there);
  no_file = λ why there. written words held s old new _ given
      (recovery_answered.no_file words held device image script world why handed accepted there);
}

pub replay_run : (words : List (List ℕ)) (held : Held) (s : Status) (old new : Option (List ℕ)) → AppendsAnswer (Some held) words s old new → IsReplayRun words held s old new
replay_run words held s old new given file device handed reaches = record {
  text = written words held s old new _ given (replay_answered words held handed.name file device handed.form handed.file_held handed.short reaches);
  verdicts = λ index session is. record {
    heard = replay_headline.heard file device index session is;
    decided = replay_headline.decided file device index session is;
    told = replay_headline.told file device index session is;
  };
}

pub seed_run : (words : List (List ℕ)) (held : Held) (s : Status) (old new : Option (List ℕ)) → AppendsAnswer (Some held) words s old new → IsSeedRun words s old new
seed_run words held s old new given seed form =
    let its = seed_answered words held seed form in
    (its.0, its.1, written words held s old new _ given its.2)
