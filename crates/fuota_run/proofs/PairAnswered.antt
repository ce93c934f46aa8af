-- Two campaigns are answered with their report, of which the laws of one campaign hold.
use Rattle.std.proofs.Common.{◌≡◌, ℕ, List, Option, Some, refl, le-ltb, ◌∙◌, subst}
use Rattle.device_core.specs.Device.{DeviceState}
use Rattle.frag_session.specs.Session.{Session}
use Rattle.script_lines.specs.declared.forms.Campaign.{Campaign}
use Rattle.script_lines.specs.Lines.{lines_of}
use Rattle.pair_run.specs.Pair.{PairState}
use Rattle.pair_run.proofs.ReadAlone.{reads_alone}
use Rattle.pair_laws.specs.EachCampaign.{IsSessionOf}
use Rattle.pair_laws.proofs.EachCampaign.{verdicts, devices}
use Rattle.isolation_laws.proofs.EachHeadline.{headlines}
use Rattle.isolation_laws.proofs.Placed.{reported}
use Rattle.isolation_laws.proofs.Alone.{isolated}
use Rattle.isolation_laws.proofs.AtMoments.{scripts}
use Rattle.fuota_run.specs.declared.status.Status.{Status}
use Rattle.fuota_run.specs.Outside.{Held}
use Rattle.fuota_run.specs.Words.{Invocation}
use Rattle.fuota_run.specs.Answer.{pair_answer, pair_script_answer, campaigns_answer, IsAnswerTo, IsAnswer}
use Rattle.fuota_run.specs.Ending.{AppendsAnswer}
use Rattle.fuota_run.specs.PairHeadline.{IsPairAnswered, IsVerdictOfTwo, AreTwoCampaigns, AreTwoApart, IsPairRun}
use Rattle.fuota_run.proofs.RunHeadline.{written}

pub answered : IsPairAnswered
unfolding IsAnswer campaigns_answer pair_script_answer
answered words held image_a image_b script pair h is a given =
    let here : a ≡ campaigns_answer (held h.name_a) (held h.name_b) (held h.script_name) =
    subst (λ (o : Option Invocation). IsAnswerTo o held a) h.form given in
    here ∙ rw (
      h.first.bytes,
      le-ltb _ _ h.first.short,
      h.first.fine,
      h.second.bytes,
      le-ltb _ _ h.second.short,
      h.second.fine,
      h.script_held,
      le-ltb _ _ h.script_short,
      is,
    ) refl

session_verdict : (x : Campaign) (image_a image_b script : List ℕ) (pair : PairState) (id : ℕ) (device : DeviceState) (index : ℕ) (s : Session)
    → IsSessionOf x image_a image_b (lines_of script) pair id device index s → IsVerdictOfTwo x image_a image_b script pair id index s
session_verdict x image_a image_b script pair id device index s is = record {
  heard = verdicts.heard x image_a image_b (lines_of script) pair id device index s is;
  decided = verdicts.decided x image_a image_b (lines_of script) pair id device index s is;
}

pub two_campaigns : AreTwoCampaigns
two_campaigns x image_a image_b script pair is = record {
  own = reads_alone x image_a image_b (lines_of script) pair is;
  devices = λ id. devices x image_a image_b (lines_of script) pair id is;
  verdicts = λ id device index s its. session_verdict x image_a image_b script pair id device index s its;
}

pub apart : AreTwoApart
apart x image_a image_b script pair s = record {
  one = λ id device there. headlines.one x image_a image_b (lines_of script) pair id device s there;
  headline = λ id stage device session has. record {
    served = headlines.served x image_a image_b (lines_of script) pair id stage device session has;
    brought = headlines.brought x image_a image_b (lines_of script) pair id stage device session has;
    recovered = headlines.recovered x image_a image_b (lines_of script) pair id stage device session has;
    told = headlines.reported x image_a image_b (lines_of script) pair id stage device session has;
  };
  placed = λ number device there. reported x image_a image_b (lines_of script) pair number device s there;
  isolated = isolated x image_a image_b (lines_of script) pair s;
  moments = scripts x image_a image_b (lines_of script) pair s;
}

pub pair_run : (words : List (List ℕ)) (held : Held) (s : Status) (old new : Option (List ℕ)) → AppendsAnswer (Some held) words s old new
    → IsPairRun words held s old new
pair_run words held s old new given image_a image_b script pair handed accepted =
    let here = written words held s old new (pair_answer pair) given
    (answered words held image_a image_b script pair handed accepted) in
    record {
      done = here.0;
      report = here.1;
      each = λ x. two_campaigns x image_a image_b script pair accepted;
      apart = λ x a b. apart x image_a image_b script pair (record { bytes_a = a; bytes_b = b; accepted = accepted });
    }
