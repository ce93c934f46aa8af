-- The headline, the ledger and the life of sessions of each of two campaigns.
use Rattle.std.proofs.Common.{◌≡◌, ℕ, ◌^◌, ◌<◌, List, All, codes, Some, sym, ap, ◌∙◌}
use Rattle.std.specs.Fmt.{decimal}
use Rattle.std.proofs.lemmas.List.{append_cancel_left, append_cancel_right}
use Rattle.wire_base.specs.Numbered.{numbered}
use Rattle.frag_session.specs.Session.{Session, seen_of}
use Rattle.device_core.specs.Device.{DeviceState}
use Rattle.campaign_server.specs.declared.stage.Stage.{Stage}
use Rattle.campaign_server.specs.Server.{ledger}
use Rattle.script_lines.specs.declared.forms.Campaign.{Campaign}
use Rattle.script_lines.specs.declared.forms.Campaign.TheVariants as campaign
use Rattle.report_lines.specs.Devices.{◌⧺◌, device_line, counts_line}
use Rattle.report_lines.specs.Sessions.{same, session_text, session_lines}
use Rattle.campaign_world.specs.World.{WorldState}
use Rattle.campaign_world.specs.Report.{report_of, lines_under}
use Rattle.campaign_world.specs.Honest.{AreHonest}
use Rattle.campaign_laws.specs.Fields.{AllFit}
use Rattle.campaign_laws.specs.Told.{text_before, text_behind, report_over}
use Rattle.campaign_laws.specs.Headline.{IsCampaign, IsReported, report_saying, complete_words, no_rows_words}
use Rattle.campaign_laws.proofs.Told.{report_parted}
use Rattle.campaign_laws.proofs.HeadlineLaw.{headline as of_one}
use Rattle.campaign_laws.proofs.HeadlineLives.{live}
use Rattle.campaign_laws.proofs.Ledger.{the_ledger_is_true}
use Rattle.pair_run.specs.Pair.{PairState, first_pair, side}
use Rattle.pair_run.specs.PairLines.{image_of}
use Rattle.pair_run.specs.PairReport.{pair_name}
use Rattle.pair_run.proofs.ReadAlone.{reads_alone}
use Rattle.pair_laws.specs.EachCampaign.{own_lines}
use Rattle.isolation_laws.specs.Isolation.{IsScriptOfTwo}
use Rattle.isolation_laws.specs.EachHeadline.{HasSession, part_saying, IsToldOf, EachHasItsHeadline, EachLedgerIsTrue, EachSessionLives}
use Rattle.isolation_laws.proofs.Goes.{all_go, lines_honest, lines_fit, indexes_apart}

-- its lines are honest, and fit
own : (x : Campaign) (image_a image_b : List ℕ) (lines : List (List ℕ)) (pair : PairState) → IsScriptOfTwo image_a image_b lines pair
    → AreHonest (side pair x).server.plan.index (own_lines x image_a image_b lines)
    × AllFit (side pair x).server.plan.index (own_lines x image_a image_b lines)
own x image_a image_b lines pair s =
    let all = all_go x image_a image_b lines pair s.bytes_a s.bytes_b s.accepted in (
      lines_honest x (image_of x image_a image_b) (side pair x).server.plan.index (first_pair image_a image_b) lines all,
      lines_fit x (image_of x image_a image_b) (side pair x).server.plan.index (first_pair image_a image_b) lines all,
    )

bytes : (x : Campaign) (image_a image_b : List ℕ) (lines : List (List ℕ)) (pair : PairState) → IsScriptOfTwo image_a image_b lines pair
    → All (λ b. b < 2 ^ 8) (image_of x image_a image_b)
bytes campaign.A image_a image_b lines pair s = s.bytes_a
bytes campaign.B image_a image_b lines pair s = s.bytes_b

of_campaign : (x : Campaign) (image_a image_b : List ℕ) (lines : List (List ℕ)) (pair : PairState) (id : ℕ) (stage : Stage) (device : DeviceState) (session : Session)
    → HasSession x image_a image_b lines pair id stage device session
    → IsCampaign (image_of x image_a image_b) (own_lines x image_a image_b lines) (side pair x) id stage device session
of_campaign x image_a image_b lines pair id stage device session h = record {
  bytes = bytes x image_a image_b lines pair h.script;
  honest = (own x image_a image_b lines pair h.script).0;
  accepted = reads_alone x image_a image_b lines pair h.script.accepted;
  stage_is = h.stage_is;
  device_is = h.device_is;
  session_is = h.session_is;
}

-- ---- what the report says

-- what two reports say of the sessions of one device is the same where the reports are
sessions_same : (w : WorldState) (id : ℕ) (stage : Stage) (d : DeviceState) (one other : List ℕ)
    → report_over w id stage d one ≡ report_over w id stage d other → one ≡ other
sessions_same w id stage d one other same_text =
    append_cancel_right one other (text_behind w id)
    (append_cancel_left (counts_line d.counts) _ _
    (append_cancel_left (device_line (decimal id) stage d) _ _
    (append_cancel_left (text_before w id) _ _ same_text)))

told : (w : WorldState) (x : Campaign) (id number : ℕ) (stage : Stage) (d : DeviceState) (s : Session) (words : List ℕ) → ledger w.server number ≡ Some stage
    → numbered w.devices number ≡ Some d → report_of w ≡ report_saying w number stage d (seen_of s) words
    → lines_under (pair_name id x) number w ≡ part_saying x id w.server.plan.index stage d (seen_of s) words
told w x id number stage d s words stage_is there says =
    let sessions = sessions_same w number stage d (session_lines (same w.server.image) d.sessions)
    (session_text w.server.plan.index (seen_of s).received (seen_of s).missing words)
    (sym (report_parted w number stage d stage_is there) ∙ says) in
    rw (stage_is, there) (ap (λ (l : List ℕ). device_line (pair_name id x) stage d ⧺ counts_line d.counts ⧺ l) sessions)

reported : (x : Campaign) (image : List ℕ) (pair : PairState) (number : ℕ) (stage : Stage) (d : DeviceState) (s : Session)
    → ledger (side pair x).server number ≡ Some stage → numbered (side pair x).devices number ≡ Some d
    → IsReported image (side pair x) number stage d s → IsToldOf x image pair number stage d s
reported x image pair number stage d s stage_is there r = record {
  cases = r.cases;
  complete = λ id line at. told (side pair x) x id number stage d s (complete_words line) stage_is there (r.complete line at);
  no_rows = λ id line at. told (side pair x) x id number stage d s (no_rows_words line) stage_is there (r.no_rows line at);
  receiving = λ id stays. told (side pair x) x id number stage d s (codes "receiving") stage_is there (r.receiving stays);
}

-- ---- the laws

pub headlines : EachHasItsHeadline
headlines = record {
  apart = λ image_a image_b lines pair s. indexes_apart image_a image_b lines pair s.accepted;
  honest = λ x image_a image_b lines pair s. (own x image_a image_b lines pair s).0;
  fits = λ x image_a image_b lines pair s. (own x image_a image_b lines pair s).1;
  one = λ x image_a image_b lines pair id device s there.
      of_one.one (image_of x image_a image_b) (own_lines x image_a image_b lines) (side pair x) id device (bytes x image_a image_b lines pair s)
      (own x image_a image_b lines pair s).1 (own x image_a image_b lines pair s).0 (reads_alone x image_a image_b lines pair s.accepted) there;
  served = λ x image_a image_b lines pair id stage device session h.
      of_one.served (image_of x image_a image_b) (own_lines x image_a image_b lines) (side pair x) id stage device session
      (own x image_a image_b lines pair h.script).1 (of_campaign x image_a image_b lines pair id stage device session h);
  brought = λ x image_a image_b lines pair id stage device session h.
      of_one.brought (image_of x image_a image_b) (own_lines x image_a image_b lines) (side pair x) id stage device session
      (own x image_a image_b lines pair h.script).1 (of_campaign x image_a image_b lines pair id stage device session h);
  recovered = λ x image_a image_b lines pair id stage device session h.
      of_one.recovered (image_of x image_a image_b) (own_lines x image_a image_b lines) (side pair x) id stage device session
      (own x image_a image_b lines pair h.script).1 (of_campaign x image_a image_b lines pair id stage device session h);
  reported = λ x image_a image_b lines pair id stage device session h.
      reported x (image_of x image_a image_b) pair id stage device session h.stage_is h.device_is
      (of_one.reported (image_of x image_a image_b) (own_lines x image_a image_b lines) (side pair x) id stage device session
      (own x image_a image_b lines pair h.script).1 (of_campaign x image_a image_b lines pair id stage device session h));
}

pub ledgers : EachLedgerIsTrue
ledgers x image_a image_b lines pair id s file says =
    the_ledger_is_true (image_of x image_a image_b) (own_lines x image_a image_b lines) (side pair x) id (bytes x image_a image_b lines pair s) file
    (own x image_a image_b lines pair s).1 (own x image_a image_b lines pair s).0 (reads_alone x image_a image_b lines pair s.accepted) says

pub lives : EachSessionLives
lives x image_a image_b lines pair id device n s file there takes brings =
    live (image_of x image_a image_b) (own_lines x image_a image_b lines) (side pair x) id device n (bytes x image_a image_b lines pair s) file
    (own x image_a image_b lines pair s).1 (own x image_a image_b lines pair s).0 (reads_alone x image_a image_b lines pair s.accepted) there takes brings
