-- What `replay` says of each session, whoever made the payloads.
use Rattle.std.proofs.Common.{◌≡◌, ℕ, ◌<◌, min, List, [], ◌∷◌, ◌++◌, length, Option, None, Some, IfSome, Result, Ok, sym, ap, ◌∙◌, subst, append_assoc, append-nil, codes, arith}
use Rattle.std.specs.Fmt.{decimal}
use Rattle.frag_model.specs.Fragments.{Fragment}
use Rattle.frag_session.specs.declared.answers.Verdict.{Verdict}
use Rattle.frag_session.specs.declared.answers.Verdict.TheVariants as verdict
use Rattle.frag_model.specs.Members.{In}
use Rattle.frag_session.specs.declared.answers.Via.TheVariants.{Unicast}
use Rattle.frag_session.specs.Session.{Session, Seen, cause_of, shape_of, seen_of, view_of}
use Rattle.frag_session.specs.HeldHistory.{IsSetUp}
use Rattle.script_lines.specs.Lines.{lines_of}
use Rattle.device_core.specs.Configuration.{Configuration}
use Rattle.device_core.specs.SessionTable.{session_at}
use Rattle.device_core.specs.Device.{DeviceState}
use Rattle.report_lines.specs.declared.faults.LineWhy.{LineWhy}
use Rattle.report_lines.specs.Devices.{counts_line}
use Rattle.report_lines.specs.Sessions.{whole, verdict_text, session_text, session_line, saying, file_line, lines_below, lines_above}
use Rattle.report_lines.proofs.Places.{line_by_index}
use Rattle.payload_replay.specs.Headed.{TakesFile}
use Rattle.payload_replay.specs.Replay.{header_rows, replay_device, ReachesBehind, Reaches, replay_text}
use Rattle.payload_replay.specs.Carried.{CarriedCommand, carried_after, session_behind}
use Rattle.frag_session.specs.FirstMoment.{MakesFile, IsDecidedAtFirst}
use Rattle.device_core.specs.Events.{CameInTurn}
use Rattle.payload_replay.specs.ReplayHeadline.{IsReplayed, Carries, IsFileOf, IsSince, text_saying, IsToldOf, ReplayHeadline}
use Rattle.frag_session.proofs.FirstMoments.{decided_at_first}
use Rattle.campaign_server.proofs.LineItems.{within}
use Rattle.device_core.proofs.HeardSessions.{IsFine, of_one}
use Rattle.payload_replay.proofs.ReplaySessions.{reaches_fine}
use Rattle.payload_replay.proofs.ReplayExact.{replay_holds}
use Rattle.payload_replay.proofs.ReplayAll.{all_heard}

session_fine : (file : List ℕ) (device : DeviceState) (index : ℕ) (s : Session) → IsReplayed file device index s
    → (last : ℕ) × IsFine (Carries (lines_of file)) last index s
session_fine file device index s r =
    let fine = reaches_fine (lines_of file) device r.accepted in
    let here : min index 3 ≡ index = omega (arith, r.index_is) in
    let its : IfSome (session_at device.sessions index) (IsFine (Carries (lines_of file)) fine.0 (min index 3)) =
    of_one (λ i o. IfSome o (IsFine (Carries (lines_of file)) fine.0 i)) device.sessions index fine.1 in (
      fine.0,
      subst (λ i. IsFine (Carries (lines_of file)) fine.0 i s) here
          (subst (λ (o : Option Session). IfSome o (IsFine (Carries (lines_of file)) fine.0 (min index 3))) r.session_is its),
    )

-- the last fragment came with one of the lines
in_the_file : (lines : List (List ℕ)) (index last : ℕ) (heard : List Fragment) → CameInTurn (Carries lines) index last heard
    → CameInTurn (Carries lines) index (length lines) heard
in_the_file lines index last [] came = tt
in_the_file lines index last (f ∷ older) came = (within lines f.mark came.1.0 came.1.3.line_is, came.1, came.2)

makes_file : (s : Session) → IsSetUp s.setup → MakesFile (shape_of s) s.setup.padding
unfolding shape_of
makes_file s set = record { some = set.some; short = set.short }

decided : (file : List ℕ) (device : DeviceState) (index : ℕ) (s : Session) → IsReplayed file device index s
    → IsDecidedAtFirst s
decided file device index s r = decided_at_first s (makes_file s (session_fine file device index s r).1.set)

-- ---- what is at an index, and what it heard

exact : (file header : List ℕ) (rows : ℕ) (payloads : List (List ℕ)) (device : DeviceState) (index : ℕ)
    → Reaches (lines_of file) (Ok device) → IsFileOf file header rows payloads → index < 4
    → session_at device.sessions index ≡ session_behind (replay_device rows).config index None (carried_after 1 payloads)
unfolding TakesFile
exact file header rows payloads device index reaches its small =
    let reached : ReachesBehind (header_rows header) payloads (Ok device) =
    subst (λ (lines : List (List ℕ)). Reaches lines (Ok device)) its.lines_are reaches in
    let taken : ReachesBehind (Ok rows) payloads (Ok device) =
    subst (λ (r : Result ℕ LineWhy). ReachesBehind r payloads (Ok device)) its.rows_are reached in
    let here : min index 3 ≡ index = omega (arith, small) in
    subst (λ i. session_at device.sessions index
    ≡ session_behind (replay_device rows).config i None (carried_after 1 payloads)) here
    (of_one (λ i s. s ≡ session_behind (replay_device rows).config i None (carried_after 1 payloads)) device.sessions index
    (replay_holds rows device payloads taken))

all : (file header : List ℕ) (rows : ℕ) (payloads : List (List ℕ)) (device : DeviceState) (index : ℕ) (s : Session)
    (f : Fragment) (before behind : List CarriedCommand) → IsReplayed file device index s → IsFileOf file header rows payloads
    → IsSince payloads index f before behind → cause_of s.setup Unicast f.number f.part ≡ None → In f s.heard
all file header rows payloads device index s f before behind r its since none =
    let config : Configuration = (replay_device rows).config in
    let there : session_behind config index None (carried_after 1 payloads) ≡ Some s =
    sym (exact file header rows payloads device index r.accepted its r.index_is) ∙ r.session_is in
    all_heard config index s f before behind since.left none
    (subst (λ (cs : List CarriedCommand). session_behind config index None cs ≡ Some s) since.there there)

-- ---- what the text says

-- the text by its verdict
by_verdict : (device : DeviceState) (index : ℕ) (s : Session) (v : Verdict) → index < 4 → session_at device.sessions index ≡ Some s
    → (seen_of s).verdict ≡ v
    → replay_text device ≡ text_saying device index (saying index s (verdict_text v []) ++ file_line v (seen_of s).file)
unfolding replay_text view_of
by_verdict device index s v small here is =
    let seen : Seen = seen_of s in
    let line : session_line whole index (view_of (session_at device.sessions index))
    ≡ session_text index seen.received seen.missing (verdict_text v []) ++ file_line v seen.file =
    ap (λ (o : Option Session). session_line whole index (view_of o)) here
    ∙ ap (λ (x : Verdict). session_text index seen.received seen.missing (verdict_text x []) ++ file_line x seen.file) is in
    let below = lines_below whole device.sessions index in
    let above = lines_above whole device.sessions index in
    ap (λ (t : List ℕ). codes "fuota replay 1\n" ++ (counts_line device.counts ++ (t ++ codes "end\n")))
    (line_by_index index whole device.sessions small
    ∙ ap (λ (l : List ℕ). below ++ (l ++ above)) line)
    ∙ ap (λ (t : List ℕ). codes "fuota replay 1\n" ++ (counts_line device.counts ++ t))
    (append_assoc below (saying index s (verdict_text v []) ++ file_line v seen.file ++ above) (codes "end\n")
    ∙ ap (λ (t : List ℕ). below ++ t) (append_assoc (saying index s (verdict_text v []) ++ file_line v seen.file) above (codes "end\n")))

told_of : (device : DeviceState) (index : ℕ) (s : Session) → index < 4 → session_at device.sessions index ≡ Some s
    → IsDecidedAtFirst s → IsToldOf device index s
told_of device index s small here d =
    let seen : Seen = seen_of s in
    let says = λ (t : List ℕ). text_saying device index t in
    record {
      complete = λ line file at.
          by_verdict device index s (verdict.Complete line) small here ((d.complete line).1 (file, at))
          ∙ ap (λ (words : List ℕ). says (saying index s words ++ file_line (verdict.Complete line) seen.file))
          (append-nil (codes "complete at " ++ decimal line))
          ∙ ap (λ (f : List ℕ). says (saying index s (codes "complete at " ++ decimal line) ++ file_line
          (verdict.Complete line) f)) (d.file line file at);
      no_rows = λ line at. by_verdict device index s (verdict.NoRows line) small here ((d.no_rows line).1 at)
          ∙ ap says (append-nil (saying index s (verdict_text (verdict.NoRows line) [])));
      conflict = λ line at. by_verdict device index s (verdict.Conflict line) small here ((d.conflict line).1 at)
          ∙ ap says (append-nil (saying index s (verdict_text (verdict.Conflict line) [])));
      receiving = λ stays. by_verdict device index s verdict.Receiving small here (d.receiving.1 stays)
          ∙ ap says (append-nil (saying index s (verdict_text verdict.Receiving [])));
    }

pub replay_headline : ReplayHeadline
replay_headline = record {
  heard = λ file device index s r. let fine =
      session_fine file device index s r in in_the_file (lines_of file) index fine.0 s.heard fine.1.came;
  exact = exact;
  all = all;
  decided = decided;
  told = λ file device index s r. told_of device index s r.index_is r.session_is (decided file device index s r);
}
