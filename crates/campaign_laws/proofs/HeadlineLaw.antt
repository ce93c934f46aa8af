-- The headline: what is seen of the session in each campaign, and what the report says of it.
use Rattle.std.proofs.Common.{◌≡◌, ◌≢◌, ◌⊎◌, inl, inr, ℕ, zero, suc, ◌<◌, ◌^◌, true, List, ◌∷◌, ◌++◌, length, min, All, None, Some, Option, Ok, refl, sym, ap, ◌∙◌, subst, append-nil, bytes_eq, arith}
use Rattle.std.specs.List.{AllByRecursion}
use Rattle.std.proofs.lemmas.Slice.Eq.{bytes_eq-Decides}
use Rattle.frag_model.specs.Fragments.{Fragment, Shape}
use Rattle.frag_model.specs.File.{OneFileFits}
use Rattle.frag_encoder.specs.Encoding.{nb_frag_of}
use Rattle.frag_session.specs.declared.answers.Verdict.{Verdict}
use Rattle.frag_session.specs.declared.answers.Verdict.TheVariants as verdict
use Rattle.frag_session.specs.declared.setups.SetupReq.{SetupReq}
use Rattle.frag_session.specs.Session.{Session, Seen, shape_of, seen_of, view_of}
use Rattle.frag_session.specs.FirstMoment.{IsWhole, FirstAt, IsDecidedAtFirst}
use Rattle.frag_session.proofs.FirstMoments.{decided_at_first}
use Rattle.package_grammar.specs.declared.command.Command.{Command}
use Rattle.package_grammar.specs.declared.command.Command.TheVariants.{Cast}
use Rattle.device_core.specs.SessionTable.{SessionTable, session_at}
use Rattle.device_core.specs.Device.{DeviceState}
use Rattle.campaign_server.specs.declared.stage.Stage.{Stage}
use Rattle.campaign_server.specs.Server.{ServerState, ledger}
use Rattle.wire_base.specs.Numbered.{numbered}
use Rattle.campaign_server.specs.Asking.{fragments_request}
use Rattle.campaign_world.specs.World.{WorldState}
use Rattle.campaign_world.specs.Said.{Line}
use Rattle.campaign_world.specs.Report.{report_of}
use Rattle.campaign_laws.specs.Told.{report_over}
use Rattle.campaign_laws.proofs.Told.{report_parted}
use Rattle.report_lines.specs.Sessions.{same, same_word, verdict_text, session_text, session_line, session_lines}
use Rattle.campaign_world.specs.Script.{campaign_of}
use Rattle.campaign_world.specs.Recovery.{file_by, file_of, recovery_by, recovery}
use Rattle.campaign_laws.specs.Recovers.{RecoversTheImage}
use Rattle.campaign_world.specs.Honest.{AreHonest}
use Rattle.campaign_laws.specs.Fields.{AllFit}
use Rattle.campaign_laws.specs.Headline.{WholeAt, HasNoOther, IsOfItsLine, IsFragmentOf, IsServed, Brings, CameInOrder, setup_command, HearsBrought, IsRecovered, IsReported, IsCampaign, Headline}
use Rattle.campaign_laws.proofs.HeadlineCommands.{cut_of, setup_request}
use Rattle.campaign_laws.proofs.HeadlineEnds.{IsSetFor, shape_for, IsServerOf}
use Rattle.campaign_server.proofs.LineItems.{if_some}
use Rattle.campaign_laws.proofs.HeadlineLines.{campaign_reads, campaign_device, campaign_session, campaign_came}
use Rattle.campaign_laws.proofs.HeadlineHeard.{campaign_hears}
use Rattle.campaign_laws.proofs.Configured.{is_configured}
use Rattle.campaign_laws.proofs.IndexedLines.{index_is}
use Rattle.campaign_laws.proofs.HeadlineImage.{IsShapeFor, image_fits, alone_is_image, behind}

only_image : (image : List ℕ) (shape : Shape) (padding : ℕ) (heard newer older : List Fragment) (file : List ℕ)
    → IsShapeFor image shape padding → AllByRecursion (IsFragmentOf image shape.frag_size) heard
    → heard ≡ newer ++ older → OneFileFits shape padding older file → file ≡ image
only_image image shape padding heard newer older file h all parted one =
    alone_is_image image shape padding older file h
    (behind (IsFragmentOf image shape.frag_size) newer older
    (subst (AllByRecursion (IsFragmentOf image shape.frag_size)) parted all)) one

pub recovered_by : (image : List ℕ) (s : Session) → IsShapeFor image (shape_of s) s.setup.padding
    → AllByRecursion (IsFragmentOf image (shape_of s).frag_size) s.heard → IsRecovered image s
recovered_by image s h all =
    let shape : Shape = shape_of s in
    let padding : ℕ = s.setup.padding in
    let decided : IsDecidedAtFirst s = decided_at_first s h.makes in
    record {
      decided = decided;
      alone = λ newer older file parted one. only_image image shape padding s.heard newer older file h all parted one;
      shown = λ mark is.
          let at = (decided.complete mark).0 is in
          decided.file mark at.0 at.1 ∙ only_image image shape padding s.heard at.1.0
          (at.1.1 ∷ at.1.2) at.0 h all at.1.3.parted at.1.3.now.alone;
      agrees = λ mark is.
          let at = (decided.conflict mark).0 is in
          let from = behind (IsFragmentOf image shape.frag_size) at.0 (at.1 ∷ at.2)
          (subst (AllByRecursion (IsFragmentOf image shape.frag_size)) at.3.parted all) in
          at.3.now image (image_fits image shape padding (at.1 ∷ at.2) h from);
    }

set_for : (image : List ℕ) (lines : List Line) (world : WorldState) (id : ℕ) (stage : Stage) (device : DeviceState) (session : Session)
    → AllFit world.server.plan.index lines → IsCampaign image lines world id stage device session → IsSetFor image (cut_of world.server.plan) session
set_for image lines world id stage device session fits c =
    campaign_session image world.server.plan.index lines world id device session c.bytes fits c.honest c.accepted c.device_is c.session_is

server_of : (image : List ℕ) (lines : List Line) (world : WorldState) (id : ℕ) (stage : Stage) (device : DeviceState)
    (session : Session) → AllFit world.server.plan.index lines → IsCampaign image lines world id stage device session → IsServerOf image world.server
server_of image lines world id stage device session fits c =
    (campaign_reads image world.server.plan.index lines world c.bytes fits c.honest c.accepted).stands.keeps.server

session_rows : (image : List ℕ) (lines : List Line) (world : WorldState) (id : ℕ) (stage : Stage) (device : DeviceState)
    (session : Session) → AllFit world.server.plan.index lines → IsCampaign image lines world id stage device session
    → session.rows ≡ min device.config.rows (nb_frag_of (length image) world.server.plan.frag_size)
session_rows image lines world id stage device session fits c =
    if_some (λ (s : Session). s.rows ≡ min device.config.rows (nb_frag_of (length image) world.server.plan.frag_size))
    (session_at device.sessions world.server.plan.index) session c.session_is
    (campaign_device image world.server.plan.index lines world id device c.bytes fits c.honest c.accepted c.device_is).rows

served : (image : List ℕ) (lines : List Line) (world : WorldState) (id : ℕ) (stage : Stage) (device : DeviceState)
    (session : Session) → AllFit world.server.plan.index lines → IsCampaign image lines world id stage device session
    → IsServed image world.server device.config.rows session
served image lines world id stage device session fits c =
    let k = set_for image lines world id stage device session fits c in
    record {
      image_is = (server_of image lines world id stage device session fits c).image_is;
      nb_frag = ap (λ (r : SetupReq). r.nb_frag) k.setup;
      frag_size = ap (λ (r : SetupReq). r.frag_size) k.setup;
      padding = ap (λ (r : SetupReq). r.padding) k.setup;
      rows_are = session_rows image lines world id stage device session fits c;
      heard = k.heard;
    }

-- the setup that the server sends
pub setup_is : (image : List ℕ) (server : ServerState) → IsServerOf image server
    → setup_command server ≡ setup_request image (cut_of server.plan)
setup_is image server k =
    ap (λ (i : List ℕ). let c : Command = Cast (fragments_request server.plan i) in c) k.image_is

brought : (image : List ℕ) (lines : List Line) (world : WorldState) (id : ℕ) (stage : Stage) (device : DeviceState)
    (session : Session) → AllFit world.server.plan.index lines → IsCampaign image lines world id stage device session
    → HearsBrought image lines world id session
brought image lines world id stage device session fits c =
    let setup = setup_is image world.server (server_of image lines world id stage device session fits c) in
    record {
      only = subst (λ (x : Command). CameInOrder image lines world.sent id world.server.plan.index x world.lines session.heard) (sym setup)
          (campaign_came image world.server.plan.index lines world id device session c.bytes fits c.honest c.accepted c.device_is c.session_is);
      all = λ f n d later w. campaign_hears image world.server.plan.index lines world id device session c.bytes fits c.honest c.accepted c.device_is
          c.session_is f n (subst (λ (x : Command). Brings image lines world.sent id n x) setup d) later w;
    }

recovered_at : (image : List ℕ) (index : ℕ) (lines : List Line) (world : WorldState) (id : ℕ) (device : DeviceState) (session : Session)
    → All (λ b. b < 2 ^ 8) image → AllFit index lines → AreHonest index lines → campaign_of image lines ≡ Ok world → numbered world.devices id ≡ Some device
    → session_at device.sessions world.server.plan.index ≡ Some session → IsRecovered image session
recovered_at image index lines world id device session bytes fits honest is d s =
    let k = campaign_session image index lines world id device session bytes fits honest is d s in
    let shape = shape_for image (cut_of world.server.plan) session bytes k in
    recovered_by image session shape.0 (subst (λ (n : ℕ). AllByRecursion (IsFragmentOf image n) session.heard)
    (sym shape.1) k.heard)

recovered : (image : List ℕ) (lines : List Line) (world : WorldState) (id : ℕ) (stage : Stage) (device : DeviceState)
    (session : Session) → AllFit world.server.plan.index lines → IsCampaign image lines world id stage device session → IsRecovered image session
recovered image lines world id stage device session fits c =
    recovered_at image world.server.plan.index lines world id device session c.bytes fits c.honest c.accepted c.device_is c.session_is

-- the report over a device that has no session but that of one index
alone_lines : (sent : List ℕ) (index : ℕ) (all : SessionTable) (session : Session) → index < 4 → session_at all index ≡ Some session
    → HasNoOther index all → session_lines (same sent) all ≡ session_line (same sent) index (Some (seen_of session))
unfolding view_of
alone_lines sent zero all session low is none =
    let second : all.second ≡ None = none 1 (omega arith) (λ e. omega (arith, e)) in
    let third : all.third ≡ None = none 2 (omega arith) (λ e. omega (arith, e)) in
    let fourth : all.fourth ≡ None = none 3 (omega arith) (λ e. omega (arith, e)) in
    rw (is, second, third, fourth) (append-nil _)
alone_lines sent (suc zero) all session low is none =
    let first : all.first ≡ None = none 0 (omega arith) (λ e. omega (arith, e)) in
    let third : all.third ≡ None = none 2 (omega arith) (λ e. omega (arith, e)) in
    let fourth : all.fourth ≡ None = none 3 (omega arith) (λ e. omega (arith, e)) in
    rw (first, is, third, fourth) (append-nil _)
alone_lines sent (suc (suc zero)) all session low is none =
    let first : all.first ≡ None = none 0 (omega arith) (λ e. omega (arith, e)) in
    let second : all.second ≡ None = none 1 (omega arith) (λ e. omega (arith, e)) in
    let fourth : all.fourth ≡ None = none 3 (omega arith) (λ e. omega (arith, e)) in
    rw (first, second, is, fourth) (append-nil _)
alone_lines sent (suc (suc (suc zero))) all session low is none =
    let first : all.first ≡ None = none 0 (omega arith) (λ e. omega (arith, e)) in
    let second : all.second ≡ None = none 1 (omega arith) (λ e. omega (arith, e)) in
    let third : all.third ≡ None = none 2 (omega arith) (λ e. omega (arith, e)) in
    rw (first, second, third, is) refl
alone_lines sent (suc (suc (suc (suc i)))) all session low is none = absurd (omega (arith, low))

report_is : (world : WorldState) (id : ℕ) (stage : Stage) (device : DeviceState) (index : ℕ) (session : Session) → index < 4
    → ledger world.server id ≡ Some stage → numbered world.devices id ≡ Some device
    → session_at device.sessions index ≡ Some session → HasNoOther index device.sessions
    → report_of world ≡ report_over world id stage device (session_line (same world.server.image) index (Some (seen_of session)))
report_is world id stage device index session low s d e none =
    report_parted world id stage device s d
    ∙ ap (report_over world id stage device) (alone_lines world.server.image index device.sessions session low e none)

line_is : (sent : List ℕ) (index : ℕ) (seen : Seen) (v : Verdict) → seen.verdict ≡ v
    → session_line (same sent) index (Some seen) ≡ session_text index seen.received seen.missing
    (verdict_text v (same_word (bytes_eq seen.file sent)))
line_is sent index seen v is =
    ap (λ (x : Verdict). session_text index seen.received seen.missing
    (verdict_text x (same_word (bytes_eq seen.file sent)))) is

-- a session is complete, without rows or receiving, where there never is a conflict
abbrev Cases : Verdict → Type 0
Cases v = ((mark : ℕ) × (v ≡ verdict.Complete mark))
    ⊎ (((mark : ℕ) × (v ≡ verdict.NoRows mark)) ⊎ (v ≡ verdict.Receiving))

seen_cases : (v : Verdict) → ((mark : ℕ) → v ≢ verdict.Conflict mark) → Cases v
seen_cases verdict.Receiving agrees = inr (inr refl)
seen_cases (verdict.Complete mark) agrees = inl (mark, refl)
seen_cases (verdict.NoRows mark) agrees = inr (inl (mark, refl))
seen_cases (verdict.Conflict mark) agrees = absurd (agrees mark refl)

whole_of_image : (image : List ℕ) (s : Session) → IsRecovered image s → (mark : ℕ) (file : List ℕ)
    → FirstAt (shape_of s) s.setup.padding (IsWhole (shape_of s) s.setup.padding file) s.heard mark
    → WholeAt image s mark
whole_of_image image s r mark file at =
    subst (λ (f : List ℕ). FirstAt (shape_of s) s.setup.padding (IsWhole (shape_of s) s.setup.padding f) s.heard mark)
    (r.alone at.0 (at.1 ∷ at.2) file at.3.parted at.3.now.alone) at

reported : (image : List ℕ) (lines : List Line) (world : WorldState) (id : ℕ) (stage : Stage) (device : DeviceState)
    (session : Session) → AllFit world.server.plan.index lines → IsCampaign image lines world id stage device session
    → IsReported image world id stage device session
reported image lines world id stage device session fits c =
    let k = server_of image lines world id stage device session fits c in
    let r = recovered image lines world id stage device session fits c in
    let seen : Seen = seen_of session in
    let server : ServerState = world.server in
    let index : ℕ = world.server.plan.index in
    let text = report_is world id stage device index session (omega (arith, k.indexed)) c.stage_is c.device_is c.session_is
    (campaign_device image world.server.plan.index lines world id device c.bytes fits c.honest c.accepted c.device_is).alone in
    let whole : List ℕ → List ℕ = λ line. report_over world id stage device line in
    record {
      cases = elim (seen_cases seen.verdict r.agrees) [
        | inl is ↦ let at = (r.decided.complete is.0).0 is.1 in inl
            (is.0, whole_of_image image session r is.0 at.0 at.1)
        | inr other ↦ inr (elim other [
          | inl is ↦ inl (is.0, (r.decided.no_rows is.0).0 is.1)
          | inr is ↦ inr (r.decided.receiving.0 is)
        ])
      ];
      complete = λ line at.
          let is = (r.decided.complete line).1 (image, at) in
          let same : bytes_eq seen.file server.image
          ≡ true = (bytes_eq-Decides seen.file server.image).1 (r.shown line is ∙ sym k.image_is) in
          text ∙ ap whole (line_is server.image index seen (verdict.Complete line) is
          ∙ ap (λ b. session_text index seen.received seen.missing (verdict_text (verdict.Complete line) (same_word b)))
          same);
      no_rows = λ line at. text ∙ ap whole (line_is server.image index seen (verdict.NoRows line)
          ((r.decided.no_rows line).1 at));
      receiving = λ stays. text ∙ ap whole (line_is server.image index seen verdict.Receiving (r.decided.receiving.1 stays));
    }

configured : (image : List ℕ) (lines : List Line) (world : WorldState) (id : ℕ) (device : DeviceState) → All (λ b. b < 2 ^ 8) image
    → campaign_of image lines ≡ Ok world → numbered world.devices id ≡ Some device
    → IsOfItsLine lines id device.config
configured image lines world id device bytes is there = is_configured image lines world id device is there

one : (image : List ℕ) (lines : List Line) (world : WorldState) (id : ℕ) (device : DeviceState) → All (λ b. b < 2 ^ 8) image
    → AllFit world.server.plan.index lines → AreHonest world.server.plan.index lines → campaign_of image lines ≡ Ok world
    → numbered world.devices id ≡ Some device → HasNoOther world.server.plan.index device.sessions
one image lines world id device bytes fits honest is there = (campaign_device image world.server.plan.index lines world id device bytes fits honest is there).alone

pub headline : Headline
headline = record { configured = configured; one = one; served = served; brought = brought; recovered = recovered; reported = reported }

-- ---- what is recovered

-- a session that gives a file is complete, and the file is the image
file_by_image : (image : List ℕ) (session : Session) (seen : Seen) (v : Verdict) (file : List ℕ) → seen_of session ≡ seen
    → seen.verdict ≡ v → IsRecovered image session → file_by v seen.file ≡ Ok file → file ≡ image
file_by_image image session seen verdict.Receiving file is at r given = absurd cc
file_by_image image session seen (verdict.Complete mark) file is at r given =
    let same : seen.file ≡ file = cc in
    sym same ∙ sym (ap (λ (x : Seen). x.file) is)
    ∙ r.shown mark (ap (λ (x : Seen). x.verdict) is ∙ at)
file_by_image image session seen (verdict.NoRows mark) file is at r given = absurd cc
file_by_image image session seen (verdict.Conflict mark) file is at r given = absurd cc

session_image : (image : List ℕ) (s : Option Session) (file : List ℕ) → ((x : Session) → s ≡ Some x → IsRecovered image x)
    → file_of (view_of s) ≡ Ok file → file ≡ image
unfolding view_of
session_image image None file r given = absurd cc
session_image image (Some s) file r given =
    file_by_image image s (seen_of s) (seen_of s).verdict file refl refl (r s refl) given

device_image : (image : List ℕ) (lines : List Line) (world : WorldState) (id : ℕ) (o : Option DeviceState) (file : List ℕ)
    → All (λ b. b < 2 ^ 8) image → AllFit 0 lines → AreHonest 0 lines → campaign_of image lines ≡ Ok world → numbered world.devices id ≡ o
    → recovery_by o ≡ Ok file → file ≡ image
device_image image lines world id None file bytes fits honest is there given = absurd cc
device_image image lines world id (Some device) file bytes fits honest is there given =
    let own : world.server.plan.index ≡ 0 = index_is image 0 lines world fits is in
    session_image image device.sessions.first file
    (λ s at. recovered_at image 0 lines world id device s bytes fits honest is there
    (ap (λ (i : ℕ). session_at device.sessions i) own ∙ at)) given

pub recovers : RecoversTheImage
unfolding recovery
recovers image lines world id file bytes fits honest is given =
    device_image image lines world id (numbered world.devices id) file bytes fits honest is refl given
