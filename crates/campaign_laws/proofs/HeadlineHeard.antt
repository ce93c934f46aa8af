-- Each fragment that a line brings after the setup was brought is heard.
use Rattle.std.proofs.Common.{◌≡◌, ◌⊎◌, inl, inr, ℕ, zero, suc, ◌+◌, ◌-◌, ◌^◌, ◌<◌, ◌≤◌, List, [], ◌∷◌, ◌++◌, All, length, take, drop, Option, None, Some, Result, Ok, Err, IfOk, refl, sym, ap, subst, arith, length-drop}
use Rattle.std.specs.List.{slice_set}
use Rattle.frag_model.specs.Fragments.{Fragment}
use Rattle.frag_model.specs.Members.{In}
use Rattle.frag_session.specs.Session.{Session}
use Rattle.package_grammar.specs.declared.command.Command.{Command}
use Rattle.device_core.specs.Device.{DeviceState}
use Rattle.device_core.specs.SessionTable.{session_at}
use Rattle.wire_base.specs.Numbered.{numbered}
use Rattle.script_lines.specs.declared.forms.Form.TheVariants.{Down}
use Rattle.report_lines.specs.declared.faults.LineWhy.{LineWhy}
use Rattle.report_lines.specs.declared.faults.LineFault.{LineFault}
use Rattle.campaign_world.specs.declared.numbered.SentPayload.{SentPayload}
use Rattle.campaign_world.specs.World.{WorldState, first_world}
use Rattle.campaign_world.specs.Said.{Said, Own, Line}
use Rattle.campaign_world.specs.Causes.{line_cause, cause_of}
use Rattle.campaign_world.specs.Making.{device_of, after_said}
use Rattle.campaign_world.specs.Script.{one_line_more, after_line, line_result, read_line, read_lines, campaign_of}
use Rattle.campaign_world.specs.Honest.{AreHonest}
use Rattle.campaign_laws.specs.Headline.{Brings, WasBrought}
use Rattle.campaign_server.proofs.LineItems.{if_some, none_there, numbered_push, numbered_put, numbered_there, numbered_next, within}
use Rattle.campaign_laws.proofs.HeadlineCommands.{Cut, cut_of, setup_request}
use Rattle.campaign_laws.proofs.HeadlineEnds.{IsDeviceFor}
use Rattle.campaign_laws.proofs.HeadlineWorlds.{Keeps, HasStayed, IsReached, Turns}
use Rattle.campaign_laws.specs.Fields.{AllFit}
use Rattle.campaign_laws.proofs.HonestLines.{heard_said, Says, goes_on_by}
use Rattle.campaign_laws.proofs.Independence.{Grows, sent_grows}
use Rattle.campaign_laws.proofs.HeadlineLines.{Reads, cause_by, line_reads, first_reads, end_is, campaign_reads}
use Rattle.campaign_laws.proofs.HeadlineSessions.{NotYet, SessionHears, DeviceHears, not_yet_more, quiet, session_quiet, no_delivery, elsewhere, stayed_hears, reached_hears}
use Rattle.campaign_laws.proofs.OwnSession.{none_at}

-- ---- a line

-- two numbers are the same or not
cases_same : (a b : ℕ) → (a ≡ b) ⊎ (a ≡ b → ⊥)
cases_same zero zero = inl refl
cases_same zero (suc b) = inr (λ is. absurd cc)
cases_same (suc a) zero = inr (λ is. absurd cc)
cases_same (suc a) (suc b) = elim (cases_same a b) [
  | inl is ↦ inl (ap suc is)
  | inr differs ↦ inr (λ is. differs (omega (arith, is)))
]

-- up to a line each device heard all
AllHear : List ℕ → Cut → List Line → List SentPayload → ℕ → List DeviceState → Type 0
AllHear image cut lines sent last ds =
    (id : ℕ) → DeviceHears image cut (Brings image lines sent id) last (numbered ds id)

abbrev Full : List ℕ → List Line → List SentPayload → WorldState → Type 0
Full image lines sent w = AllHear image (cut_of w.server.plan) lines sent w.lines w.devices

-- a line brings nothing to this device
abbrev Nothing : List ℕ → List Line → List SentPayload → (id n : ℕ) → Type 0
Nothing image lines sent id n = (c : Command) → Brings image lines sent id n c → ⊥

alike_hear : (image : List ℕ) (cut : Cut) (lines : List Line) (sent : List SentPayload) (id last : ℕ)
    (old new : Option DeviceState) → Nothing image lines sent id (last + 1) → (new ≡ old) ⊎ HasStayed old new
    → DeviceHears image cut (Brings image lines sent id) last old
    → DeviceHears image cut (Brings image lines sent id) (last + 1) new
alike_hear image cut lines sent id last old new none (inl same) h =
    subst (DeviceHears image cut (Brings image lines sent id) (last + 1)) (sym same)
    (quiet image cut (Brings image lines sent id) last old none h)
alike_hear image cut lines sent id last old new none (inr s) h =
    let before : SessionHears image cut (Brings image lines sent id) last s.d.config (session_at s.d.sessions cut.index) =
    subst (DeviceHears image cut (Brings image lines sent id) last) s.was h in
    subst (DeviceHears image cut (Brings image lines sent id) (last + 1)) (sym s.is)
    (stayed_hears image cut (Brings image lines sent id) (last + 1) s.d s.e s.moves
    (session_quiet image cut (Brings image lines sent id) last s.d.config (session_at s.d.sessions cut.index) none before))

begun_hear : (image : List ℕ) (old cut : Cut) (lines : List Line) (sent : List SentPayload) (id last : ℕ)
    (before ds : List DeviceState) → before ≡ [] → ds ≡ [] → Nothing image lines sent id (last + 1)
    → DeviceHears image old (Brings image lines sent id) last (numbered before id)
    → DeviceHears image cut (Brings image lines sent id) (last + 1) (numbered ds id)
begun_hear image old cut lines sent id last before ds was is none h =
    let nobody : DeviceHears image old (Brings image lines sent id) last None =
    subst (DeviceHears image old (Brings image lines sent id) last)
    (none_there before id was) h in
    subst (DeviceHears image cut (Brings image lines sent id) (last + 1))
    (sym (none_there ds id is))
    (λ c. not_yet_more (Brings image lines sent id) c last (none c) (nobody c))

joined_hear : (image : List ℕ) (cut : Cut) (lines : List Line) (sent : List SentPayload) (id last : ℕ)
    (ds : List DeviceState) (d : DeviceState) → session_at d.sessions cut.index ≡ None → Nothing image lines sent id (last + 1)
    → DeviceHears image cut (Brings image lines sent id) last (numbered ds id)
    → DeviceHears image cut (Brings image lines sent id) (last + 1) (numbered (ds ++ d ∷ []) id)
joined_hear image cut lines sent id last ds d fresh none h = elim (numbered_push ds d id) [
  | inl same ↦ alike_hear image cut lines sent id last (numbered ds id) _ none (inl same) h
  | inr new ↦
      let nobody : DeviceHears image cut (Brings image lines sent id) last None =
      subst (DeviceHears image cut (Brings image lines sent id) last) new.0 h in
      let nothing : (takes : _) → NotYet (Brings image lines sent id) (setup_request image cut) (last + 1) =
      λ takes. not_yet_more (Brings image lines sent id) (setup_request image cut) last (none (setup_request image cut))
      (nobody (setup_request image cut)) in
      subst (DeviceHears image cut (Brings image lines sent id) (last + 1)) (sym new.1)
      (subst (λ (s : Option Session). SessionHears image cut (Brings image lines sent id) (last + 1) d.config s)
      (sym fresh) nothing)
]

reached_hear : (image : List ℕ) (lines : List Line) (sent more : List SentPayload) (w v : WorldState) (said : Said)
    (line : Line) (r : IsReached image said w v) → All (λ b. b < 2 ^ 8) image
    → Keeps image w → read_lines (Ok (first_world image)) (take w.lines lines) ≡ Ok w → sent ≡ w.sent ++ more
    → numbered lines (w.lines + 1) ≡ Some line → Says line said
    → ((id : ℕ) → DeviceHears image (cut_of w.server.plan) (Brings image lines sent id) w.lines (numbered w.devices id))
    → (id : ℕ)
    → DeviceHears image (cut_of w.server.plan) (Brings image lines sent id) (w.lines + 1)
    (numbered (slice_set w.devices (r.id - 1) r.new) id)
reached_hear image lines sent more w v said line r bytes k read grown line_is says h id =
    let cut : Cut = cut_of w.server.plan in
    let its = if_some (IsDeviceFor image cut) (numbered w.devices r.id) r.old r.before (k.devices r.id) in
    let before : SessionHears image cut (Brings image lines sent r.id) w.lines r.old.config (session_at r.old.sessions cut.index) =
    subst (DeviceHears image cut (Brings image lines sent r.id) w.lines) r.before (h r.id) in
    let behind : DeviceHears image cut (Brings image lines sent r.id) (w.lines + 1) (Some r.new) =
    reached_hears image lines sent more w v said line r bytes read its grown line_is says before in
    let down : Says line (Own (Down r.number r.id r.word)) = subst (Says line) r.said_is says in
    elim (cases_same id r.id) [
      | inl is ↦ subst (λ (n : ℕ). DeviceHears image cut (Brings image lines sent n) (w.lines + 1)
          (numbered (slice_set w.devices (r.id - 1) r.new) n)) (sym is)
          (subst (DeviceHears image cut (Brings image lines sent r.id) (w.lines + 1))
          (sym (numbered_there w.devices r.id r.old r.new r.before)) behind)
      | inr differs ↦ elim (numbered_put w.devices r.id id r.new r.first) [
        | inl is ↦ absurd (differs is)
        | inr same ↦ alike_hear image cut lines sent id w.lines (numbered w.devices id) _
            (elsewhere image lines sent id (w.lines + 1) r.number r.id r.word line line_is down differs) (inl same) (h id)
      ]
    ]

turn_full : (image : List ℕ) (lines : List Line) (sent more : List SentPayload) (w v : WorldState) (said : Said)
    (line : Line) → All (λ b. b < 2 ^ 8) image → Keeps image w
    → read_lines (Ok (first_world image)) (take w.lines lines) ≡ Ok w → Turns image said w v
    → sent ≡ w.sent ++ more → numbered lines (w.lines + 1) ≡ Some line → Says line said
    → Full image lines sent w → AllHear image (cut_of v.server.plan) lines sent (w.lines + 1) v.devices
unfolding AllHear
turn_full image lines sent more w v said line bytes k read turn grown line_is says h = elim turn.how [
  | inl q ↦ λ id. subst (λ (x : Cut). DeviceHears image x (Brings image lines sent id) (w.lines + 1) (numbered v.devices id))
      (sym q.cut)
      (alike_hear image (cut_of w.server.plan) lines sent id w.lines (numbered w.devices id) (numbered v.devices id)
      (no_delivery image lines sent id (w.lines + 1) line said line_is says q.other) (q.devices id) (h id))
  | inr other ↦ elim other [
    | inl b ↦ λ id. begun_hear image (cut_of w.server.plan) (cut_of v.server.plan) lines sent id w.lines w.devices
        v.devices b.before b.devices (no_delivery image lines sent id (w.lines + 1) line said line_is says b.other)
        (h id)
    | inr another ↦ elim another [
      | inl j ↦ λ id. subst (λ (x : Cut). DeviceHears image x (Brings image lines sent id) (w.lines + 1)
          (numbered v.devices id)) (sym j.cut)
          (subst (λ (ds : List DeviceState). DeviceHears image (cut_of w.server.plan) (Brings image lines sent id)
          (w.lines + 1) (numbered ds id)) (sym j.devices)
          (joined_hear image (cut_of w.server.plan) lines sent id w.lines w.devices (device_of j.dev)
          (none_at w.server.plan.index)
          (no_delivery image lines sent id (w.lines + 1) line said line_is says j.other) (h id)))
      | inr r ↦ λ id. subst (λ (x : Cut). DeviceHears image x (Brings image lines sent id) (w.lines + 1)
          (numbered v.devices id)) (sym r.cut)
          (subst (λ (ds : List DeviceState). DeviceHears image (cut_of w.server.plan) (Brings image lines sent id)
          (w.lines + 1) (numbered ds id)) (sym r.devices)
          (reached_hear image lines sent more w v said line r bytes k read grown line_is says h id))
    ]
  ]
]

-- ---- a whole script

said_full : (image : List ℕ) (index : ℕ) (lines : List Line) (sent : List SentPayload) (w : WorldState) (line : Line)
    (rest : List Line) → All (λ b. b < 2 ^ 8) image → Reads image index lines (line ∷ rest) w
    → Full image lines sent w → Grows w.sent sent → cause_of w line ≡ None
    → line_cause w line ≡ None → Full image lines sent (after_line w line)
said_full image index lines sent w (Err cause) rest bytes r h more none fine = absurd cc
said_full image index lines sent w (Ok said) rest bytes r h more none fine =
    let line : Line = Ok said in
    let on = goes_on_by image index w line said bytes r.stands refl none r.fits.0 fine r.honest.0 in
    let after : WorldState = after_said w (heard_said said) in
    let behind : Full image lines sent (one_line_more after) =
    subst (λ (n : ℕ). AllHear image (cut_of after.server.plan) lines sent (n + 1) after.devices) (sym on.turn.lines)
    (turn_full image lines sent more.0 w after (heard_said said) line bytes r.stands.keeps r.read on.turn more.1
    (numbered_next lines w.lines line rest r.left).0 on.says h) in
    subst (λ (u : WorldState). Full image lines sent (one_line_more u)) (sym on.heard.same) behind

line_full : (image : List ℕ) (index : ℕ) (lines : List Line) (sent : List SentPayload) (w : WorldState) (line : Line)
    (rest : List Line) (cause : Option LineWhy) → All (λ b. b < 2 ^ 8) image → Reads image index lines (line ∷ rest) w
    → Full image lines sent w → Grows w.sent sent → cause_of w line ≡ cause
    → IfOk (line_result w line cause) (λ x. Reads image index lines rest x × Full image lines sent x)
unfolding cause_of
line_full image index lines sent w line rest (Some why) bytes r h more is = tt
line_full image index lines sent w line rest None bytes r h more is = (
  line_reads image index lines w line rest None bytes r is,
  said_full image index lines sent w line rest bytes r h more is (cause_by _ _ _ is),
)

all_full : (image : List ℕ) (index : ℕ) (lines : List Line) (world : WorldState) (r : Result WorldState LineFault)
    (rest : List Line) → All (λ b. b < 2 ^ 8) image
    → IfOk r (λ w. Reads image index lines rest w × Full image lines world.sent w) → read_lines r rest ≡ Ok world
    → Full image lines world.sent world
unfolding read_lines read_line
all_full image index lines world (Err fault) rest bytes h is = absurd cc
all_full image index lines world (Ok w) [] bytes h is = let same : w
    ≡ world = cc in subst (Full image lines world.sent) same h.1
all_full image index lines world (Ok w) (line ∷ rest) bytes h is =
    all_full image index lines world (read_line w line) rest bytes
    (line_full image index lines world.sent w line rest (cause_of w line) bytes h.0 h.1
    (sent_grows w world (line ∷ rest) is) refl) is

no_line : (lines : List Line) (n : ℕ) (line : Line) → n ≤ 0 → numbered lines n ≡ Some line → ⊥
no_line lines zero line le is = absurd cc
no_line lines (suc n) line le is = absurd (omega (arith, le))

first_full : (image : List ℕ) (lines : List Line) (sent : List SentPayload)
    → Full image lines sent (first_world image)
unfolding AllHear
first_full image lines sent id =
    subst (DeviceHears image (cut_of (first_world image).server.plan) (Brings image lines sent id) 0)
    (sym (none_there (first_world image).devices id refl)) (λ c n le b. no_line lines n b.3.0 le b.3.4.line_is)

campaign_full : (image : List ℕ) (index : ℕ) (lines : List Line) (world : WorldState) → All (λ b. b < 2 ^ 8) image
    → AllFit index lines → AreHonest index lines → campaign_of image lines ≡ Ok world → Full image lines world.sent world
unfolding campaign_of
campaign_full image index lines world bytes fits honest is =
    all_full image index lines world (Ok (first_world image)) lines bytes
    (first_reads image index lines fits honest, first_full image lines world.sent) (end_is _ world is)

-- so it is in each accepted honest campaign
pub campaign_full_at : (image : List ℕ) (index : ℕ) (lines : List Line) (world : WorldState) (id : ℕ) (device : DeviceState)
    → All (λ b. b < 2 ^ 8) image → AllFit index lines → AreHonest index lines → campaign_of image lines ≡ Ok world → numbered world.devices id ≡ Some device
    → SessionHears image (cut_of world.server.plan) (Brings image lines world.sent id) world.lines
    device.config (session_at device.sessions world.server.plan.index)
unfolding AllHear
campaign_full_at image index lines world id device bytes fits honest is d =
    subst (DeviceHears image (cut_of world.server.plan) (Brings image lines world.sent id) world.lines) d
    (campaign_full image index lines world bytes fits honest is id)

pub campaign_hears : (image : List ℕ) (index : ℕ) (lines : List Line) (world : WorldState) (id : ℕ) (device : DeviceState) (session : Session)
    → All (λ b. b < 2 ^ 8) image → AllFit index lines → AreHonest index lines → campaign_of image lines ≡ Ok world
    → numbered world.devices id ≡ Some device → session_at device.sessions world.server.plan.index ≡ Some session → (f : Fragment) (n : ℕ)
    → Brings image lines world.sent id n (setup_request image (cut_of world.server.plan)) → n < f.mark
    → WasBrought image lines world.sent id world.server.plan.index f → In f session.heard
unfolding AllHear
campaign_hears image index lines world id device session bytes fits honest is d e f n setup later w =
    let cut : Cut = cut_of world.server.plan in
    let brings : ℕ → Command → Type 0 = Brings image lines world.sent id in
    let all : SessionHears image cut brings world.lines device.config (session_at device.sessions world.server.plan.index) =
    campaign_full_at image index lines world id device bytes fits honest is d in
    let its : SessionHears image cut brings world.lines device.config (Some session) =
    subst (λ (x : Option Session). SessionHears image cut brings world.lines device.config x) e all in
    let left : length (drop world.lines lines) ≡ 0 = ap length (campaign_reads image index lines world bytes fits honest is).left in
    let inside : f.mark ≤ length lines = within lines f.mark w.3.0 w.3.4.line_is in
    its.1 f n setup later (omega (arith, left, inside, length-drop world.lines lines)) w
