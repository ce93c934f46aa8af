-- A session is to hear each fragment that a line brings after the setup was brought.
use Rattle.std.proofs.Common.{◌≡◌, ◌⊎◌, inl, inr, ℕ, ◌+◌, ◌^◌, ◌<◌, ◌≤◌, Bool, true, false, cond, ◌==◌, nat_lt, List, ◌∷◌, ◌++◌, All, length, take, Option, None, Some, IfSome, is_none, Result, Ok, refl, sym, ap, ◌∙◌, subst, arith, eq-eqb, ne_eqb, eqb-true, le-ltb, true≢false}
use Rattle.std.proofs.lemmas.Bool.{cases_lt, eqb-false}
use Rattle.wire_base.specs.declared.refusal.Direction.TheVariants as direction
use Rattle.wire_base.specs.Rows.{IsListed}
use Rattle.cast_wire.specs.declared.cmd.Cmd.TheVariants.{FragSessionStatusReq, DataFragment}
use Rattle.frag_model.specs.Fragments.{Fragment}
use Rattle.frag_model.specs.Members.{In}
use Rattle.frag_encoder.specs.Encoding.{nb_frag_of, data_of}
use Rattle.frag_session.specs.declared.setups.SetupReq.{SetupReq}
use Rattle.frag_session.specs.declared.setups.Limits.{Limits}
use Rattle.frag_session.specs.declared.answers.Via.{Via}
use Rattle.frag_session.specs.declared.answers.Cause.{Cause}
use Rattle.frag_session.specs.Setup.{setup_bits, same_setup}
use Rattle.frag_session.specs.Session as sessions
use Rattle.frag_session.specs.Session.{Session, new_session, renewed, after_setup, followed, after_fragment, drop_cause, excludes}
use Rattle.package_grammar.specs.declared.command.Command.{Command}
use Rattle.package_grammar.specs.declared.command.Command.TheVariants.{Sync, Cast}
use Rattle.package_grammar.specs.declared.downlink.To.{To}
use Rattle.package_grammar.specs.declared.downlink.Downlink.{Downlink}
use Rattle.package_grammar.specs.Grammar.{row}
use Rattle.device_core.specs.Configuration.{Configuration}
use Rattle.device_core.specs.SessionTable.{SessionTable, session_at}
use Rattle.device_core.specs.Device.{DeviceState, room_of, limits_of}
use Rattle.device_core.specs.ClassSessions.{hears}
use Rattle.campaign_server.specs.Server.{DownlinkCommand, port_of, downlink_of}
use Rattle.wire_base.specs.Numbered.{numbered}
use Rattle.script_lines.specs.declared.forms.Form.TheVariants.{Down}
use Rattle.report_lines.specs.declared.faults.LineFault.{LineFault}
use Rattle.campaign_world.specs.declared.numbered.SentPayload.{SentPayload}
use Rattle.campaign_world.specs.World.{WorldState, first_world}
use Rattle.campaign_world.specs.Said.{Said, Own, Line}
use Rattle.campaign_world.specs.Script.{read_lines}
use Rattle.campaign_laws.specs.Headline.{IsFragmentOf, HandsOver, Delivers, Listens, Brings}
use Rattle.campaign_server.proofs.LineItems.{numbered_more}
use Rattle.campaign_laws.proofs.HeadlineCommands.{Cut, cut_of, setup_req, setup_request, fragment_command, IsOther, IsSentOf, IsCut, sent_same, fragment_sized}
use Rattle.device_core.proofs.Stays.{Moves, Stays}
use Rattle.campaign_laws.proofs.OwnSession.{at_own}
use Rattle.campaign_laws.proofs.HeadlinePayloads.{set_up, fed, comes_to, way_of}
use Rattle.campaign_laws.proofs.HeadlineEnds.{IsSetFor, IsDeviceFor}
use Rattle.campaign_laws.proofs.HeadlineWorlds.{is_down, IsReached}
use Rattle.campaign_laws.proofs.HonestLines.{Says, hands_over_is}
use Rattle.campaign_laws.proofs.HeadlineLines.{before_next}

-- ---- what a session is to have heard

-- all fragments that the lines up to this one bring after one that brings the setup
abbrev HeardAll : (brings : ℕ → Command → Type 0) → (index : ℕ) → Command → ℕ → List Fragment → Type 0
HeardAll brings index setup last heard = (f : Fragment) (n : ℕ) → brings n setup → n < f.mark
    → f.mark ≤ last → brings f.mark (Cast (DataFragment index f.number f.part)) → In f heard

-- no line up to this one brings it
abbrev pub NotYet : (brings : ℕ → Command → Type 0) → Command → ℕ → Type 0
NotYet brings command last = (n : ℕ) → n ≤ last → brings n command → ⊥

-- the device takes the setup
abbrev Takes : List ℕ → Cut → Configuration → Type 0
Takes image cut config = setup_bits (limits_of config) (room_of config) (setup_req image cut) ≡ 0

-- without a session no setup was brought that the device takes; with one, it took the setup and heard all
abbrev pub SessionHears : List ℕ → Cut → (brings : ℕ → Command → Type 0) → ℕ → Configuration → Option Session → Type 0
SessionHears image cut brings last config None = Takes image cut config → NotYet brings (setup_request image cut) last
SessionHears image cut brings last config (Some s) =
    Takes image cut config × HeardAll brings cut.index (setup_request image cut) last s.heard

-- a device that is not there yet is brought nothing
abbrev pub DeviceHears : List ℕ → Cut → (brings : ℕ → Command → Type 0) → ℕ → Option DeviceState → Type 0
DeviceHears image cut brings last None = (c : Command) → NotYet brings c last
DeviceHears image cut brings last (Some d) = SessionHears image cut brings last d.config (session_at d.sessions cut.index)

-- ---- one more line

-- up to a line: before it, or it
up_to : (n last : ℕ) → n ≤ last + 1 → (n ≤ last) ⊎ (n ≡ last + 1)
up_to n last le = elim (cases_lt last n) [ inl lt ↦ inr (omega (arith, le, lt)) | inr ge ↦ inl ge ]

pub not_yet_more : (brings : ℕ → Command → Type 0) (c : Command) (last : ℕ)
    → (brings (last + 1) c → ⊥) → NotYet brings c last → NotYet brings c (last + 1)
not_yet_more brings c last none before n le d = elim (up_to n last le) [
  | inl old ↦ before n old d
  | inr now ↦ none (subst (λ (k : ℕ). brings k c) now d)
]

heard_more : (brings : ℕ → Command → Type 0) (index : ℕ) (setup : Command) (last : ℕ) (heard more : List Fragment)
    → ((f : Fragment) → f.mark ≡ last + 1 → brings f.mark (Cast (DataFragment index f.number f.part)) → In f more)
    → ((f : Fragment) → In f heard → In f more)
    → HeardAll brings index setup last heard → HeardAll brings index setup (last + 1) more
heard_more brings index setup last heard more now kept before f n d later le w = elim (up_to f.mark last le) [
  | inl old ↦ kept f (before f n d later old w)
  | inr is ↦ now f is w
]

-- a line that brings neither the setup nor a fragment
session_more : (image : List ℕ) (cut : Cut) (brings : ℕ → Command → Type 0) (last : ℕ)
    (config : Configuration) (s : Option Session) → (brings (last + 1) (setup_request image cut) → ⊥)
    → ((f : Fragment) → f.mark ≡ last + 1 → brings f.mark (Cast (DataFragment cut.index f.number f.part)) → ⊥)
    → SessionHears image cut brings last config s → SessionHears image cut brings (last + 1) config s
session_more image cut brings last config None no_setup no_fragment h =
    λ t. not_yet_more brings (setup_request image cut) last no_setup (h t)
session_more image cut brings last config (Some s) no_setup no_fragment h = (
  h.0,
  heard_more brings cut.index (setup_request image cut) last s.heard s.heard (λ f is w. absurd (no_fragment f is w))
      (λ f m. m) h.1,
)

-- a line that brings nothing
pub session_quiet : (image : List ℕ) (cut : Cut) (brings : ℕ → Command → Type 0) (last : ℕ)
    (config : Configuration) (s : Option Session) → ((c : Command) → brings (last + 1) c → ⊥)
    → SessionHears image cut brings last config s → SessionHears image cut brings (last + 1) config s
session_quiet image cut brings last config s none h =
    session_more image cut brings last config s (none (setup_request image cut))
    (λ f is w. none (Cast (DataFragment cut.index f.number f.part))
    (subst (λ (k : ℕ). brings k (Cast (DataFragment cut.index f.number f.part))) is w)) h

pub quiet : (image : List ℕ) (cut : Cut) (brings : ℕ → Command → Type 0) (last : ℕ)
    (o : Option DeviceState) → ((c : Command) → brings (last + 1) c → ⊥)
    → DeviceHears image cut brings last o → DeviceHears image cut brings (last + 1) o
quiet image cut brings last None none h = λ c. not_yet_more brings c last (none c) (h c)
quiet image cut brings last (Some d) none h = session_quiet image cut brings last d.config (session_at d.sessions cut.index) none h

-- ---- what a line delivers

-- a line that hands over says so
handed_over : (its line : Line) (said : Said) (n id word : ℕ) → its ≡ line → HandsOver its n id word
    → Says line said → said ≡ Own (Down n id word)
handed_over its line said n id word same over says =
    hands_over_is line said n id word (subst (λ (l : Line). HandsOver l n id word) same over) says

-- a line that says anything else brings nothing
pub no_delivery : (image : List ℕ) (lines : List Line) (sent : List SentPayload) (id n : ℕ) (line : Line)
    (said : Said) → numbered lines n ≡ Some line → Says line said → is_down said ≡ false
    → (c : Command) → Brings image lines sent id n c → ⊥
no_delivery image lines sent id n line said line_is says other c b =
    let d = b.3 in
    let same : d.0 ≡ line = (let e : Some d.0 ≡ Some line = sym d.4.line_is ∙ line_is in cc) in
    let it : said ≡ Own (Down d.1 id d.2) = handed_over d.0 line said d.1 id d.2 same d.4.hands_over says in
    true≢false (ap is_down (sym it) ∙ other)

-- nor does a down to another device
pub elsewhere : (image : List ℕ) (lines : List Line) (sent : List SentPayload) (id n number other word : ℕ)
    (line : Line) → numbered lines n ≡ Some line → Says line (Own (Down number other word)) → (id ≡ other → ⊥)
    → (c : Command) → Brings image lines sent id n c → ⊥
elsewhere image lines sent id n number other word line line_is says differs c b =
    let d = b.3 in
    let same : d.0 ≡ line = (let e : Some d.0 ≡ Some line = sym d.4.line_is ∙ line_is in cc) in
    let down : Own (Down number other word) ≡ Own (Down d.1 id d.2) =
    handed_over d.0 line (Own (Down number other word)) d.1 id d.2 same d.4.hands_over says in
    let it : id ≡ other = cc in
    differs it

-- a down delivers only its payload, and the way it comes by
record IsTheOne (to : To) (c : Command) (down : DownlinkCommand) : Type 0 where
  command : c ≡ down.command
  to_is : to ≡ down.to

delivered_one : (image : List ℕ) (cut : Cut) (lines : List Line) (sent : List SentPayload) (id n : ℕ)
    (line : Line) (number word : ℕ) (p : SentPayload) (down : DownlinkCommand)
    → All (λ b. b < 2 ^ 8) image → IsCut image cut → IsSentOf image cut down → p.down ≡ downlink_of down
    → numbered lines n ≡ Some line → Says line (Own (Down number id word)) → numbered sent number ≡ Some p
    → (to : To) (c : Command) → IsListed (row c) 201 direction.Down → port_of c ≡ 201
    → Delivers lines sent id n (record { to = to; command = c }) → IsTheOne to c down
delivered_one image cut lines sent id n line number word p down bytes is_cut is_sent down_is line_is says got to c
    listed port d =
    let same : d.0 ≡ line = (let e : Some d.0 ≡ Some line = sym d.4.line_is ∙ line_is in cc) in
    let at : Own (Down number id word) ≡ Own (Down d.1 id d.2) =
    handed_over d.0 line (Own (Down number id word)) d.1 id d.2 same d.4.hands_over says in
    let which : d.1 ≡ number = cc in
    let r : SentPayload = record { receiver = d.3; down = downlink_of (record { to = to; command = c }) } in
    let found : Some r ≡ Some p = sym d.4.payload_is ∙ ap (numbered sent) which ∙ got in
    let it : r ≡ p = cc in
    let payload : downlink_of (record { to = to; command = c }) ≡ downlink_of down =
    ap (λ (x : SentPayload). x.down) it ∙ down_is in
    record {
      command = sent_same image cut to c down bytes is_cut (record { valid = d.4.valid; listed = listed; port = port })
          is_sent payload;
      to_is = ap (λ (x : Downlink). x.to) payload;
    }

-- what is brought at this line, the device listens to in the campaign before it
record IsHeardIn (to : To) (w : WorldState) (d : DeviceState) : Type 0 where
  hearing : hears (comes_to w.time d) w.time to ≡ true
  way : excludes (cut_of w.server.plan).mask (way_of w.time d to) ≡ false

heard_in : (image : List ℕ) (lines : List Line) (w world : WorldState) (id : ℕ) (d device : DeviceState) (to : To)
    → read_lines (Ok (first_world image)) (take w.lines lines) ≡ Ok w → numbered w.devices id ≡ Some d
    → Listens image lines id (w.lines + 1) to world device → IsHeardIn to w d
heard_in image lines w world id d device to read there l =
    let e : Path (Result WorldState LineFault) (Ok world) (Ok w) = sym l.before ∙ before_next image lines w read in
    let same : world ≡ w = cc in
    let f : Some device ≡ Some d = sym l.there ∙ ap (λ (x : WorldState). numbered x.devices id) same ∙ there in
    let its : device ≡ d = cc in
    record {
      hearing = ap (λ (x : WorldState). hears (comes_to w.time d) w.time to) same
          ∙ ap (λ (x : DeviceState). hears (comes_to w.time x) w.time to) (sym its)
          ∙ ap (λ (x : WorldState). hears (comes_to x.time device) x.time to) (sym same) ∙ l.hearing;
      way = ap (λ (x : DeviceState). excludes (cut_of w.server.plan).mask (way_of w.time x to)) (sym its)
          ∙ ap (λ (x : WorldState). excludes (cut_of x.server.plan).mask (way_of x.time device to)) (sym same) ∙ l.way;
    }

-- ---- a setup

self_eqb : (n : ℕ) → (n == n) ≡ true
self_eqb n = eq-eqb n n refl

same_self : (r : SetupReq) → same_setup r r ≡ true
unfolding same_setup
same_self r = simp self_eqb

stays_same : (limits : Limits) (s : Session) (req : SetupReq) → s.setup ≡ req → renewed limits (Some s) req ≡ s
unfolding renewed
stays_same limits s req is =
    ap (λ (b : Bool). cond b s (new_session limits req)) (ap (λ (r : SetupReq). same_setup r req) is ∙ same_self req)

setup_taken : (image : List ℕ) (cut : Cut) (brings : ℕ → Command → Type 0) (last : ℕ)
    (config : Configuration) (s : Option Session) → Takes image cut config
    → IfSome s (IsSetFor image cut) → ((f : Fragment) → f.mark ≡ last + 1 → brings f.mark (Cast (DataFragment cut.index f.number f.part)) → ⊥)
    → SessionHears image cut brings last config s
    → SessionHears image cut brings (last + 1) config (Some (renewed (limits_of config) s (setup_req image cut)))
setup_taken image cut brings last config None takes k no_fragment h = (
  takes,
  λ f n d later le w. absurd (elim (up_to f.mark last le) [
    | inl old ↦ h takes n
        (omega (arith, later, old)) d
    | inr is ↦ no_fragment f is w
  ]),
)
setup_taken image cut brings last config (Some s) takes k no_fragment h =
    let more : HeardAll brings cut.index (setup_request image cut) (last + 1) s.heard =
    heard_more brings cut.index (setup_request image cut) last s.heard s.heard (λ f is w. absurd (no_fragment f is w))
    (λ f m. m) h.1 in (
      takes,
      subst (λ (x : Session). HeardAll brings cut.index (setup_request image cut) (last + 1) x.heard)
          (sym (stays_same (limits_of config) s (setup_req image cut) k.setup)) more,
    )

setup_by : (image : List ℕ) (cut : Cut) (brings : ℕ → Command → Type 0) (last : ℕ)
    (config : Configuration) (s : Option Session) (b : Bool)
    → (setup_bits (limits_of config) (room_of config) (setup_req image cut) == 0) ≡ b
    → IfSome s (IsSetFor image cut) → ((f : Fragment) → f.mark ≡ last + 1 → brings f.mark (Cast (DataFragment cut.index f.number f.part)) → ⊥)
    → SessionHears image cut brings last config s
    → SessionHears image cut brings (last + 1) config
    (cond b (Some (renewed (limits_of config) s (setup_req image cut))) s)
setup_by image cut brings last config s true is k no_fragment h =
    setup_taken image cut brings last config s (eqb-true _ _ is) k no_fragment h
setup_by image cut brings last config None false is k no_fragment h = λ t. absurd (eqb-false _ _ is t)
setup_by image cut brings last config (Some s) false is k no_fragment h = absurd (eqb-false _ _ is h.0)

setup_hears : (image : List ℕ) (cut : Cut) (brings : ℕ → Command → Type 0) (last : ℕ)
    (config : Configuration) (s : Option Session)
    → IfSome s (IsSetFor image cut) → ((f : Fragment) → f.mark ≡ last + 1 → brings f.mark (Cast (DataFragment cut.index f.number f.part)) → ⊥)
    → SessionHears image cut brings last config s
    → SessionHears image cut brings (last + 1) config (set_up image cut config s)
unfolding after_setup
setup_hears image cut brings last config s k no_fragment h =
    setup_by image cut brings last config s _ refl k no_fragment h

-- ---- a fragment

not_dropped : (image : List ℕ) (cut : Cut) (s : Session) (way : Via) (n : ℕ) (part : List ℕ) (mark : ℕ)
    → IsSetFor image cut s → IsFragmentOf image cut.size (record { number = n; part = part; mark = mark })
    → excludes cut.mask way ≡ false → drop_cause (Some s) way n part ≡ None
unfolding drop_cause sessions.cause_of
not_dropped image cut s way n part mark k f takes =
    let count : s.setup.nb_frag ≡ nb_frag_of (length image) cut.size = ap (λ (r : SetupReq). r.nb_frag) k.setup in
    let cuts : s.setup.frag_size ≡ cut.size = ap (λ (r : SetupReq). r.frag_size) k.setup in
    let sized : length part ≡ s.setup.frag_size = ap length f.part ∙ fragment_sized image cut.size n k.makes.sized
    ∙ sym cuts in
    let comes : excludes s.setup.mask way ≡ false = ap (λ (r : SetupReq). excludes r.mask way) k.setup ∙ takes in
    let some : (n == 0) ≡ false = ne_eqb n 0 (omega (arith, f.first)) in
    let within : nat_lt (s.setup.nb_frag + 8380) n ≡ false =
    le-ltb (s.setup.nb_frag + 8380) n (omega (arith, count, f.last)) in
    let whole : (length part == s.setup.frag_size) ≡ true = eq-eqb _ _ sized in
    rw (comes, some, within, whole) refl

heard_session : (image : List ℕ) (cut : Cut) (s : Session) (way : Via) (n : ℕ) (part : List ℕ) (mark : ℕ)
    → IsSetFor image cut s → IsFragmentOf image cut.size (record { number = n; part = part; mark = mark })
    → excludes cut.mask way ≡ false → after_fragment (Some s) way n part mark ≡ Some (followed s n part mark)
unfolding after_fragment
heard_session image cut s way n part mark k f takes =
    ap (λ (c : Option Cause). cond (is_none c) (Some (followed s n part mark)) (Some s))
    (not_dropped image cut s way n part mark k f takes)

same_fragment : (index : ℕ) (f : Fragment) (n : ℕ) (part : List ℕ) (mark : ℕ)
    → Cast (DataFragment index f.number f.part) ≡ Cast (DataFragment index n part) → f.mark ≡ mark
    → f ≡ record { number = n; part = part; mark = mark }
same_fragment index f n part mark is at =
    let number : f.number ≡ n = cc in
    let bytes : f.part ≡ part = cc in
    ap (λ (x : ℕ). let r : Fragment = record { number = x; part = f.part; mark = f.mark } in r) number
    ∙ ap (λ (x : List ℕ). let r : Fragment = record { number = n; part = x; mark = f.mark } in r) bytes
    ∙ ap (λ (x : ℕ). let r : Fragment = record { number = n; part = part; mark = x } in r) at

-- by a way that the session does not take nothing is heard
excluded_same : (image : List ℕ) (cut : Cut) (s : Session) (way : Via) (n : ℕ) (part : List ℕ) (mark : ℕ)
    → IsSetFor image cut s → excludes cut.mask way ≡ true → after_fragment (Some s) way n part mark ≡ Some s
unfolding after_fragment drop_cause sessions.cause_of
excluded_same image cut s way n part mark k is =
    let comes : excludes s.setup.mask way ≡ true = ap (λ (r : SetupReq). excludes r.mask way) k.setup ∙ is in
    rw (comes) refl

-- what is brought at this line: the fragment, by a way that the session takes
record IsBrought (cut : Cut) (way : Via) (n : ℕ) (part : List ℕ) (mark : ℕ) (f : Fragment) : Type 0 where
  same : f ≡ record { number = n; part = part; mark = mark }
  takes : excludes cut.mask way ≡ false

kept_by : (image : List ℕ) (cut : Cut) (brings : ℕ → Command → Type 0) (last : ℕ) (config : Configuration)
    (s : Session) (way : Via) (n : ℕ) (part : List ℕ) (b : Bool) → excludes cut.mask way ≡ b
    → IsFragmentOf image cut.size (record { number = n; part = part; mark = last + 1 }) → IsSetFor image cut s
    → ((f : Fragment) → f.mark ≡ last + 1 → brings f.mark (Cast (DataFragment cut.index f.number f.part))
    → IsBrought cut way n part (last + 1) f)
    → SessionHears image cut brings last config (Some s)
    → SessionHears image cut brings (last + 1) config (after_fragment (Some s) way n part (last + 1))
unfolding followed
kept_by image cut brings last config s way n part true is f k one h =
    subst (λ (x : Option Session). SessionHears image cut brings (last + 1) config x)
    (sym (excluded_same image cut s way n part (last + 1) k is)) (
      h.0,
      heard_more brings cut.index (setup_request image cut) last s.heard s.heard
          (λ g at w. absurd (true≢false (sym is ∙ (one g at w).takes))) (λ g m. m) h.1,
    )
kept_by image cut brings last config s way n part false is f k one h =
    subst (λ (x : Option Session). SessionHears image cut brings (last + 1) config x)
    (sym (heard_session image cut s way n part (last + 1) k f is)) (
      h.0,
      heard_more brings cut.index (setup_request image cut) last s.heard
          (record { number = n; part = part; mark = last + 1 } ∷ s.heard) (λ g at w. inl (one g at w).same)
          (λ g m. inr m) h.1,
    )

nothing_heard : (image : List ℕ) (cut : Cut) (brings : ℕ → Command → Type 0) (last : ℕ) (config : Configuration)
    (way : Via) (n : ℕ) (part : List ℕ) → (brings (last + 1) (setup_request image cut) → ⊥)
    → SessionHears image cut brings last config None
    → SessionHears image cut brings (last + 1) config (after_fragment None way n part (last + 1))
unfolding after_fragment drop_cause
nothing_heard image cut brings last config way n part no_setup h =
    λ t. not_yet_more brings (setup_request image cut) last no_setup (h t)

fragment_hears : (image : List ℕ) (cut : Cut) (brings : ℕ → Command → Type 0) (last : ℕ)
    (config : Configuration) (s : Option Session) (way : Via) (n : ℕ) (part : List ℕ)
    → IsFragmentOf image cut.size (record { number = n; part = part; mark = last + 1 }) → IfSome s (IsSetFor image cut)
    → (brings (last + 1) (setup_request image cut) → ⊥)
    → ((f : Fragment) → f.mark ≡ last + 1 → brings f.mark (Cast (DataFragment cut.index f.number f.part))
    → IsBrought cut way n part (last + 1) f)
    → SessionHears image cut brings last config s
    → SessionHears image cut brings (last + 1) config (fed way n part (last + 1) config s)
fragment_hears image cut brings last config None way n part f k no_setup one h =
    nothing_heard image cut brings last config way n part no_setup h
fragment_hears image cut brings last config (Some s) way n part f k no_setup one h =
    kept_by image cut brings last config s way n part _ refl f k one h

-- ---- a down

-- a command that leaves the sessions is neither a setup nor a fragment
no_setup_there : (image : List ℕ) (cut : Cut) (c : Command) → IsOther cut c → setup_request image cut ≡ c → ⊥
no_setup_there image cut c (inl o) is = let e : setup_request image cut ≡ Cast (FragSessionStatusReq cut.index o.0) = is
    ∙ o.1 in cc
no_setup_there image cut c (inr (inl o)) is =
    let e : port_of (setup_request image cut) ≡ 200 = ap port_of is ∙ o in omega (arith, e)
no_setup_there image cut c (inr (inr o)) is = let e : setup_request image cut ≡ Sync o.0 = is ∙ o.1 in cc

no_fragment_there : (cut : Cut) (n : ℕ) (part : List ℕ) (c : Command) → IsOther cut c → Cast (DataFragment cut.index n part) ≡ c → ⊥
no_fragment_there cut n part c (inl o) is =
    let e : Cast (DataFragment cut.index n part) ≡ Cast (FragSessionStatusReq cut.index o.0) = is ∙ o.1 in cc
no_fragment_there cut n part c (inr (inl o)) is =
    let e : port_of (Cast (DataFragment cut.index n part)) ≡ 200 = ap port_of is ∙ o in omega (arith, e)
no_fragment_there cut n part c (inr (inr o)) is = let e : Cast (DataFragment cut.index n part) ≡ Sync o.0 = is ∙ o.1 in cc

pub moved_hears : (image : List ℕ) (cut : Cut) (brings : ℕ → Command → Type 0) (last : ℕ)
    (F : Configuration → Option Session → Option Session) (d e : DeviceState) → Moves cut.index F d e
    → SessionHears image cut brings last d.config (F d.config (session_at d.sessions cut.index))
    → SessionHears image cut brings last e.config (session_at e.sessions cut.index)
moved_hears image cut brings last F d e m h =
    subst (λ (c : Configuration). SessionHears image cut brings last c (session_at e.sessions cut.index)) (sym m.config)
    (subst (λ (o : Option Session). SessionHears image cut brings last d.config o)
    (sym (ap (λ (t : SessionTable). session_at t cut.index) m.sessions
    ∙ at_own d.sessions cut.index (F d.config (session_at d.sessions cut.index)))) h)

pub stayed_hears : (image : List ℕ) (cut : Cut) (brings : ℕ → Command → Type 0) (last : ℕ) (d e : DeviceState) → Stays d e
    → SessionHears image cut brings last d.config (session_at d.sessions cut.index)
    → SessionHears image cut brings last e.config (session_at e.sessions cut.index)
stayed_hears image cut brings last d e m h =
    subst (λ (c : Configuration). SessionHears image cut brings last c (session_at e.sessions cut.index)) (sym m.config)
    (subst (λ (t : SessionTable). SessionHears image cut brings last d.config (session_at t cut.index)) (sym m.sessions) h)

pub reached_hears : (image : List ℕ) (lines : List Line) (sent more : List SentPayload) (w v : WorldState)
    (said : Said) (line : Line) (r : IsReached image said w v) → All (λ b. b < 2 ^ 8) image
    → read_lines (Ok (first_world image)) (take w.lines lines) ≡ Ok w
    → IsDeviceFor image (cut_of w.server.plan) r.old → sent ≡ w.sent ++ more
    → numbered lines (w.lines + 1) ≡ Some line → Says line said
    → SessionHears image (cut_of w.server.plan) (Brings image lines sent r.id) w.lines r.old.config (session_at r.old.sessions w.server.plan.index)
    → SessionHears image (cut_of w.server.plan) (Brings image lines sent r.id) (w.lines + 1) r.new.config
    (session_at r.new.sessions w.server.plan.index)
reached_hears image lines sent more w v said line r bytes read k grown line_is says h =
    let cut : Cut = cut_of w.server.plan in
    let last : ℕ = w.lines in
    let own : Option Session = session_at r.old.sessions cut.index in
    let brings : ℕ → Command → Type 0 = Brings image lines sent r.id in
    let got : numbered sent r.number ≡ Some r.payload = ap (λ (xs : List SentPayload). numbered xs r.number) grown
    ∙ numbered_more w.sent more r.number r.payload r.got in
    let one : (c : Command) → IsListed (row c) 201 direction.Down → port_of c ≡ 201 → (b : brings (last + 1) c)
    → IsTheOne b.0 c r.down =
    λ c listed port b. delivered_one image cut lines sent r.id (last + 1) line r.number r.word r.payload r.down bytes
    r.is_cut r.is_sent r.down_is line_is (subst (Says line) r.said_is says) got b.0 c listed port b.3 in
    let listens : (c : Command) → IsListed (row c) 201 direction.Down → port_of c ≡ 201 → brings (last + 1) c
    → IsHeardIn r.down.to w r.old =
    λ c listed port b. subst (λ (to : To). IsHeardIn to w r.old) (one c listed port b).to_is
    (heard_in image lines w b.1 r.id r.old b.2 b.0 read r.before b.4) in
    let setup : brings (last + 1) (setup_request image cut) → setup_request image cut ≡ r.down.command =
    λ b. (one (setup_request image cut) (record { port_is = refl; direction_is = refl }) refl b).command in
    let at_last : (f : Fragment) → f.mark ≡ last + 1 → brings f.mark (Cast (DataFragment cut.index f.number f.part))
    → brings (last + 1) (Cast (DataFragment cut.index f.number f.part)) =
    λ f at b. subst (λ (n : ℕ). brings n (Cast (DataFragment cut.index f.number f.part))) at b in
    let fragment : (f : Fragment) → f.mark ≡ last + 1 → brings f.mark (Cast (DataFragment cut.index f.number f.part))
    → Cast (DataFragment cut.index f.number f.part) ≡ r.down.command =
    λ f at b. (one (Cast (DataFragment cut.index f.number f.part)) (record { port_is = refl; direction_is = refl }) refl
    (at_last f at b)).command in
    let hearing : (f : Fragment) → f.mark ≡ last + 1 → brings f.mark (Cast (DataFragment cut.index f.number f.part))
    → IsHeardIn r.down.to w r.old =
    λ f at b. listens (Cast (DataFragment cut.index f.number f.part)) (record { port_is = refl; direction_is = refl }) refl
    (at_last f at b) in
    elim r.acts [
      | inl deaf ↦ stayed_hears image cut brings (last + 1) r.old r.new deaf.1
          (session_more image cut brings last r.old.config own
          (λ b. true≢false (sym (listens (setup_request image cut) (record { port_is = refl; direction_is = refl }) refl
          b).hearing ∙ deaf.0))
          (λ f at b. true≢false (sym (hearing f at b).hearing ∙ deaf.0)) h)
      | inr heard ↦ elim heard.1 [
        | inl a ↦ moved_hears image cut brings (last + 1) _ r.old r.new a.2
            (setup_hears image cut brings last r.old.config own k.session
            (λ f at b. let e : Cast (DataFragment cut.index f.number f.part) ≡ setup_request image cut = fragment f at b
            ∙ a.0 in cc) h)
        | inr other ↦ elim other [
          | inl a ↦ moved_hears image cut brings (last + 1) _ r.old r.new a.3
              (fragment_hears image cut brings last r.old.config own (way_of w.time r.old r.down.to) a.0
              (data_of image cut.size a.0)
              (record { first = a.1.0; last = a.1.1; part = refl }) k.session
              (λ b. let e : setup_request image cut ≡ fragment_command image cut a.0 = setup b ∙ a.2 in cc)
              (λ f at b. record {
                same = same_fragment cut.index f a.0 (data_of image cut.size a.0) (last + 1) (fragment f at b ∙ a.2) at;
                takes = (hearing f at b).way;
              }) h)
          | inr a ↦ stayed_hears image cut brings (last + 1) r.old r.new a.1
              (session_more image cut brings last r.old.config own
              (λ b. no_setup_there image cut r.down.command a.0 (setup b))
              (λ f at b. no_fragment_there cut f.number f.part r.down.command a.0 (fragment f at b)) h)
        ]
      ]
    ]
