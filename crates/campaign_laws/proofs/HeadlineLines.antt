-- Each heard fragment was brought by the line whose number is its mark.
use Rattle.std.proofs.Common.{◌≡◌, ◌⊎◌, inl, inr, ℕ, suc, ◌+◌, ◌-◌, ◌^◌, ◌<◌, ◌≤◌, Bool, true, false, cond, ◌==◌, List, [], ◌∷◌, ◌++◌, All, take, drop, Option, None, Some, IfSome, is_none, Result, Ok, Err, IfOk, refl, sym, ap, ◌∙◌, subst, arith}
use Rattle.std.specs.List.{slice_set}
use Rattle.cast_wire.specs.declared.cmd.Cmd.TheVariants.{DataFragment}
use Rattle.frag_model.specs.Fragments.{Fragment}
use Rattle.frag_encoder.specs.Encoding.{data_of}
use Rattle.frag_session.specs.declared.setups.SetupReq.{SetupReq}
use Rattle.frag_session.specs.declared.setups.Limits.{Limits}
use Rattle.frag_session.specs.declared.answers.Cause.{Cause}
use Rattle.frag_session.specs.declared.answers.Cause.TheVariants as cause
use Rattle.frag_session.specs.declared.answers.Via.{Via}
use Rattle.frag_session.specs.Setup.{Room, setup_bits, same_setup}
use Rattle.frag_session.specs.Session as sessions
use Rattle.frag_session.specs.Session.{Session, new_session, renewed, after_setup, followed, after_fragment, drop_cause, excludes}
use Rattle.package_grammar.specs.declared.command.Command.{Command}
use Rattle.package_grammar.specs.declared.command.Command.TheVariants.{Cast}
use Rattle.package_grammar.specs.declared.downlink.To.{To}
use Rattle.package_grammar.specs.declared.downlink.To.TheVariants.{Unicast}
use Rattle.package_grammar.specs.declared.downlink.Downlink.{Downlink}
use Rattle.device_core.specs.Configuration.{Configuration}
use Rattle.device_core.specs.SessionTable.{SessionTable, session_at}
use Rattle.device_core.specs.Device.{DeviceState, first_device}
use Rattle.device_core.specs.ClassSessions.{hears}
use Rattle.campaign_server.specs.Server.{DownlinkCommand, downlink_of}
use Rattle.wire_base.specs.Numbered.{numbered}
use Rattle.campaign_world.specs.declared.section.Section.{Section}
use Rattle.campaign_world.specs.declared.section.Section.TheVariants as section
use Rattle.report_lines.specs.declared.faults.LineWhy.{LineWhy}
use Rattle.report_lines.specs.declared.faults.LineFault.{LineFault}
use Rattle.campaign_world.specs.declared.numbered.SentPayload.{SentPayload}
use Rattle.campaign_world.specs.World.{WorldState, first_world}
use Rattle.campaign_world.specs.Said.{Said, Line}
use Rattle.campaign_world.specs.Causes.{line_cause, cause_of}
use Rattle.campaign_world.specs.Making.{config_of, after_said}
use Rattle.campaign_world.specs.Script.{one_line_more, after_line, line_result, read_line, read_lines, end_result_at, end_result, campaign_of}
use Rattle.campaign_world.specs.Honest.{AreHonest}
use Rattle.campaign_laws.specs.Headline.{HandsOver, Delivers, Listens, campaign_before, Brings, WasBrought, CameInOrder}
use Rattle.campaign_server.proofs.LineItems.{if_some, some_is, some_weaker, none_there, numbered_more, numbered_push, numbered_put, numbered_there, numbered_next, take_next}
use Rattle.campaign_laws.proofs.HeadlineCommands.{Cut, cut_of, setup_req, command_of, setup_request, fragment_command, IsGood, setup_good, fragment_good}
use Rattle.device_core.proofs.Stays.{Moves, Stays}
use Rattle.campaign_laws.proofs.OwnSession.{at_own, none_at}
use Rattle.campaign_laws.proofs.HeadlinePayloads.{comes_to, way_of}
use Rattle.campaign_laws.proofs.HeadlineEnds.{IsSetFor, IsDeviceFor}
use Rattle.campaign_laws.proofs.HeadlineWorlds.{Keeps, HasStayed, IsQuiet, Turns, IsReached}
use Rattle.campaign_laws.specs.Fields.{AllFit}
use Rattle.campaign_laws.proofs.HonestLines.{heard_said, Says, says_down, Stands, first_stands, goes_on_by}
use Rattle.campaign_world.proofs.Sections.{by_section}

-- ---- deliveries as the campaign goes on

later : (image : List ℕ) (lines : List Line) (sent : List SentPayload) (id index : ℕ) (setup : Command) (last next : ℕ)
    (heard : List Fragment) → last ≤ next → CameInOrder image lines sent id index setup last heard
    → CameInOrder image lines sent id index setup next heard
later image lines sent id index setup last next [] le h = (h.0, omega (arith, h.1, le), h.2)
later image lines sent id index setup last next (f ∷ older) le h = (omega (arith, h.0, le), h.1, h.2)

pub still_brings : (image : List ℕ) (lines : List Line) (sent more : List SentPayload) (id n : ℕ) (c : Command)
    → Brings image lines sent id n c → Brings image lines (sent ++ more) id n c
still_brings image lines sent more id n c b = (
  b.0,
  b.1,
  b.2,
  (
    b.3.0,
    b.3.1,
    b.3.2,
    b.3.3,
    record {
      line_is = b.3.4.line_is;
      hands_over = b.3.4.hands_over;
      payload_is = numbered_more sent more b.3.1 _ b.3.4.payload_is;
      valid = b.3.4.valid;
    },
  ),
  b.4,
)

more_sent : (image : List ℕ) (lines : List Line) (sent more : List SentPayload) (id index : ℕ) (setup : Command)
    (last : ℕ) (heard : List Fragment) → CameInOrder image lines sent id index setup last heard
    → CameInOrder image lines (sent ++ more) id index setup last heard
more_sent image lines sent more id index setup last [] h = (h.0, h.1, still_brings image lines sent more id h.0 setup h.2)
more_sent image lines sent more id index setup last (f ∷ older) h = (
  h.0,
  still_brings image lines sent more id f.mark (Cast (DataFragment index f.number f.part)) h.1,
  more_sent image lines sent more id index setup (f.mark - 1) older h.2,
)

-- what a session heard
abbrev SessionCame : List ℕ → List Line → List SentPayload → (id last : ℕ) → Session → Type 0
SessionCame image lines sent id last s = CameInOrder image lines sent id s.setup.index (command_of s.setup) last s.heard

-- what a device's session of this index heard
abbrev DeviceCame : List ℕ → List Line → List SentPayload → (id index last : ℕ) → DeviceState → Type 0
DeviceCame image lines sent id index last d = IfSome (session_at d.sessions index) (SessionCame image lines sent id last)

session_later : (image : List ℕ) (lines : List Line) (sent : List SentPayload) (id n : ℕ) (s : Option Session)
    → IfSome s (SessionCame image lines sent id n) → IfSome s (SessionCame image lines sent id (n + 1))
session_later image lines sent id n s h =
    some_weaker (SessionCame image lines sent id n) (SessionCame image lines sent id (n + 1)) s
    (λ x c. later image lines sent id x.setup.index (command_of x.setup) n (n + 1) x.heard (omega arith) c) h

session_on : (image : List ℕ) (lines : List Line) (sent more : List SentPayload) (id n : ℕ) (s : Option Session)
    → IfSome s (SessionCame image lines sent id n) → IfSome s (SessionCame image lines (sent ++ more) id (n + 1))
session_on image lines sent more id n s h =
    some_weaker (SessionCame image lines sent id (n + 1)) (SessionCame image lines (sent ++ more) id (n + 1)) s
    (λ x c. more_sent image lines sent more id x.setup.index (command_of x.setup) (n + 1) x.heard c)
    (session_later image lines sent id n s h)

-- ---- a command

fresh_came : (image : List ℕ) (lines : List Line) (sent : List SentPayload) (id last : ℕ) (limits : Limits)
    (req : SetupReq) → Brings image lines sent id last (command_of req)
    → SessionCame image lines sent id last (new_session limits req)
unfolding new_session
fresh_came image lines sent id last limits req b = (last, omega arith, b)

renewed_by : (image : List ℕ) (lines : List Line) (sent : List SentPayload) (id last : ℕ) (limits : Limits)
    (s : Session) (req : SetupReq) (b : Bool) → Brings image lines sent id last (command_of req)
    → SessionCame image lines sent id last s
    → SessionCame image lines sent id last (cond b s (new_session limits req))
renewed_by image lines sent id last limits s req true d h = h
renewed_by image lines sent id last limits s req false d h = fresh_came image lines sent id last limits req d

renewed_came : (image : List ℕ) (lines : List Line) (sent : List SentPayload) (id last : ℕ) (limits : Limits)
    (s : Option Session) (req : SetupReq) → Brings image lines sent id last (command_of req)
    → IfSome s (SessionCame image lines sent id last)
    → SessionCame image lines sent id last (renewed limits s req)
unfolding renewed
renewed_came image lines sent id last limits None req d h = fresh_came image lines sent id last limits req d
renewed_came image lines sent id last limits (Some s) req d h =
    renewed_by image lines sent id last limits s req (same_setup s.setup req) d h

setup_by : (image : List ℕ) (lines : List Line) (sent : List SentPayload) (id last : ℕ) (limits : Limits)
    (s : Option Session) (req : SetupReq) (b : Bool) → Brings image lines sent id last (command_of req)
    → IfSome s (SessionCame image lines sent id last)
    → IfSome (cond b (Some (renewed limits s req)) s) (SessionCame image lines sent id last)
setup_by image lines sent id last limits s req true d h = renewed_came image lines sent id last limits s req d h
setup_by image lines sent id last limits s req false d h = h

setup_came : (image : List ℕ) (lines : List Line) (sent : List SentPayload) (id last : ℕ) (limits : Limits)
    (here : Room) (s : Option Session) (req : SetupReq) → Brings image lines sent id last (command_of req)
    → IfSome s (SessionCame image lines sent id last)
    → IfSome (after_setup limits here s req) (SessionCame image lines sent id last)
unfolding after_setup
setup_came image lines sent id last limits here s req d h =
    setup_by image lines sent id last limits s req (setup_bits limits here req == 0) d h

followed_came : (image : List ℕ) (lines : List Line) (sent : List SentPayload) (id n : ℕ) (s : Session)
    (number : ℕ) (part : List ℕ)
    → WasBrought image lines sent id s.setup.index (record { number = number; part = part; mark = n + 1 })
    → SessionCame image lines sent id n s
    → SessionCame image lines sent id (n + 1) (followed s number part (n + 1))
unfolding followed
followed_came image lines sent id n s number part f h =
    let back : (n + 1) - 1 ≡ n = omega arith in (
      omega arith,
      f,
      subst (λ (k : ℕ). CameInOrder image lines sent id s.setup.index (command_of s.setup) k s.heard) (sym back) h,
    )

-- a fragment that is not dropped came by a way that the session takes
open_by : (b : Bool) (rest : Option Cause) → is_none (cond b (Some cause.Group) rest) ≡ true → b ≡ false
open_by true rest is = absurd cc
open_by false rest is = refl

pub open_way : (s : Session) (way : Via) (n : ℕ) (part : List ℕ) → is_none (drop_cause (Some s) way n part) ≡ true
    → excludes s.setup.mask way ≡ false
unfolding drop_cause sessions.cause_of
open_way s way n part is = open_by (excludes s.setup.mask way) _ is

heard_by : (image : List ℕ) (lines : List Line) (sent : List SentPayload) (id n : ℕ) (s : Session) (number : ℕ)
    (part : List ℕ) (b : Bool)
    → (b ≡ true → WasBrought image lines sent id s.setup.index (record { number = number; part = part; mark = n + 1 }))
    → SessionCame image lines sent id n s
    → IfSome (cond b (Some (followed s number part (n + 1))) (Some s)) (SessionCame image lines sent id (n + 1))
heard_by image lines sent id n s number part true f h = followed_came image lines sent id n s number part (f refl) h
heard_by image lines sent id n s number part false f h =
    later image lines sent id s.setup.index (command_of s.setup) n (n + 1) s.heard (omega arith) h

no_session : (image : List ℕ) (lines : List Line) (sent : List SentPayload) (id n : ℕ) (way : Via) (number : ℕ)
    (part : List ℕ) → IfSome (after_fragment None way number part (n + 1)) (SessionCame image lines sent id (n + 1))
unfolding after_fragment drop_cause
no_session image lines sent id n way number part = tt

fragment_came : (image : List ℕ) (lines : List Line) (sent : List SentPayload) (id n : ℕ) (s : Option Session)
    (way : Via) (number : ℕ) (part : List ℕ)
    → ((x : Session) → s ≡ Some x → excludes x.setup.mask way ≡ false
    → WasBrought image lines sent id x.setup.index (record { number = number; part = part; mark = n + 1 }))
    → IfSome s (SessionCame image lines sent id n)
    → IfSome (after_fragment s way number part (n + 1)) (SessionCame image lines sent id (n + 1))
unfolding after_fragment
fragment_came image lines sent id n None way number part f h = no_session image lines sent id n way number part
fragment_came image lines sent id n (Some s) way number part f h =
    heard_by image lines sent id n s number part (is_none (drop_cause (Some s) way number part))
    (λ is. f s refl (open_way s way number part is)) h

-- a payload that the server sent reaches the device by this line
delivers : (lines : List Line) (sent : List SentPayload) (id n : ℕ) (p : SentPayload) (down : DownlinkCommand)
    (c : Command) (line : Line) (number word : ℕ) → numbered lines n ≡ Some line
    → HandsOver line number id word
    → numbered sent number ≡ Some p → p.down ≡ downlink_of down → down.command ≡ c → IsGood c
    → Delivers lines sent id n (record { to = down.to; command = c })
delivers lines sent id n p down c line number word line_is form got down_is is good = (
  line,
  number,
  word,
  p.receiver,
  record {
    line_is = line_is;
    hands_over = form;
    payload_is = got ∙ ap (λ (x : Downlink). let o : Option SentPayload =
        Some (record { receiver = p.receiver; down = x }) in o)
        (down_is ∙ ap (λ (x : Command). downlink_of (record { to = down.to; command = x })) is);
    valid = good.valid;
  },
)

moved_came : (image : List ℕ) (lines : List Line) (sent : List SentPayload) (id index n : ℕ)
    (F : Configuration → Option Session → Option Session) (d e : DeviceState) → Moves index F d e
    → IfSome (F d.config (session_at d.sessions index)) (SessionCame image lines sent id n)
    → DeviceCame image lines sent id index n e
moved_came image lines sent id index n F d e m h =
    subst (λ (o : Option Session). IfSome o (SessionCame image lines sent id n))
    (sym (ap (λ (t : SessionTable). session_at t index) m.sessions
    ∙ at_own d.sessions index (F d.config (session_at d.sessions index)))) h

stayed_came : (image : List ℕ) (lines : List Line) (sent : List SentPayload) (id index n : ℕ) (d e : DeviceState) → Stays d e
    → DeviceCame image lines sent id index n d → DeviceCame image lines sent id index n e
stayed_came image lines sent id index n d e m h =
    subst (λ (t : SessionTable). IfSome (session_at t index) (SessionCame image lines sent id n)) (sym m.sessions) h

-- the campaign before a line is the one that is read up to it
pub before_next : (image : List ℕ) (lines : List Line) (w : WorldState)
    → read_lines (Ok (first_world image)) (take w.lines lines) ≡ Ok w
    → campaign_before image lines (w.lines + 1) ≡ Ok w
before_next image lines w is =
    let back : (w.lines + 1) - 1 ≡ w.lines = omega arith in
    ap (λ (k : ℕ). read_lines (Ok (first_world image)) (take k lines)) back ∙ is

-- a device that hears
listens : (image : List ℕ) (lines : List Line) (w : WorldState) (id : ℕ) (to : To) (d : DeviceState)
    → read_lines (Ok (first_world image)) (take w.lines lines) ≡ Ok w → numbered w.devices id ≡ Some d
    → hears (comes_to w.time d) w.time to ≡ true
    → excludes (cut_of w.server.plan).mask (way_of w.time d to) ≡ false
    → Listens image lines id (w.lines + 1) to w d
listens image lines w id to d is there hears_it way =
    record { before = before_next image lines w is; there = there; hearing = hears_it; way = way }

mask_is : (image : List ℕ) (cut : Cut) (s : Session) (way : Via) → IsSetFor image cut s
    → excludes s.setup.mask way ≡ false → excludes cut.mask way ≡ false
mask_is image cut s way k is =
    sym (ap (λ (r : SetupReq). excludes r.mask way) k.setup) ∙ is

by_unicast : (mask t : ℕ) (d : DeviceState) → excludes mask (way_of t d Unicast) ≡ false
unfolding excludes
by_unicast mask t d = refl

reached_came : (image : List ℕ) (lines : List Line) (w v : WorldState) (said : Said) (line : Line)
    (r : IsReached image said w v) → All (λ b. b < 2 ^ 8) image
    → read_lines (Ok (first_world image)) (take w.lines lines) ≡ Ok w
    → numbered lines (w.lines + 1) ≡ Some line → Says line said
    → IsDeviceFor image (cut_of w.server.plan) r.old
    → DeviceCame image lines w.sent r.id w.server.plan.index w.lines r.old
    → DeviceCame image lines w.sent r.id w.server.plan.index (w.lines + 1) r.new
reached_came image lines w v said line r bytes read line_is says its h =
    let cut : Cut = cut_of w.server.plan in
    let n : ℕ = w.lines + 1 in
    let here : Option Session = session_at r.old.sessions cut.index in
    let down : HandsOver line r.number r.id r.word =
    says_down line said r.number r.id r.word says r.said_is in
    let old : IfSome here (SessionCame image lines w.sent r.id n) =
    session_later image lines w.sent r.id w.lines here h in
    elim r.acts [
      | inl deaf ↦ stayed_came image lines w.sent r.id cut.index n r.old r.new deaf.1 old
      | inr heard ↦ elim heard.1 [
        | inl a ↦
            moved_came image lines w.sent r.id cut.index n _ r.old r.new a.2
            (setup_came image lines w.sent r.id n _ _ here (setup_req image cut) (
              r.down.to,
              w,
              r.old,
              delivers lines w.sent r.id n r.payload r.down (setup_request image cut) line r.number r.word line_is
                  down r.got r.down_is a.0 (setup_good image cut bytes r.is_cut),
              listens image lines w r.id r.down.to r.old read r.before heard.0
                  (ap (λ (to : To). excludes cut.mask (way_of w.time r.old to)) a.1 ∙ by_unicast cut.mask w.time r.old),
            ) old)
        | inr other ↦ elim other [
          | inl a ↦
              moved_came image lines w.sent r.id cut.index n _ r.old r.new a.3
              (fragment_came image lines w.sent r.id w.lines here (way_of w.time r.old r.down.to) a.0
              (data_of image cut.size a.0)
              (λ s is way.
              let set = if_some (IsSetFor image cut) here s is its.session in
              let own : s.setup.index ≡ cut.index = ap (λ (q : SetupReq). q.index) set.setup in
              subst (λ (i : ℕ). WasBrought image lines w.sent r.id i (record { number = a.0; part = data_of image cut.size a.0; mark = n })) (sym own) (
                r.down.to,
                w,
                r.old,
                delivers lines w.sent r.id n r.payload r.down (fragment_command image cut a.0) line r.number r.word
                    line_is down r.got r.down_is a.2 (fragment_good image cut a.0 r.is_cut a.1),
                listens image lines w r.id r.down.to r.old read r.before heard.0
                    (mask_is image cut s _ set way),
              )) h)
          | inr a ↦ stayed_came image lines w.sent r.id cut.index n r.old r.new a.1 old
        ]
      ]
    ]

-- ---- a line

-- what each device heard
pub AllCame : List ℕ → (index : ℕ) → List Line → List SentPayload → ℕ → List DeviceState → Type 0
AllCame image index lines sent n ds = (id : ℕ) → IfSome (numbered ds id) (DeviceCame image lines sent id index n)

none_came : (image : List ℕ) (index : ℕ) (lines : List Line) (sent : List SentPayload) (n : ℕ) (ds : List DeviceState)
    → ds ≡ [] → AllCame image index lines sent n ds
unfolding AllCame
none_came image index lines sent n ds is id =
    subst (λ (o : Option DeviceState). IfSome o (DeviceCame image lines sent id index n))
    (sym (none_there ds id is)) tt

quiet_came : (image : List ℕ) (lines : List Line) (sent more : List SentPayload) (id index n : ℕ)
    (old new : Option DeviceState) → IfSome old (DeviceCame image lines sent id index n)
    → (new ≡ old) ⊎ HasStayed old new → IfSome new (DeviceCame image lines (sent ++ more) id index (n + 1))
quiet_came image lines sent more id index n old new h (inl same) =
    subst (λ (o : Option DeviceState). IfSome o (DeviceCame image lines (sent ++ more) id index (n + 1))) (sym same)
    (some_weaker (DeviceCame image lines sent id index n) (DeviceCame image lines (sent ++ more) id index (n + 1)) old
    (λ d c. session_on image lines sent more id n (session_at d.sessions index) c) h)
quiet_came image lines sent more id index n old new h (inr s) =
    some_is (DeviceCame image lines (sent ++ more) id index (n + 1)) new s.e s.is
    (stayed_came image lines (sent ++ more) id index (n + 1) s.d s.e s.moves
    (session_on image lines sent more id n (session_at s.d.sessions index)
    (if_some (DeviceCame image lines sent id index n) old s.d s.was h)))

device_later : (image : List ℕ) (lines : List Line) (sent : List SentPayload) (id index n : ℕ) (o : Option DeviceState)
    → IfSome o (DeviceCame image lines sent id index n) → IfSome o (DeviceCame image lines sent id index (n + 1))
device_later image lines sent id index n o h =
    some_weaker (DeviceCame image lines sent id index n) (DeviceCame image lines sent id index (n + 1)) o
    (λ d c. session_later image lines sent id n (session_at d.sessions index) c) h

joined_came : (image : List ℕ) (index : ℕ) (lines : List Line) (sent : List SentPayload) (n : ℕ) (ds : List DeviceState)
    (config : Configuration) → AllCame image index lines sent n ds
    → AllCame image index lines sent (n + 1) (ds ++ first_device config ∷ [])
unfolding AllCame
joined_came image index lines sent n ds config h id = elim (numbered_push ds (first_device config) id) [
  | inl same ↦ subst (λ (o : Option DeviceState). IfSome o (DeviceCame image lines sent id index (n + 1))) (sym same)
      (device_later image lines sent id index n (numbered ds id) (h id))
  | inr new ↦ some_is (DeviceCame image lines sent id index (n + 1)) _ (first_device config) new.1
      (subst (λ (o : Option Session). IfSome o (SessionCame image lines sent id (n + 1))) (sym (none_at index)) tt)
]

-- where the image is cut as it was, the index is what it was
pub index_on : (w v : WorldState) → cut_of v.server.plan ≡ cut_of w.server.plan → v.server.plan.index ≡ w.server.plan.index
index_on w v cut = ap (λ (c : Cut). c.index) cut

turn_came : (image : List ℕ) (lines : List Line) (w v : WorldState) (said : Said) (line : Line)
    → All (λ b. b < 2 ^ 8) image → Keeps image w
    → read_lines (Ok (first_world image)) (take w.lines lines) ≡ Ok w
    → Turns image said w v → numbered lines (w.lines + 1) ≡ Some line → Says line said
    → AllCame image w.server.plan.index lines w.sent w.lines w.devices
    → AllCame image v.server.plan.index lines v.sent (w.lines + 1) v.devices
unfolding AllCame
turn_came image lines w v said line bytes k read turn line_is says h = elim turn.how [
  | inl q ↦ subst (λ (i : ℕ). AllCame image i lines v.sent (w.lines + 1) v.devices) (sym (index_on w v q.cut))
      (subst (λ (ss : List SentPayload). AllCame image index lines ss (w.lines + 1) v.devices) (sym q.sent) (quiet q))
  | inr other ↦ elim other [
    | inl b ↦ none_came image v.server.plan.index lines v.sent (w.lines + 1) v.devices b.devices
    | inr another ↦ elim another [
      | inl j ↦ subst (λ (i : ℕ). AllCame image i lines v.sent (w.lines + 1) v.devices) (sym (index_on w v j.cut))
          (subst (λ (ss : List SentPayload). AllCame image index lines ss (w.lines + 1) v.devices) (sym j.sent)
          (subst (AllCame image index lines w.sent (w.lines + 1)) (sym j.devices)
          (joined_came image index lines w.sent w.lines w.devices
          (config_of j.dev) h)))
      | inr r ↦ subst (λ (i : ℕ). AllCame image i lines v.sent (w.lines + 1) v.devices) (sym (index_on w v r.cut))
          (subst (λ (ss : List SentPayload). AllCame image index lines ss (w.lines + 1) v.devices) (sym r.sent)
          (subst (AllCame image index lines w.sent (w.lines + 1)) (sym r.devices) (reached r)))
    ]
  ]
]
  where
    index : ℕ
    index = w.server.plan.index

    quiet : (q : IsQuiet image said w v) → AllCame image index lines (w.sent ++ q.more) (w.lines + 1) v.devices
    quiet q id = quiet_came image lines w.sent q.more id index w.lines (numbered w.devices id) (numbered v.devices id) (h id)
        (q.devices id)

    reached : (r : IsReached image said w v)
        → AllCame image index lines w.sent (w.lines + 1) (slice_set w.devices (r.id - 1) r.new)
    reached r id = elim (numbered_put w.devices r.id id r.new r.first) [
      | inr same ↦ subst (λ (o : Option DeviceState). IfSome o (DeviceCame image lines w.sent id index (w.lines + 1))) (sym same)
          (device_later image lines w.sent id index w.lines (numbered w.devices id) (h id))
      | inl is ↦ some_is (DeviceCame image lines w.sent id index (w.lines + 1)) _ r.new
          (ap (λ (x : ℕ). numbered (slice_set w.devices (r.id - 1) r.new) x) is
          ∙ numbered_there w.devices r.id r.old r.new r.before)
          (subst (λ (x : ℕ). DeviceCame image lines w.sent x index (w.lines + 1) r.new) (sym is)
          (reached_came image lines w v said line r bytes read line_is says
          (if_some (IsDeviceFor image (cut_of w.server.plan)) (numbered w.devices r.id) r.old r.before (k.devices r.id))
          (if_some (DeviceCame image lines w.sent r.id index w.lines) (numbered w.devices r.id) r.old r.before (h r.id))))
    ]

-- ---- lines that are read

-- what holds between two lines, with these lines left
pub record Reads (image : List ℕ) (index : ℕ) (lines : List Line) (rest : List Line) (w : WorldState) : Type 0 where
  pub stands : Stands image index w
  pub came : AllCame image w.server.plan.index lines w.sent w.lines w.devices
  pub left : drop w.lines lines ≡ rest
  pub read : read_lines (Ok (first_world image)) (take w.lines lines) ≡ Ok w
  pub fits : AllFit index rest
  pub honest : AreHonest index rest

-- lines are read one after another
read_more : (r : Result WorldState LineFault) (xs : List Line) (x : Line)
    → read_lines r (xs ++ x ∷ []) ≡ read_lines (read_lines r xs) (x ∷ [])
unfolding read_lines
read_more (Err fault) xs x = refl
read_more (Ok w) [] x = refl
read_more (Ok w) (y ∷ ys) x = read_more (read_line w y) ys x

read_one : (w : WorldState) (x : Line) → cause_of w x ≡ None → read_lines (Ok w) (x ∷ []) ≡ Ok (after_line w x)
unfolding read_lines read_line
read_one w x fine = ap (λ (c : Option LineWhy). read_lines (line_result w x c) []) fine

read_next : (image : List ℕ) (lines : List Line) (w : WorldState) (line : Line) (rest : List Line)
    → read_lines (Ok (first_world image)) (take w.lines lines) ≡ Ok w → drop w.lines lines ≡ line ∷ rest
    → cause_of w line ≡ None
    → read_lines (Ok (first_world image)) (take (w.lines + 1) lines) ≡ Ok (after_line w line)
read_next image lines w line rest read left fine =
    let one : w.lines + 1 ≡ suc w.lines = omega arith in
    ap (λ (k : ℕ). read_lines (Ok (first_world image)) (take k lines)) one
    ∙ ap (λ (xs : List Line). read_lines (Ok (first_world image)) xs) (take_next lines w.lines line rest left)
    ∙ read_more (Ok (first_world image)) (take w.lines lines) line
    ∙ ap (λ (r : Result WorldState LineFault). read_lines r (line ∷ [])) read
    ∙ read_one w line fine

-- the next line is read
said_reads : (image : List ℕ) (index : ℕ) (lines : List Line) (w : WorldState) (line : Line) (rest : List Line)
    → All (λ b. b < 2 ^ 8) image → Reads image index lines (line ∷ rest) w
    → cause_of w line ≡ None → line_cause w line ≡ None → Reads image index lines rest (after_line w line)
said_reads image index lines w (Err cause) rest bytes r none fine = absurd cc
said_reads image index lines w (Ok said) rest bytes r none fine =
    let line : Line = Ok said in
    let next = numbered_next lines w.lines line rest r.left in
    let on = goes_on_by image index w line said bytes r.stands refl none r.fits.0 fine r.honest.0 in
    let v : WorldState = after_said w (heard_said said) in
    let came = turn_came image lines w v (heard_said said) line bytes r.stands.keeps r.read on.turn next.0 on.says r.came in
    let behind : Reads image index lines rest (one_line_more v) = record {
      stands = on.stands;
      came = subst (λ (n : ℕ). AllCame image v.server.plan.index lines v.sent (n + 1) v.devices) (sym on.turn.lines) came;
      left = ap (λ (n : ℕ). drop (n + 1) lines) on.turn.lines ∙ next.1;
      fits = r.fits.1;
      honest = r.honest.1;
      read = ap (λ (n : ℕ). read_lines (Ok (first_world image)) (take (n + 1) lines)) on.turn.lines
          ∙ read_next image lines w line rest r.read r.left none
          ∙ ap (λ (u : WorldState). let o : Result WorldState LineFault = Ok (one_line_more u) in o) on.heard.same;
    } in
    subst (λ (u : WorldState). Reads image index lines rest (one_line_more u)) (sym on.heard.same) behind

pub cause_by : (b : Bool) (why : LineWhy) (rest : Option LineWhy) → cond b (Some why) rest ≡ None → rest ≡ None
cause_by true why rest is = absurd cc
cause_by false why rest is = is

line_fine : (w : WorldState) (line : Line) → cause_of w line ≡ None → line_cause w line ≡ None
unfolding cause_of
line_fine w line is = cause_by _ _ _ is

pub line_reads : (image : List ℕ) (index : ℕ) (lines : List Line) (w : WorldState) (line : Line) (rest : List Line)
    (cause : Option LineWhy) → All (λ b. b < 2 ^ 8) image → Reads image index lines (line ∷ rest) w → cause_of w line ≡ cause
    → IfOk (line_result w line cause) (Reads image index lines rest)
line_reads image index lines w line rest (Some why) bytes r is = tt
line_reads image index lines w line rest None bytes r is =
    said_reads image index lines w line rest bytes r is (line_fine w line is)

all_read : (image : List ℕ) (index : ℕ) (lines : List Line) (r : Result WorldState LineFault) (rest : List Line)
    → All (λ b. b < 2 ^ 8) image → IfOk r (Reads image index lines rest) → IfOk (read_lines r rest) (Reads image index lines [])
unfolding read_lines read_line
all_read image index lines (Err fault) rest bytes h = tt
all_read image index lines (Ok w) [] bytes h = h
all_read image index lines (Ok w) (line ∷ rest) bytes h =
    all_read image index lines (read_line w line) rest bytes
    (line_reads image index lines w line rest (cause_of w line) bytes h refl)

pub first_reads : (image : List ℕ) (index : ℕ) (lines : List Line) → AllFit index lines → AreHonest index lines → Reads image index lines lines (first_world image)
unfolding read_lines
first_reads image index lines fits honest = record {
  stands = first_stands image index;
  came = none_came image (first_world image).server.plan.index lines [] 0 [] refl;
  left = refl;
  read = refl;
  fits = fits;
  honest = honest;
}

pub end_by : (here : Section) (w world : WorldState) → end_result_at here w ≡ Ok world → w ≡ world
end_by here w world =
    by_section (λ (x : Section). end_result_at x w ≡ Ok world → w ≡ world) (λ is. absurd cc) (λ is. absurd cc) (λ is. absurd cc) (λ is. absurd cc)
    (λ is. absurd cc) (λ is. absurd cc) (λ is. absurd cc) (λ is. cc) here

pub end_is : (r : Result WorldState LineFault) (world : WorldState) → end_result r ≡ Ok world → r ≡ Ok world
end_is (Err fault) world is = absurd cc
end_is (Ok w) world is =
    ap (λ (x : WorldState). let o : Result WorldState LineFault = Ok x in o) (end_by w.section w world is)

ended_by : (here : Section) (w world : WorldState) → end_result_at here w ≡ Ok world → here ≡ section.Ended
ended_by here w world =
    by_section (λ (x : Section). end_result_at x w ≡ Ok world → x ≡ section.Ended) (λ is. absurd cc) (λ is. absurd cc) (λ is. absurd cc) (λ is. absurd cc)
    (λ is. absurd cc) (λ is. absurd cc) (λ is. absurd cc) (λ is. refl) here

pub ended : (r : Result WorldState LineFault) (world : WorldState) → end_result r ≡ Ok world → world.section ≡ section.Ended
ended (Err fault) world is = absurd cc
ended (Ok w) world is =
    ap (λ (x : WorldState). x.section) (sym (end_by w.section w world is)) ∙ ended_by w.section w world is

pub campaign_reads : (image : List ℕ) (index : ℕ) (lines : List Line) (world : WorldState) → All (λ b. b < 2 ^ 8) image
    → AllFit index lines → AreHonest index lines → campaign_of image lines ≡ Ok world → Reads image index lines [] world
unfolding campaign_of
campaign_reads image index lines world bytes fits honest is =
    subst (λ (r : Result WorldState LineFault). IfOk r (Reads image index lines []))
    (end_is (read_lines (Ok (first_world image)) lines) world is)
    (all_read image index lines (Ok (first_world image)) lines bytes
    (first_reads image index lines fits honest))

-- ---- so it is in each accepted honest campaign

-- a device is one of the server's
pub campaign_device : (image : List ℕ) (index : ℕ) (lines : List Line) (world : WorldState) (id : ℕ) (device : DeviceState)
    → All (λ b. b < 2 ^ 8) image → AllFit index lines → AreHonest index lines → campaign_of image lines ≡ Ok world → numbered world.devices id ≡ Some device
    → IsDeviceFor image (cut_of world.server.plan) device
campaign_device image index lines world id device bytes fits honest is d =
    if_some (IsDeviceFor image (cut_of world.server.plan)) (numbered world.devices id) device d
    ((campaign_reads image index lines world bytes fits honest is).stands.keeps.devices id)

-- and so is its session
pub campaign_session : (image : List ℕ) (index : ℕ) (lines : List Line) (world : WorldState) (id : ℕ) (device : DeviceState) (session : Session)
    → All (λ b. b < 2 ^ 8) image → AllFit index lines → AreHonest index lines → campaign_of image lines ≡ Ok world
    → numbered world.devices id ≡ Some device → (session_at device.sessions world.server.plan.index) ≡ Some session
    → IsSetFor image (cut_of world.server.plan) session
campaign_session image index lines world id device session bytes fits honest is d s =
    if_some (IsSetFor image (cut_of world.server.plan)) (session_at device.sessions world.server.plan.index) session s
    (campaign_device image index lines world id device bytes fits honest is d).session

pub campaign_came : (image : List ℕ) (index : ℕ) (lines : List Line) (world : WorldState) (id : ℕ) (device : DeviceState) (session : Session)
    → All (λ b. b < 2 ^ 8) image → AllFit index lines → AreHonest index lines → campaign_of image lines ≡ Ok world
    → numbered world.devices id ≡ Some device → (session_at device.sessions world.server.plan.index) ≡ Some session
    → CameInOrder image lines world.sent id world.server.plan.index (setup_request image (cut_of world.server.plan)) world.lines
    session.heard
unfolding AllCame
campaign_came image index lines world id device session bytes fits honest is d s =
    let r = campaign_reads image index lines world bytes fits honest is in
    let set = campaign_session image index lines world id device session bytes fits honest is d s in
    let came : SessionCame image lines world.sent id world.lines session =
    if_some (SessionCame image lines world.sent id world.lines) (session_at device.sessions world.server.plan.index) session s
    (if_some (DeviceCame image lines world.sent id world.server.plan.index world.lines) (numbered world.devices id) device d (r.came id)) in
    subst (λ (x : SetupReq). CameInOrder image lines world.sent id x.index (command_of x) world.lines session.heard)
    set.setup came
